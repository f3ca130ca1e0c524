use Rattle.std.proofs.Common.{ℕ, ◌<◌, IfSome, Option, subst}
use Rattle.exceptions.proofs.Rings.{cut_ringless}
use Rattle.exceptions.proofs.linking.strike.Goals as goal

pub set_context-requires : goal.set_context-requires
set_context-requires g c = record {
  below = subst (λ (o : Option ℕ). IfSome o (λ y. y < g.X.Exceptions.limit)) c.in-Some.is c.requires;
  target = tt;
  opens = cut_ringless _ _ c.vouch.ensures.ringless;
}
