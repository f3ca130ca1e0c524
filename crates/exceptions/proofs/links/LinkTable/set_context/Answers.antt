use Rattle.std.proofs.Common.{arith}
use Rattle.exceptions.proofs.Tabling.{set_ringless, set_within}
use Rattle.exceptions.proofs.links.LinkTable.set_context.Goals as goal

pub invariant_of-self : goal.invariant_of-self
invariant_of-self g c = record {
  ringless = set_ringless _ _ _ (omega arith) c.requires.opens;
  within = set_within _ _ _ _ (omega arith) c.requires.target c.args.self.now.within;
}
