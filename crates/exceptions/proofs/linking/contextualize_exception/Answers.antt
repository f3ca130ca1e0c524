use Rattle.std.proofs.Common.{arith}
use Rattle.std.proofs.lemmas.Grind.{common_steps}
use Rattle.exceptions.specs.Linking.{followed_by, contextualized, relinked}
use Rattle.exceptions.proofs.Keeping.{Told, left_chains, chains_implicit, owed_cut, owed_link}
use Rattle.exceptions.proofs.linking.contextualize_exception.Goals as goal

pub returns-in_default : goal.returns-in_default
unfolding followed_by contextualized
returns-in_default g c =
    let told : Told g.X.Exceptions.limit c.args.levels.now c.args.e (g.X.Exceptions.world c.args.x.now) 0 (g.X.Exceptions.world c.args.x.now) = (grind (arith, common_steps), grind (arith, common_steps)) in
    let chains = left_chains _ _ _ _ _ _ c.vouch.ensures told in
    record { told = told.0; left = told.1; chains = chains; implicit = chains_implicit _ _ _ _ _ _ chains }

pub returns-then-c-e : goal.returns-then-c-e
unfolding followed_by contextualized
returns-then-c-e g c =
    let told : Told g.X.Exceptions.limit c.args.levels.now c.args.e (g.X.Exceptions.world c.args.x.now) 0 (g.X.Exceptions.world c.args.x.now) = (grind (arith, common_steps), grind (arith, common_steps)) in
    let chains = left_chains _ _ _ _ _ _ c.vouch.ensures told in
    record { told = told.0; left = told.1; chains = chains; implicit = chains_implicit _ _ _ _ _ _ chains }

pub strike-requires : goal.strike-requires
strike-requires g c =
    owed_cut _ _ _ _ c.vouch.ensures (omega arith) c.if-c-e.false c.follow-walk.result c.follow-walk.ensures

pub set_context-requires : goal.set_context-requires
set_context-requires g c = record {
  below = omega arith;
  target = omega arith;
  opens = owed_link _ _ _ _ c.vouch.ensures (omega arith) c.if-c-e.false c.follow-walk.result c.follow-walk.ensures _ c.strike.ensures;
}

pub returns : goal.returns
unfolding followed_by contextualized relinked
returns g c =
    let told : Told g.X.Exceptions.limit c.args.levels.now c.args.e (g.X.Exceptions.world c.args.x.now) c.follow-walk.result.followed (g.X.Exceptions.world c.set_context.new.self) = (grind (arith, common_steps), grind (arith, common_steps)) in
    let chains = left_chains _ _ _ _ _ _ c.vouch.ensures told in
    record { told = told.0; left = told.1; chains = chains; implicit = chains_implicit _ _ _ _ _ _ chains }
