use Rattle.std.proofs.Common.{sym, arith}
use Rattle.exceptions.proofs.Walking.{going_from, going_few, going_on, going_found, going_ended}
use Rattle.exceptions.proofs.linking.follow.Goals as goal

pub loop-next-init : goal.loop-next-init
loop-next-init g c = going_from _ _ _ _ c.vouch.ensures.ringless c.vouch.ensures.within c.requires

pub returns-then-next-e : goal.returns-then-next-e
returns-then-next-e g c = going_found _ _ _ _ _ _ c.loop-next.invariant _ (sym c.in-Some.ensures) c.if-next-e.true

pub loop-next-smaller : goal.loop-next-smaller
loop-next-smaller g c = let few = going_few _ _ _ _ _ _ c.loop-next.invariant in omega arith

pub loop-next-preserved : goal.loop-next-preserved
loop-next-preserved g c =
    going_on _ _ _ _ _ _ c.loop-next.invariant _ c.vouch.ensures.within (sym c.in-Some.ensures) c.if-next-e.false

pub returns : goal.returns
returns g c = going_ended _ _ _ _ _ _ c.loop-next.invariant (sym c.in_default.ensures)
