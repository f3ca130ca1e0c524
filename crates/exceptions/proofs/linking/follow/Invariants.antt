use Rattle.std.proofs.Common.{◌-◌}
use Rattle.exceptions.proofs.Walking.{Going}
use Rattle.exceptions.proofs.linking.follow.Given as goal

abbrev pub invariant-loop-next : goal.invariant-loop-next
invariant-loop-next g l = Going g.X.Exceptions.limit (g.X.Exceptions.world l.x).links l.e l.c l.followed l.at

abbrev pub decreases-loop-next : goal.decreases-loop-next
decreases-loop-next g l = g.X.Exceptions.limit - l.followed
