use Rattle.std.proofs.Common.{◌-◌, arith, rules}
use Rattle.table.specs.Tables.{parts}
use Rattle.rules.proofs.Climbs.{arriving_step, nearest_step}
use Rattle.rules.proofs.climbing.climb.Goals as goal
use Rattle.rules.specs.Reading.{same_kind}

pub loop-step-preserved : goal.loop-step-preserved
unfolding same_kind
loop-step-preserved c =
    let u = nearest_step (parts c.args.table.now) (32 - c.loop-step._step) c.loop-step.at (omega arith) in
    let v = arriving_step (parts c.args.table.now) (32 - c.loop-step._step) c.loop-step.at c.loop-step.deep (omega arith) in
    search rules
