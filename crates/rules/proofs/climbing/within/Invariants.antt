use Rattle.std.proofs.Common.{◌≡◌, ◌-◌}
use Rattle.rules.specs.Climbing.{within}
use Rattle.table.specs.Tables.{parts}
use Rattle.rules.proofs.climbing.within.Given as goal

-- what is left to climb ends as the whole does
abbrev pub invariant-loop-step : goal.invariant-loop-step
invariant-loop-step l = within (parts l.table) (32 - l._step) l.at ≡ within (parts l.table) 32 l.number
