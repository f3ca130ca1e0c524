use Rattle.std.proofs.Common.{◌≡◌, ◌-◌, ◌<◌, pos}
use Rattle.rules.specs.Climbing.{arriving, nearest}
use Rattle.table.specs.Tables.{parts}
use Rattle.rules.proofs.climbing.climb.Given as goal

-- what is left to climb ends as the whole does
abbrev pub invariant-loop-step : goal.invariant-loop-step
invariant-loop-step l =
    (nearest (parts l.table) (32 - l._step) l.at ≡ nearest (parts l.table) 32 l.node)
    × (arriving (parts l.table) (32 - l._step) l.at l.deep ≡ arriving (parts l.table) 32 l.node (pos l.depth))
    × (l.at < 65536)
