use Rattle.std.proofs.Common.{◌≡◌, ◌+◌, ◌-◌}
use Rattle.table_check.specs.Checking.{in_turn, node_kept}
use Rattle.table.specs.Reading.{node_count}
use Rattle.table.specs.Tables.{parts}
use Rattle.table_check.proofs.checking.all_nodes.Given as goal

-- what is left to look at ends as the whole does
abbrev pub invariant-loop-number : goal.invariant-loop-number
invariant-loop-number l =
    in_turn (node_kept (parts l.table)) l.number-counter (node_count (parts l.table) + 1 - l.number-counter)
    ≡ in_turn (node_kept (parts l.table)) 1 (node_count (parts l.table))
