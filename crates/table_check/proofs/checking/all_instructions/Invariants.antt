use Rattle.std.proofs.Common.{◌≡◌, ◌-◌}
use Rattle.table_check.specs.Checking.{in_turn, instruction_kept}
use Rattle.table.specs.Reading.{instruction_count}
use Rattle.table.specs.Tables.{parts}
use Rattle.table_check.proofs.checking.all_instructions.Given as goal

-- what is left to look at ends as the whole does
abbrev pub invariant-loop-at : goal.invariant-loop-at
invariant-loop-at l =
    in_turn (instruction_kept (parts l.table)) l.at-counter (instruction_count (parts l.table) - l.at-counter)
    ≡ in_turn (instruction_kept (parts l.table)) 0 (instruction_count (parts l.table))
