use Rattle.std.proofs.Common.{◌≡◌, ◌-◌}
use Rattle.table.specs.Loading.{decodable}
use Rattle.table.specs.Reading.{instruction_count}
use Rattle.table.specs.Tables.{parts}
use Rattle.table.proofs.tables.Table.decodable.Given as goal

-- what is left to look at ends as the whole does
abbrev pub invariant-loop-at : goal.invariant-loop-at
invariant-loop-at l =
    decodable (parts l.self) l.at (instruction_count (parts l.self) - l.at)
    ≡ decodable (parts l.self) 0 (instruction_count (parts l.self))
