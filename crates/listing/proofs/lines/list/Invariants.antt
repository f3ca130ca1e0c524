use Rattle.std.proofs.Common.{◌≡◌, ◌-◌, ◌++◌, string_bytes}
use Rattle.table.specs.Reading.{instruction_count}
use Rattle.table.specs.Tables.{parts}
use Rattle.listing.specs.Lines.{lines_from, listing_text}
use Rattle.listing.proofs.lines.list.Given as goal

-- what is written, with the lines to come, is the whole
abbrev pub invariant-loop-i : goal.invariant-loop-i
invariant-loop-i l = string_bytes l.text ++ lines_from (parts l.table) l.i (instruction_count (parts l.table) - l.i) ≡ listing_text (parts l.table)
