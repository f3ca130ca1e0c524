-- What load answers, as a value over the bytes.
use Rattle.std.specs.Prelude.{ℕ, zero, suc, ◌+◌, cond, List, length, is_some, Ok, Err, Result}
use Rattle.table.specs.Header.{measured, numbered, placing, sized}
use Rattle.table.specs.Instructions.{decoding}
use Rattle.table.specs.Layout.{layout_of}
use Rattle.table.specs.Parts.{Parts, parts_of}
use Rattle.table.specs.Reading.{instruction_count, limits_of, word_at}
use Rattle.table.specs.Demands.{◌then◌}
use Rattle.table.specs.declared.refusals.Refusal.{Refusal}
use Rattle.table.specs.declared.refusals.Refusal.TheVariants.{Instruction}

-- n instructions from number i on are looked at in turn: the first that cannot be decoded is refused
unfoldable pub decodable : Parts → ℕ → ℕ → Result Unit Refusal
decodable t i zero = Ok tt
decodable t i (suc n) =
    cond (is_some (decoding (limits_of t) (word_at t i))) (decodable t (i + 1) n) (Err (Instruction i (word_at t i) (limits_of t)))

-- the tests of load, in their order, and then the table
unfoldable pub loading : List ℕ → Result Parts Refusal
loading b =
    sized (length b) then
    placing (length b) (layout_of b) then
    numbered (layout_of b) then
    measured (layout_of b) then
    decodable (parts_of b) 0 (instruction_count (parts_of b)) then
    Ok (parts_of b)
