-- The number of each refusal, and its place where it has one.
use Rattle.std.specs.Prelude.{ℕ, Some, None, Option}
use Rattle.table.specs.declared.refusals.Refusal.{Refusal}
use Rattle.table.specs.declared.refusals.Refusal.TheVariants.{Size, Begins, Ends, Number, Records, Uneven, Instruction}

abbrev pub number_of : Refusal → ℕ
number_of (Size bytes) = 1
number_of (Begins part offset earliest) = 2
number_of (Ends part end bytes) = 2
number_of (Number field found) = 3
number_of (Records part length) = 3
number_of (Uneven part length expected) = 3
number_of (Instruction at word limits) = 4

-- only an instruction's refusal has a place: the instruction's index
abbrev pub place_of : Refusal → Option ℕ
place_of (Size bytes) = None
place_of (Begins part offset earliest) = None
place_of (Ends part end bytes) = None
place_of (Number field found) = None
place_of (Records part length) = None
place_of (Uneven part length expected) = None
place_of (Instruction at word limits) = Some at
