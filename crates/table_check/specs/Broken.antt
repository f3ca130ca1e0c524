-- The number and the place of what the check refuses.
use Rattle.std.specs.Prelude.{ℕ}
use Rattle.table_check.specs.declared.broken.Broken.{Broken}
use Rattle.table_check.specs.declared.broken.Broken.TheVariants.{Node, Instruction}

abbrev pub number_of : Broken → ℕ
number_of (Node number rule) = 10
number_of (Instruction at rule) = 11

-- the node's number, or the instruction's index
abbrev pub place_of : Broken → ℕ
place_of (Node number rule) = number
place_of (Instruction at rule) = at
