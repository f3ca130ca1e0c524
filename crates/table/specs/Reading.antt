-- What the readers of a table answer: each by its part. An index past the end gets none.
use Rattle.std.specs.Prelude.{ℕ, zero, suc, ◌*◌, ◌/◌, cond, List, length, Some, None, Option, nat_lt}
use Rattle.table.specs.Fields.{u32_at}
use Rattle.table.specs.Instructions.{decoding}
use Rattle.table.specs.Parts.{Parts}
use Rattle.table.specs.Records.{node_from, shape_from, word_from}
use Rattle.table.specs.declared.instructions.Instruction.{Instruction}
use Rattle.table.specs.declared.instructions.Limits.{Limits}
use Rattle.table.specs.declared.instructions.Word.{Word}
use Rattle.table.specs.declared.records.Node.{Node}
use Rattle.table.specs.declared.records.Shape.{Shape}

-- how many records of a size a part holds
abbrev pub records : ℕ → List ℕ → ℕ
records size part = length part / size

abbrev pub instruction_count : Parts → ℕ
instruction_count t = records 4 t.instructions

abbrev pub node_count : Parts → ℕ
node_count t = records 8 t.nodes

abbrev pub constant_count : Parts → ℕ
constant_count t = records 4 t.constants

-- how many instructions, constants and locals an operand may name
abbrev pub limits_of : Parts → Limits
limits_of t = record { instructions = instruction_count t; constants = constant_count t; locals = t.locals }

-- record i of a part, which is read from its place on, or none past the end
abbrev pub record_at : {A : Type 0} → ℕ → (List ℕ → ℕ → A) → List ℕ → ℕ → Option A
record_at size from part i = cond (nat_lt i (records size part)) (Some (from part (size * i))) None

abbrev pub word_at : Parts → ℕ → Word
word_at t i = word_from t.instructions (4 * i)

unfoldable pub instruction_at : Parts → ℕ → Option Instruction
instruction_at t i = cond (nat_lt i (instruction_count t)) (decoding (limits_of t) (word_at t i)) None

unfoldable pub shape_at : Parts → ℕ → Option Shape
shape_at t i = record_at 4 shape_from t.shapes i

-- nodes count from 1
unfoldable pub node_at : Parts → ℕ → Option Node
node_at t zero = None
node_at t (suc i) = record_at 8 node_from t.nodes i

abbrev pub constant_at : Parts → ℕ → Option ℕ
constant_at t i = record_at 4 u32_at t.constants i

abbrev pub row_at : Parts → ℕ → Option ℕ
row_at t i = record_at 4 u32_at t.rows i
