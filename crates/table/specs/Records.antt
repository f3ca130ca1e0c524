-- The records of a table: what the bytes from one place on say.
use Rattle.std.specs.Prelude.{ℕ, ◌+◌, cond, List, ◌==◌, slice_index}
use Rattle.table.specs.Fields.{u16_at}
use Rattle.table.specs.declared.instructions.Word.{Word}
use Rattle.table.specs.declared.records.Node.{Node}
use Rattle.table.specs.declared.records.NodeKind.{NodeKind}
use Rattle.table.specs.declared.records.NodeKind.TheVariants.{Loop, TryExcept, Finally, FinallyHandler, ExceptHandler, Unknown}
use Rattle.table.specs.declared.records.Shape.{Shape}

-- an instruction: opcode, x and y
abbrev pub word_from : List ℕ → ℕ → Word
word_from b i = record { opcode = slice_index b i; x = slice_index b (i + 1); y = u16_at b (i + 2) }

-- a shape: depth and node
abbrev pub shape_from : List ℕ → ℕ → Shape
shape_from b i = record { depth = u16_at b i; node = u16_at b (i + 2) }

-- the kinds of node by number
abbrev pub node_kind : ℕ → NodeKind
node_kind k =
    cond (k == 1) Loop (
    cond (k == 2) TryExcept (
    cond (k == 3) Finally (
    cond (k == 4) FinallyHandler (
    cond (k == 5) ExceptHandler (
    Unknown k)))))

-- the byte that stands for a kind
abbrev pub kind_byte : NodeKind → ℕ
kind_byte Loop = 1
kind_byte TryExcept = 2
kind_byte Finally = 3
kind_byte FinallyHandler = 4
kind_byte ExceptHandler = 5
kind_byte (Unknown byte) = byte

-- a node: kind and end, then parent, level and handler
abbrev pub node_from : List ℕ → ℕ → Node
node_from b i = record {
  kind = node_kind (slice_index b i);
  end = slice_index b (i + 1);
  parent = u16_at b (i + 2);
  level = u16_at b (i + 4);
  handler = u16_at b (i + 6);
}
