-- Nodes and shapes by number: node 0 stands for no block, and what the table lacks is read as zeros.
use Rattle.std.specs.Prelude.{ℕ, ◌+◌, Bool, ◌==◌, unwrap_or}
use Rattle.table.specs.Parts.{Parts}
use Rattle.table.specs.Reading.{node_at, shape_at}
use Rattle.table.specs.declared.records.Node.{Node}
use Rattle.table.specs.declared.records.NodeKind.{NodeKind}
use Rattle.table.specs.declared.records.NodeKind.TheVariants.{Loop, TryExcept, Finally, FinallyHandler, ExceptHandler, Unknown}
use Rattle.table.specs.declared.records.Shape.{Shape}

abbrev pub no_block : Node
no_block = record { kind = Unknown 0; end = 0; parent = 0; level = 0; handler = 0 }

abbrev pub empty_shape : Shape
empty_shape = record { depth = 0; node = 0 }

unfoldable pub node_for : Parts → ℕ → Node
node_for t k = unwrap_or (node_at t k) no_block

unfoldable pub shape_for : Parts → ℕ → Shape
shape_for t i = unwrap_or (shape_at t i) empty_shape

-- a node's parts
abbrev pub kind_of : Parts → ℕ → NodeKind
kind_of t k = (node_for t k).kind

abbrev pub end_of : Parts → ℕ → ℕ
end_of t k = (node_for t k).end

abbrev pub parent_of : Parts → ℕ → ℕ
parent_of t k = (node_for t k).parent

abbrev pub level_of : Parts → ℕ → ℕ
level_of t k = (node_for t k).level

abbrev pub handler_of : Parts → ℕ → ℕ
handler_of t k = (node_for t k).handler

-- a shape's parts
abbrev pub depth_of : Parts → ℕ → ℕ
depth_of t i = (shape_for t i).depth

abbrev pub node_of : Parts → ℕ → ℕ
node_of t i = (shape_for t i).node

-- the node that stands before instruction i
abbrev pub standing : Parts → ℕ → Node
standing t i = node_for t (node_of t i)

-- a number for each kind, by which two kinds are compared
abbrev pub kind_number : NodeKind → ℕ
kind_number Loop = 1
kind_number TryExcept = 2
kind_number Finally = 3
kind_number FinallyHandler = 4
kind_number ExceptHandler = 5
kind_number (Unknown byte) = 6 + byte

unfoldable pub same_kind : NodeKind → NodeKind → Bool
same_kind a b = kind_number a == kind_number b
