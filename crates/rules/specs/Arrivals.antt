-- Where control comes to: the tests of depth and node, each with the name that it is refused by.
use Rattle.std.specs.Prelude.{ℕ, ◌+◌, Bool, false, ℤ, pos, negsuc, Result, ◌==◌, nat_lt}
use Rattle.rules.specs.Reading.{depth_of, node_of, standing}
use Rattle.table.specs.Demands.{◌then◌, demand}
use Rattle.rules.specs.Subjects.{has_end, has_handler, has_kind, has_level, has_parent}
use Rattle.rules.specs.declared.rule.Rule.{Rule}
use Rattle.rules.specs.declared.rule.Rule.TheVariants as rule
use Rattle.rules.specs.declared.rule.Way.{Way}
use Rattle.rules.specs.declared.rule.Way.TheVariants as way
use Rattle.rules.specs.declared.rule.Whose.TheVariants as whose
use Rattle.table.specs.Parts.{Parts}
use Rattle.table.specs.Reading.{instruction_count}
use Rattle.table.specs.declared.records.Node.{Node}
use Rattle.table.specs.declared.records.NodeKind.{NodeKind}
use Rattle.table.specs.declared.records.Shape.{Shape}

-- no depth is below 0
unfoldable pub is_depth : ℕ → ℤ → Bool
is_depth found (pos n) = found == n
is_depth found (negsuc n) = false

-- control comes to an instruction that exists, with this depth
unfoldable pub comes : Parts → Way → ℕ → ℤ → Result Unit Rule
comes t w to z =
    demand (nat_lt to (instruction_count t)) (rule.Exists w (instruction_count t) to) then
    demand (is_depth (depth_of t to) z) (rule.Depth w z (depth_of t to))

-- and in this node
unfoldable pub arrives : Parts → Way → ℕ → ℤ → ℕ → Result Unit Rule
arrives t w to z k =
    comes t w to z then
    demand (node_of t to == k) (rule.Node w k (node_of t to))

-- the node in which the next instruction stands
abbrev pub child : Parts → ℕ → Node
child t i = standing t (i + 1)

-- an instruction is reached from the one before with this depth, in a child node of this kind, put up where the shape is s
unfoldable pub opens_at : Parts → ℕ → Shape → NodeKind → ℤ → Result Unit Rule
opens_at t to s kind z =
    comes t way.Next to z then
    has_kind whose.Child (standing t to) kind then
    has_parent whose.Child (standing t to) s.node then
    has_level whose.Child (standing t to) s.depth

-- the next instruction is reached with this depth, in a child node of this kind whose level is the depth here
abbrev pub opens : Parts → ℕ → Shape → NodeKind → ℤ → Result Unit Rule
opens t i = opens_at t (i + 1)

abbrev pub child_handler : Parts → ℕ → ℕ → Result Unit Rule
child_handler t i = has_handler whose.Child (child t i)

abbrev pub child_end : Parts → ℕ → ℕ → Result Unit Rule
child_end t i = has_end whose.Child (child t i)

abbrev pub own_kind : Node → NodeKind → Result Unit Rule
own_kind = has_kind whose.Own

abbrev pub own_end : Node → ℕ → Result Unit Rule
own_end = has_end whose.Own
