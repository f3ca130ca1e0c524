-- The check of a node: the rules in the order in which they are asked, each with the name that it is refused by.
use Rattle.std.specs.Prelude.{ℕ, ◌+◌, Bool, true, false, ◌||◌, Ok, Result, ◌==◌, nat_le, nat_lt}
use Rattle.rules.specs.Climbing.{within}
use Rattle.rules.specs.Reading.{level_of, node_for, shape_for, standing}
use Rattle.table.specs.Demands.{◌then◌, demand}
use Rattle.rules.specs.Subjects.{has_end, has_kind, has_level, has_parent}
use Rattle.rules.specs.declared.rule.Rule.{Rule}
use Rattle.rules.specs.declared.rule.Rule.TheVariants.{EndListed, HandlerDepth, HandlerExists, HandlerWithinMaximum, KnownKind, LevelFromParent, LevelWithinMaximum, NoHandler, NodesToBottom, ParentBelow}
use Rattle.rules.specs.declared.rule.Whose.TheVariants as whose
use Rattle.table.specs.Parts.{Parts}
use Rattle.table.specs.Reading.{instruction_count}
use Rattle.table.specs.declared.records.Node.{Node}
use Rattle.table.specs.declared.records.NodeKind.{NodeKind}
use Rattle.table.specs.declared.records.NodeKind.TheVariants.{Loop, TryExcept, Finally, FinallyHandler, ExceptHandler, Unknown}

abbrev pub known : NodeKind → Bool
known Loop = true
known TryExcept = true
known Finally = true
known FinallyHandler = true
known ExceptHandler = true
known (Unknown byte) = false

-- the highest end that a kind may have
abbrev pub most_end : NodeKind → ℕ
most_end Loop = 0
most_end TryExcept = 0
most_end Finally = 1
most_end FinallyHandler = 1
most_end ExceptHandler = 0
most_end (Unknown byte) = 0

-- whether a kind has a handler
abbrev pub may_handle : NodeKind → Bool
may_handle Loop = false
may_handle TryExcept = true
may_handle Finally = true
may_handle FinallyHandler = false
may_handle ExceptHandler = false
may_handle (Unknown byte) = false

-- kind and end are as listed
unfoldable pub listed : Node → Result Unit Rule
listed n =
    demand (known n.kind) (KnownKind n.kind) then
    demand (nat_le n.end (most_end n.kind)) (EndListed (most_end n.kind) n.end)

-- the parent has a lower number, the level lies from the parent's to the maximum, and the bottom is near enough
unfoldable pub placed : Parts → ℕ → Node → Result Unit Rule
placed t k n =
    demand (nat_lt n.parent k) (ParentBelow k n.parent) then
    demand (nat_le (level_of t n.parent) n.level) (LevelFromParent (level_of t n.parent) n.level) then
    demand (nat_le n.level t.maximum) (LevelWithinMaximum t.maximum n.level) then
    demand (within t 32 k) NodesToBottom

-- the handler is an instruction, and none but a TryExcept and a Finally has one
unfoldable pub handling : Parts → Node → Result Unit Rule
handling t n =
    demand (nat_lt n.handler (instruction_count t)) (HandlerExists (instruction_count t) n.handler) then
    demand (may_handle n.kind || n.handler == 0) (NoHandler n.handler)

-- the node that stands where a node's handler begins
abbrev pub handler_node : Parts → Node → Node
handler_node t n = standing t n.handler

-- a handler begins with this depth, in a node of this kind that has the parent and the level of the node itself
unfoldable pub handled : Parts → Node → ℕ → NodeKind → Result Unit Rule
handled t n depth kind =
    demand ((shape_for t n.handler).depth == depth) (HandlerDepth depth (shape_for t n.handler).depth) then
    has_kind whose.Handler (handler_node t n) kind then
    has_parent whose.Handler (handler_node t n) n.parent then
    has_level whose.Handler (handler_node t n) n.level

-- a TryExcept's handler finds the exception's value above the level, in an ExceptHandler
unfoldable pub except_handled : Parts → Node → Result Unit Rule
except_handled t n =
    demand (nat_le (n.level + 1) t.maximum) (HandlerWithinMaximum t.maximum (n.level + 1)) then
    handled t n (n.level + 1) ExceptHandler

-- a Finally's handler begins at the level, in a FinallyHandler of the same end
unfoldable pub finally_handled : Parts → Node → Result Unit Rule
finally_handled t n =
    handled t n n.level FinallyHandler then
    has_end whose.Handler (handler_node t n) n.end

abbrev pub handled_as : Parts → Node → NodeKind → Result Unit Rule
handled_as t n Loop = Ok tt
handled_as t n TryExcept = except_handled t n
handled_as t n Finally = finally_handled t n
handled_as t n FinallyHandler = Ok tt
handled_as t n ExceptHandler = Ok tt
handled_as t n (Unknown byte) = Ok tt

-- the first rule that node k breaks
unfoldable pub checking_node : Parts → ℕ → Result Unit Rule
checking_node t k =
    listed (node_for t k) then
    placed t k (node_for t k) then
    handling t (node_for t k) then
    handled_as t (node_for t k) (node_for t k).kind
