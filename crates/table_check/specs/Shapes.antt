-- The check of an instruction: the rules in the order in which they are asked, each with the name that it is refused by.
use Rattle.std.specs.Prelude.{ℕ, ◌+◌, Bool, true, false, cond, not, pos, ◌-ℤ◌, Some, None, Ok, Err, Option, Result, ◌==◌, nat_le, nat_lt}
use Rattle.rules.specs.Arrivals.{arrives, child_end, child_handler, opens, own_end, own_kind}
use Rattle.rules.specs.Climbing.{arriving, nearest}
use Rattle.rules.specs.Effects.{depth_after, needs, takes}
use Rattle.rules.specs.Reading.{level_of, node_for, parent_of, shape_for}
use Rattle.table.specs.Demands.{◌then◌, demand}
use Rattle.rules.specs.declared.rule.Rule.{Rule}
use Rattle.rules.specs.declared.rule.Rule.TheVariants.{AboveParent, Decodes, DepthFromLevel, DepthWithinMaximum, LoopStands, NodeExists, Removable, TakesAboveLevel, ValuesNeeded}
use Rattle.rules.specs.declared.rule.Way.TheVariants as way
use Rattle.table.specs.Parts.{Parts}
use Rattle.table.specs.Reading.{instruction_at, node_count}
use Rattle.table.specs.declared.instructions.Instruction.{Instruction}
use Rattle.table.specs.declared.instructions.Instruction.TheVariants.{LoadConst, LoadFast, StoreFast, Pop, Reverse, CallFunctionPositional, GetIter, ForIter, Jump, JumpIfTrue, JumpIfFalse, SetupLoop, SetupExcept, SetupFinally, EnterFinally, EndFinally, SetupWith, WithCleanupStart, WithCleanupFinish, PopBlock, PopException, Raise, Break, Continue, ReturnValue, ReturnConst, YieldValue, YieldFrom}
use Rattle.table.specs.declared.records.Node.{Node}
use Rattle.table.specs.declared.records.NodeKind.{NodeKind}
use Rattle.table.specs.declared.records.NodeKind.TheVariants.{Loop, TryExcept, Finally, FinallyHandler, ExceptHandler, Unknown}
use Rattle.table.specs.declared.records.Shape.{Shape}

-- the first instruction begins with an empty stack and no block
unfoldable pub starts : Parts → ℕ → Result Unit Rule
starts t i = cond (i == 0) (arrives t way.Start 0 (pos 0) 0) (Ok tt)

-- the node exists, and the depth lies from its level to the maximum
unfoldable pub stands : Parts → Shape → Result Unit Rule
stands t s =
    demand (nat_le s.node (node_count t)) (NodeExists (node_count t) s.node) then
    demand (nat_le (level_of t s.node) s.depth) (DepthFromLevel (level_of t s.node) s.depth) then
    demand (nat_le s.depth t.maximum) (DepthWithinMaximum t.maximum s.depth)

-- what is taken stands above the level, and as many values stand as are needed
unfoldable pub affords : Parts → Shape → Instruction → Result Unit Rule
affords t s op =
    demand (nat_le (level_of t s.node + takes op) s.depth) (TakesAboveLevel (level_of t s.node) (takes op) s.depth) then
    demand (nat_le (needs op) s.depth) (ValuesNeeded (needs op) s.depth)

-- the next instruction keeps the node, with the depth that the effect leaves
unfoldable pub next : Parts → ℕ → Shape → Instruction → Result Unit Rule
next t i s op = arrives t way.Next (i + 1) (depth_after s.depth op) s.node

-- the target keeps the node, with the depth that the effect leaves
unfoldable pub jumps : Parts → Shape → Instruction → ℕ → Result Unit Rule
jumps t s op target = arrives t way.Target target (depth_after s.depth op) s.node

unfoldable pub jump_if : Parts → ℕ → Shape → Instruction → ℕ → Result Unit Rule
jump_if t i s op target = next t i s op then jumps t s op target

-- the iterator stays for the next item; the target is reached without it
unfoldable pub for_iter : Parts → ℕ → Shape → Instruction → ℕ → Result Unit Rule
for_iter t i s op target =
    demand (nat_lt (level_of t s.node) s.depth) (TakesAboveLevel (level_of t s.node) 1 s.depth) then
    next t i s op then
    arrives t way.Target target (pos s.depth -ℤ pos 1) s.node

unfoldable pub sets_up_loop : Parts → ℕ → Shape → Instruction → Result Unit Rule
sets_up_loop t i s op = opens t i s Loop (depth_after s.depth op)

unfoldable pub sets_up_except : Parts → ℕ → Shape → Instruction → ℕ → Result Unit Rule
sets_up_except t i s op handler = opens t i s TryExcept (depth_after s.depth op) then child_handler t i handler

-- SetupFinally puts up a Finally of end 0, SetupWith one of end 1
unfoldable pub sets_up_finally : Parts → ℕ → Shape → Instruction → ℕ → ℕ → Result Unit Rule
sets_up_finally t i s op end handler =
    opens t i s Finally (depth_after s.depth op) then
    child_end t i end then
    child_handler t i handler

unfoldable pub enters_finally : Parts → ℕ → Shape → Instruction → ℕ → Result Unit Rule
enters_finally t i s op end = opens t i s FinallyHandler (depth_after s.depth op) then child_end t i end

-- the block is gone: the next instruction stands in the parent, at the block's level
unfoldable pub leaves : Parts → ℕ → Node → Result Unit Rule
leaves t i own = arrives t way.Next (i + 1) (pos own.level) own.parent

unfoldable pub ends_finally : Parts → ℕ → Node → Result Unit Rule
ends_finally t i own = own_kind own FinallyHandler then own_end own 0 then leaves t i own

unfoldable pub starts_cleanup : Parts → ℕ → Shape → Instruction → Node → Result Unit Rule
starts_cleanup t i s op own = own_kind own FinallyHandler then next t i s op

-- the exit below the level goes too: one value less, still not below the parent's level
unfoldable pub finishes_cleanup : Parts → ℕ → Node → Result Unit Rule
finishes_cleanup t i own =
    own_kind own FinallyHandler then
    own_end own 1 then
    demand (nat_lt (level_of t own.parent) own.level) (AboveParent (level_of t own.parent) own.level) then
    arrives t way.Next (i + 1) (pos own.level -ℤ pos 1) own.parent

-- PopBlock removes a Loop, a TryExcept or a Finally
abbrev pub removable : NodeKind → Bool
removable Loop = true
removable TryExcept = true
removable Finally = true
removable FinallyHandler = false
removable ExceptHandler = false
removable (Unknown byte) = false

unfoldable pub pops_block : Parts → ℕ → Node → Result Unit Rule
pops_block t i own = demand (removable own.kind) (Removable own.kind) then leaves t i own

unfoldable pub pops_exception : Parts → ℕ → Node → Result Unit Rule
pops_exception t i own = own_kind own ExceptHandler then leaves t i own

-- the nearest Loop goes: the target stands in the Loop's parent, at the Loop's level
unfoldable pub breaks : Parts → Shape → ℕ → Result Unit Rule
breaks t s target =
    demand (not (nearest t 32 s.node == 0)) LoopStands then
    arrives t way.Target target (pos (level_of t (nearest t 32 s.node))) (parent_of t (nearest t 32 s.node))

-- the nearest Loop stays, and the blocks above it go
unfoldable pub continues : Parts → Shape → ℕ → Result Unit Rule
continues t s target =
    demand (not (nearest t 32 s.node == 0)) LoopStands then
    arrives t way.Target target (arriving t 32 s.node (pos s.depth)) (nearest t 32 s.node)

-- where an instruction leads
unfoldable pub leads : Parts → ℕ → Shape → Instruction → Result Unit Rule
leads t i s (LoadConst idx) = next t i s (LoadConst idx)
leads t i s (LoadFast idx) = next t i s (LoadFast idx)
leads t i s (StoreFast idx) = next t i s (StoreFast idx)
leads t i s Pop = next t i s Pop
leads t i s (Reverse amount) = next t i s (Reverse amount)
leads t i s (CallFunctionPositional nargs) = next t i s (CallFunctionPositional nargs)
leads t i s GetIter = next t i s GetIter
leads t i s (ForIter target) = for_iter t i s (ForIter target) target
leads t i s (Jump target) = jumps t s (Jump target) target
leads t i s (JumpIfTrue target) = jump_if t i s (JumpIfTrue target) target
leads t i s (JumpIfFalse target) = jump_if t i s (JumpIfFalse target) target
leads t i s SetupLoop = sets_up_loop t i s SetupLoop
leads t i s (SetupExcept handler) = sets_up_except t i s (SetupExcept handler) handler
leads t i s (SetupFinally handler) = sets_up_finally t i s (SetupFinally handler) 0 handler
leads t i s (EnterFinally end) = enters_finally t i s (EnterFinally end) end
leads t i s EndFinally = ends_finally t i (node_for t s.node)
leads t i s (SetupWith end) = sets_up_finally t i s (SetupWith end) 1 end
leads t i s WithCleanupStart = starts_cleanup t i s WithCleanupStart (node_for t s.node)
leads t i s WithCleanupFinish = finishes_cleanup t i (node_for t s.node)
leads t i s PopBlock = pops_block t i (node_for t s.node)
leads t i s PopException = pops_exception t i (node_for t s.node)
leads t i s (Raise kind) = Ok tt
leads t i s (Break target) = breaks t s target
leads t i s (Continue target) = continues t s target
leads t i s ReturnValue = Ok tt
leads t i s (ReturnConst idx) = Ok tt
leads t i s YieldValue = next t i s YieldValue
leads t i s YieldFrom = next t i s YieldFrom

abbrev pub judging : Parts → ℕ → Option Instruction → Result Unit Rule
judging t i None = Err Decodes
judging t i (Some op) = starts t i then stands t (shape_for t i) then affords t (shape_for t i) op then leads t i (shape_for t i) op

-- the first rule that instruction i breaks
unfoldable pub checking_instruction : Parts → ℕ → Result Unit Rule
checking_instruction t i = judging t i (instruction_at t i)
