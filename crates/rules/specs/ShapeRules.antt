-- The rules of instructions and their shapes. Instruction i has depth d, so many values on the stack, and node k, the topmost block.
use Rattle.std.specs.Prelude.{◌≡◌, ℕ, ◌+◌, ◌<◌, ◌≤◌, ℤ, pos, ◌-ℤ◌, Some, None, Option}
use Rattle.rules.specs.Climbing.{arriving, nearest}
use Rattle.rules.specs.Effects.{depth_after, needs, takes}
use Rattle.rules.specs.Reading.{depth_of, end_of, handler_of, kind_of, level_of, node_of, parent_of}
use Rattle.table.specs.Parts.{Parts}
use Rattle.table.specs.Reading.{instruction_at, instruction_count, node_count}
use Rattle.table.specs.declared.instructions.Instruction.{Instruction}
use Rattle.table.specs.declared.instructions.Instruction.TheVariants.{LoadConst, LoadFast, StoreFast, Pop, Reverse, CallFunctionPositional, GetIter, ForIter, Jump, JumpIfTrue, JumpIfFalse, SetupLoop, SetupExcept, SetupFinally, EnterFinally, EndFinally, SetupWith, WithCleanupStart, WithCleanupFinish, PopBlock, PopException, Raise, Break, Continue, ReturnValue, ReturnConst, YieldValue, YieldFrom}
use Rattle.table.specs.declared.records.NodeKind.{NodeKind}
use Rattle.table.specs.declared.records.NodeKind.TheVariants.{Loop, TryExcept, Finally, FinallyHandler, ExceptHandler, Unknown}

-- control comes to an instruction that exists, with this depth (no depth is below 0) and in this node
pub record Arrives (t : Parts) (to : ℕ) (depth : ℤ) (node : ℕ) : Type 0 where
  pub inside : to < instruction_count t
  pub deep : pos (depth_of t to) ≡ depth
  pub at : node_of t to ≡ node

-- 1. instruction 0 has depth 0 and no block
abbrev pub Starts : Parts → ℕ → Type 0
Starts t i = i ≡ 0 → Arrives t 0 (pos 0) 0

-- 2. the node exists
abbrev pub NodeExists : Parts → ℕ → Type 0
NodeExists t k = k ≤ node_count t

-- 3. the depth is not below the node's level
abbrev pub DepthFromLevel : Parts → ℕ → ℕ → Type 0
DepthFromLevel t d k = level_of t k ≤ d

-- 4. the depth is not above the maximum
abbrev pub DepthWithinMaximum : Parts → ℕ → Type 0
DepthWithinMaximum t d = d ≤ t.maximum

-- 5. what is taken stands above the level
abbrev pub TakesAboveLevel : Parts → ℕ → ℕ → ℕ → Type 0
TakesAboveLevel t d k taken = level_of t k + taken ≤ d

-- 6. as many values stand as are needed
abbrev pub ValuesNeeded : ℕ → Instruction → Type 0
ValuesNeeded d op = needs op ≤ d

-- 7. the next instruction exists, keeps the node and has the depth that the effect leaves
abbrev pub Next : Parts → ℕ → ℕ → ℕ → Instruction → Type 0
Next t i d k op = Arrives t (i + 1) (depth_after d op) k

-- 8. a jump's target keeps the node and has the depth that the effect leaves
abbrev pub Target : Parts → ℕ → ℕ → ℕ → Instruction → Type 0
Target t to d k op = Arrives t to (depth_after d op) k

-- 9. ForIter has its iterator above the level; its target is reached without it
pub record Iterates (t : Parts) (i d k : ℕ) (op : Instruction) (target : ℕ) : Type 0 where
  pub takes : TakesAboveLevel t d k 1
  pub next : Next t i d k op
  pub out : Arrives t target (pos d -ℤ pos 1) k

-- the node in which the next instruction stands
abbrev pub child : Parts → ℕ → ℕ
child t i = node_of t (i + 1)

-- 10. a block goes up: the next instruction stands in a child node of this kind, whose level is the depth here
pub record Opens (t : Parts) (i d k : ℕ) (of : NodeKind) (op : Instruction) : Type 0 where
  pub inside : i + 1 < instruction_count t
  pub deep : pos (depth_of t (i + 1)) ≡ depth_after d op
  pub kind : kind_of t (child t i) ≡ of
  pub parent : parent_of t (child t i) ≡ k
  pub level : level_of t (child t i) ≡ d

-- 11. the child's handler is the one that the instruction names
abbrev pub ChildHandler : Parts → ℕ → ℕ → Type 0
ChildHandler t i handler = handler_of t (child t i) ≡ handler

-- 12. the child's end is that of the instruction: 0 in SetupFinally, 1 in SetupWith, x in EnterFinally
abbrev pub ChildEnd : Parts → ℕ → ℕ → Type 0
ChildEnd t i end = end_of t (child t i) ≡ end

-- 13. the own node is of the kind that the instruction ends or looks at
abbrev pub OwnKind : Parts → ℕ → NodeKind → Type 0
OwnKind t k kind = kind_of t k ≡ kind

-- 14. the own node's end is 0 in EndFinally, 1 in WithCleanupFinish
abbrev pub OwnEnd : Parts → ℕ → ℕ → Type 0
OwnEnd t k end = end_of t k ≡ end

abbrev pub RemovableKind : NodeKind → Type 0
RemovableKind Loop = Unit {0}
RemovableKind TryExcept = Unit {0}
RemovableKind Finally = Unit {0}
RemovableKind FinallyHandler = ⊥
RemovableKind ExceptHandler = ⊥
RemovableKind (Unknown byte) = ⊥

-- 15. PopBlock removes a Loop, a TryExcept or a Finally
abbrev pub Removable : Parts → ℕ → Type 0
Removable t k = RemovableKind (kind_of t k)

-- 16. a block is gone: the next instruction stands in the parent, at the level
abbrev pub Leaves : Parts → ℕ → ℕ → Type 0
Leaves t i k = Arrives t (i + 1) (pos (level_of t k)) (parent_of t k)

-- 17. after a with statement one value more is gone, and the parent's level is kept all the same
pub record LeavesWith (t : Parts) (i k : ℕ) : Type 0 where
  pub above : level_of t (parent_of t k) + 1 ≤ level_of t k
  pub next : Arrives t (i + 1) (pos (level_of t k) -ℤ pos 1) (parent_of t k)

-- 18. Break finds a Loop, and leads to the Loop's parent at the Loop's level
pub record Breaks (t : Parts) (k target : ℕ) : Type 0 where
  pub stands : 0 < nearest t 32 k
  pub lands : Arrives t target (pos (level_of t (nearest t 32 k))) (parent_of t (nearest t 32 k))

-- 19. Continue finds a Loop, and leads to it with the depth that the last node passed leaves
pub record Continues (t : Parts) (d k target : ℕ) : Type 0 where
  pub stands : 0 < nearest t 32 k
  pub lands : Arrives t target (arriving t 32 k (pos d)) (nearest t 32 k)

-- where each instruction leads; Jump, Raise, Break, Continue, ReturnValue and ReturnConst have no next
abbrev pub Leads : Parts → ℕ → ℕ → ℕ → Instruction → Type 0
Leads t i d k (LoadConst idx) = Next t i d k (LoadConst idx)
Leads t i d k (LoadFast idx) = Next t i d k (LoadFast idx)
Leads t i d k (StoreFast idx) = Next t i d k (StoreFast idx)
Leads t i d k Pop = Next t i d k Pop
Leads t i d k (Reverse amount) = Next t i d k (Reverse amount)
Leads t i d k (CallFunctionPositional nargs) = Next t i d k (CallFunctionPositional nargs)
Leads t i d k GetIter = Next t i d k GetIter
Leads t i d k (ForIter target) = Iterates t i d k (ForIter target) target
Leads t i d k (Jump target) = Target t target d k (Jump target)
Leads t i d k (JumpIfTrue target) = Next t i d k (JumpIfTrue target) × Target t target d k (JumpIfTrue target)
Leads t i d k (JumpIfFalse target) = Next t i d k (JumpIfFalse target) × Target t target d k (JumpIfFalse target)
Leads t i d k SetupLoop = Opens t i d k Loop SetupLoop
Leads t i d k (SetupExcept handler) = Opens t i d k TryExcept (SetupExcept handler) × ChildHandler t i handler
Leads t i d k (SetupFinally handler) = Opens t i d k Finally (SetupFinally handler) × ChildEnd t i 0 × ChildHandler t i handler
Leads t i d k (EnterFinally end) = Opens t i d k FinallyHandler (EnterFinally end) × ChildEnd t i end
Leads t i d k EndFinally = OwnKind t k FinallyHandler × OwnEnd t k 0 × Leaves t i k
Leads t i d k (SetupWith end) = Opens t i d k Finally (SetupWith end) × ChildEnd t i 1 × ChildHandler t i end
Leads t i d k WithCleanupStart = OwnKind t k FinallyHandler × Next t i d k WithCleanupStart
Leads t i d k WithCleanupFinish = OwnKind t k FinallyHandler × OwnEnd t k 1 × LeavesWith t i k
Leads t i d k PopBlock = Removable t k × Leaves t i k
Leads t i d k PopException = OwnKind t k ExceptHandler × Leaves t i k
Leads t i d k (Raise kind) = Unit {0}
Leads t i d k (Break target) = Breaks t k target
Leads t i d k (Continue target) = Continues t d k target
Leads t i d k ReturnValue = Unit {0}
Leads t i d k (ReturnConst idx) = Unit {0}
Leads t i d k YieldValue = Next t i d k YieldValue
Leads t i d k YieldFrom = Next t i d k YieldFrom

-- instruction i, which is op, with depth d and node k keeps the shape rules
pub record Kept (t : Parts) (i d k : ℕ) (op : Instruction) : Type 0 where
  pub starts : Starts t i
  pub exists : NodeExists t k
  pub from : DepthFromLevel t d k
  pub within : DepthWithinMaximum t d
  pub takes : TakesAboveLevel t d k (takes op)
  pub needs : ValuesNeeded d op
  pub leads : Leads t i d k op

-- 20. an instruction is one of the listed ones
abbrev pub KeptBy : Parts → ℕ → Option Instruction → Type 0
KeptBy t i None = ⊥
KeptBy t i (Some op) = Kept t i (depth_of t i) (node_of t i) op

-- instruction i keeps the shape rules
abbrev pub ShapeRules : Parts → ℕ → Type 0
ShapeRules t i = KeptBy t i (instruction_at t i)
