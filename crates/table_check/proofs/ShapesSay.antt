-- The tests of an instruction say its rules.
use Rattle.std.proofs.Common.{◌≡◌, ℕ, ◌+◌, ◌≤◌, ℤ, pos, ◌-ℤ◌, Some, None, Option, arith}
use Rattle.std.proofs.lemmas.Bool.Decides.{nat_tests}
use Rattle.rules.specs.Arrivals.{arrives, child, comes, opens, opens_at}
use Rattle.rules.specs.Climbing.{arriving, nearest}
use Rattle.rules.specs.Effects.{depth_after, needs, takes}
use Rattle.rules.specs.Reading.{level_of, node_for, parent_of, shape_for}
use Rattle.rules.specs.ShapeRules.{Arrives, Breaks, ChildEnd, ChildHandler, Continues, Iterates, KeptBy, Leads, Leaves, LeavesWith, Next, Opens, OwnEnd, OwnKind, Removable, ShapeRules, Starts, Target}
use Rattle.table_check.specs.Shapes.{affords, breaks, checking_instruction, continues, ends_finally, enters_finally, finishes_cleanup, for_iter, judging, jump_if, jumps, leads, leaves, next, pops_block, pops_exception, sets_up_except, sets_up_finally, sets_up_loop, stands, starts, starts_cleanup}
use Rattle.rules.specs.Subjects.{has_end, has_handler, has_kind}
use Rattle.rules.specs.declared.rule.Way.{Way}
use Rattle.rules.specs.declared.rule.Whose.{Whose}
use Rattle.rules.specs.declared.rule.Whose.TheVariants as whose
use Rattle.rules.specs.declared.rule.Way.TheVariants as way
use Rattle.table_check.proofs.Says.{Says, says_then, says_three}
use Rattle.table_check.proofs.Tellings.{depth_tells, kind_tells}
use Rattle.table.specs.Parts.{Parts}
use Rattle.table.specs.Reading.{instruction_at, node_count}
use Rattle.table.specs.declared.instructions.Instruction.{Instruction}
use Rattle.table.specs.declared.instructions.Instruction.TheVariants.{LoadConst, LoadFast, StoreFast, Pop, Reverse, CallFunctionPositional, GetIter, ForIter, Jump, JumpIfTrue, JumpIfFalse, SetupLoop, SetupExcept, SetupFinally, EnterFinally, EndFinally, SetupWith, WithCleanupStart, WithCleanupFinish, PopBlock, PopException, Raise, Break, Continue, ReturnValue, ReturnConst, YieldValue, YieldFrom}
use Rattle.table.specs.declared.records.Node.{Node}
use Rattle.table.specs.declared.records.NodeKind.{NodeKind}
use Rattle.table.specs.declared.records.NodeKind.TheVariants.{Loop, TryExcept, Finally, FinallyHandler, ExceptHandler}
use Rattle.table.specs.declared.records.Shape.{Shape}

-- where control comes to
arrives_says : (t : Parts) (w : Way) (to : ℕ) (z : ℤ) (k : ℕ) → Says (arrives t w to z k) (Arrives t to z k)
unfolding comes arrives
arrives_says t w to z k = grind (arith, nat_tests, depth_tells)

opens_says : (t : Parts) (i : ℕ) (s : Shape) (kind : NodeKind) (op : Instruction) →
    Says (opens t i s kind (depth_after s.depth op)) (Opens t i s.depth s.node kind op)
unfolding comes opens_at
opens_says t i s kind op = grind (arith, nat_tests, depth_tells, kind_tells)

-- the parts of a node
kind_says : (w : Whose) (n : Node) (kind : NodeKind) → Says (has_kind w n kind) (n.kind ≡ kind)
kind_says w n kind = grind (arith, kind_tells)

end_says : (w : Whose) (n : Node) (end : ℕ) → Says (has_end w n end) (n.end ≡ end)
end_says w n end = grind (arith, nat_tests)

handler_says : (w : Whose) (n : Node) (handler : ℕ) → Says (has_handler w n handler) (n.handler ≡ handler)
handler_says w n handler = grind (arith, nat_tests)

-- the shape
starts_says : (t : Parts) (i : ℕ) → Says (starts t i) (Starts t i)
unfolding starts
starts_says t i = let a = arrives_says t way.Start 0 (pos 0) 0 in grind (arith, nat_tests, a)

pub record Stands (t : Parts) (s : Shape) : Type 0 where
  pub exists : s.node ≤ node_count t
  pub from : level_of t s.node ≤ s.depth
  pub within : s.depth ≤ t.maximum

stands_says : (t : Parts) (s : Shape) → Says (stands t s) (Stands t s)
unfolding stands
stands_says t s = grind (arith, nat_tests)

affords_says : (t : Parts) (s : Shape) (op : Instruction) → Says (affords t s op) ((level_of t s.node + takes op ≤ s.depth) × (needs op ≤ s.depth))
unfolding affords
affords_says t s op = grind (arith, nat_tests)

-- where an instruction leads
next_says : (t : Parts) (i : ℕ) (s : Shape) (op : Instruction) → Says (next t i s op) (Next t i s.depth s.node op)
unfolding next
next_says t i s op = arrives_says t way.Next (i + 1) (depth_after s.depth op) s.node

jumps_says : (t : Parts) (s : Shape) (op : Instruction) (target : ℕ) → Says (jumps t s op target) (Target t target s.depth s.node op)
unfolding jumps
jumps_says t s op target = arrives_says t way.Target target (depth_after s.depth op) s.node

jump_if_says : (t : Parts) (i : ℕ) (s : Shape) (op : Instruction) (target : ℕ) →
    Says (jump_if t i s op target) (Next t i s.depth s.node op × Target t target s.depth s.node op)
unfolding jump_if
jump_if_says t i s op target = says_then _ _ (next_says t i s op) (jumps_says t s op target)

for_iter_says : (t : Parts) (i : ℕ) (s : Shape) (op : Instruction) (target : ℕ) → Says (for_iter t i s op target) (Iterates t i s.depth s.node op target)
unfolding for_iter
for_iter_says t i s op target =
    let n = next_says t i s op in
    let a = arrives_says t way.Target target (pos s.depth -ℤ pos 1) s.node in
    grind (arith, nat_tests, n, a)

setup_loop_says : (t : Parts) (i : ℕ) (s : Shape) (op : Instruction) → Says (sets_up_loop t i s op) (Opens t i s.depth s.node Loop op)
unfolding sets_up_loop
setup_loop_says t i s op = opens_says t i s Loop op

setup_except_says : (t : Parts) (i : ℕ) (s : Shape) (op : Instruction) (handler : ℕ) →
    Says (sets_up_except t i s op handler) (Opens t i s.depth s.node TryExcept op × ChildHandler t i handler)
unfolding sets_up_except
setup_except_says t i s op handler = says_then _ _ (opens_says t i s TryExcept op) (handler_says whose.Child (child t i) handler)

setup_finally_says : (t : Parts) (i : ℕ) (s : Shape) (op : Instruction) (end handler : ℕ) →
    Says (sets_up_finally t i s op end handler) (Opens t i s.depth s.node Finally op × ChildEnd t i end × ChildHandler t i handler)
unfolding sets_up_finally
setup_finally_says t i s op end handler =
    says_three _ _ _ (opens_says t i s Finally op) (end_says whose.Child (child t i) end) (handler_says whose.Child (child t i) handler)

enter_finally_says : (t : Parts) (i : ℕ) (s : Shape) (op : Instruction) (end : ℕ) →
    Says (enters_finally t i s op end) (Opens t i s.depth s.node FinallyHandler op × ChildEnd t i end)
unfolding enters_finally
enter_finally_says t i s op end = says_then _ _ (opens_says t i s FinallyHandler op) (end_says whose.Child (child t i) end)

leaves_says : (t : Parts) (i k : ℕ) → Says (leaves t i (node_for t k)) (Leaves t i k)
unfolding leaves
leaves_says t i k = arrives_says t way.Next (i + 1) (pos (level_of t k)) (parent_of t k)

end_finally_says : (t : Parts) (i k : ℕ) → Says (ends_finally t i (node_for t k)) (OwnKind t k FinallyHandler × OwnEnd t k 0 × Leaves t i k)
unfolding ends_finally
end_finally_says t i k =
    says_three _ _ _ (kind_says whose.Own (node_for t k) FinallyHandler) (end_says whose.Own (node_for t k) 0) (leaves_says t i k)

cleanup_start_says : (t : Parts) (i : ℕ) (s : Shape) (op : Instruction) →
    Says (starts_cleanup t i s op (node_for t s.node)) (OwnKind t s.node FinallyHandler × Next t i s.depth s.node op)
unfolding starts_cleanup
cleanup_start_says t i s op = says_then _ _ (kind_says whose.Own (node_for t s.node) FinallyHandler) (next_says t i s op)

cleanup_finish_says : (t : Parts) (i k : ℕ) → Says (finishes_cleanup t i (node_for t k)) (OwnKind t k FinallyHandler × OwnEnd t k 1 × LeavesWith t i k)
unfolding finishes_cleanup
cleanup_finish_says t i k =
    let o = kind_says whose.Own (node_for t k) FinallyHandler in
    let e = end_says whose.Own (node_for t k) 1 in
    let a = arrives_says t way.Next (i + 1) (pos (level_of t k) -ℤ pos 1) (parent_of t k) in
    grind (arith, nat_tests, kind_tells, a)

pop_block_says : (t : Parts) (i k : ℕ) → Says (pops_block t i (node_for t k)) (Removable t k × Leaves t i k)
unfolding pops_block
pop_block_says t i k = let a = leaves_says t i k in grind (arith, a)

pop_exception_says : (t : Parts) (i k : ℕ) → Says (pops_exception t i (node_for t k)) (OwnKind t k ExceptHandler × Leaves t i k)
unfolding pops_exception
pop_exception_says t i k = says_then _ _ (kind_says whose.Own (node_for t k) ExceptHandler) (leaves_says t i k)

breaks_says : (t : Parts) (s : Shape) (target : ℕ) → Says (breaks t s target) (Breaks t s.node target)
unfolding breaks
breaks_says t s target =
    let l : ℕ = nearest t 32 s.node in
    let a = arrives_says t way.Target target (pos (level_of t l)) (parent_of t l) in
    grind (arith, nat_tests, a)

continues_says : (t : Parts) (s : Shape) (target : ℕ) → Says (continues t s target) (Continues t s.depth s.node target)
unfolding continues
continues_says t s target =
    let a = arrives_says t way.Target target (arriving t 32 s.node (pos s.depth)) (nearest t 32 s.node) in
    grind (arith, nat_tests, a)

leads_says : (t : Parts) (i : ℕ) (s : Shape) (op : Instruction) → Says (leads t i s op) (Leads t i s.depth s.node op)
unfolding leads
leads_says t i s (LoadConst idx) = next_says t i s (LoadConst idx)
leads_says t i s (LoadFast idx) = next_says t i s (LoadFast idx)
leads_says t i s (StoreFast idx) = next_says t i s (StoreFast idx)
leads_says t i s Pop = next_says t i s Pop
leads_says t i s (Reverse amount) = next_says t i s (Reverse amount)
leads_says t i s (CallFunctionPositional nargs) = next_says t i s (CallFunctionPositional nargs)
leads_says t i s GetIter = next_says t i s GetIter
leads_says t i s (ForIter target) = for_iter_says t i s (ForIter target) target
leads_says t i s (Jump target) = jumps_says t s (Jump target) target
leads_says t i s (JumpIfTrue target) = jump_if_says t i s (JumpIfTrue target) target
leads_says t i s (JumpIfFalse target) = jump_if_says t i s (JumpIfFalse target) target
leads_says t i s SetupLoop = setup_loop_says t i s SetupLoop
leads_says t i s (SetupExcept handler) = setup_except_says t i s (SetupExcept handler) handler
leads_says t i s (SetupFinally handler) = setup_finally_says t i s (SetupFinally handler) 0 handler
leads_says t i s (EnterFinally end) = enter_finally_says t i s (EnterFinally end) end
leads_says t i s EndFinally = end_finally_says t i s.node
leads_says t i s (SetupWith end) = setup_finally_says t i s (SetupWith end) 1 end
leads_says t i s WithCleanupStart = cleanup_start_says t i s WithCleanupStart
leads_says t i s WithCleanupFinish = cleanup_finish_says t i s.node
leads_says t i s PopBlock = pop_block_says t i s.node
leads_says t i s PopException = pop_exception_says t i s.node
leads_says t i s (Raise kind) = grind arith
leads_says t i s (Break target) = breaks_says t s target
leads_says t i s (Continue target) = continues_says t s target
leads_says t i s ReturnValue = grind arith
leads_says t i s (ReturnConst idx) = grind arith
leads_says t i s YieldValue = next_says t i s YieldValue
leads_says t i s YieldFrom = next_says t i s YieldFrom

judging_says : (t : Parts) (i : ℕ) (o : Option Instruction) → Says (judging t i o) (KeptBy t i o)
judging_says t i None = grind arith
judging_says t i (Some op) =
    let s = shape_for t i in
    let b = starts_says t i in
    let p = stands_says t s in
    let a = affords_says t s op in
    let l = leads_says t i s op in
    grind (arith, b, p, a, l)

pub shape_says : (t : Parts) (i : ℕ) → Says (checking_instruction t i) (ShapeRules t i)
unfolding checking_instruction
shape_says t i = judging_says t i (instruction_at t i)
