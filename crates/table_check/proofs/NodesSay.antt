-- The tests of a node say its rules.
use Rattle.std.proofs.Common.{◌≡◌, ℕ, ◌+◌, ◌<◌, ◌≤◌, arith}
use Rattle.std.proofs.lemmas.Bool.Decides.{nat_tests}
use Rattle.rules.specs.NodeRules.{EndOf, ExceptHandled, FinallyHandled, Handled, HandlerOf, Known, NodeRules, Within}
use Rattle.table_check.specs.Nodes.{checking_node, except_handled, finally_handled, handled, handled_as, handling, listed, placed}
use Rattle.rules.specs.Reading.{level_of, node_for}
use Rattle.table_check.proofs.Says.{Says}
use Rattle.table_check.proofs.Tellings.{kind_tells, within_tells}
use Rattle.table.specs.Parts.{Parts}
use Rattle.table.specs.Reading.{instruction_count}
use Rattle.table.specs.declared.records.Node.{Node}
use Rattle.table.specs.declared.records.NodeKind.{NodeKind}
use Rattle.table.specs.declared.records.NodeKind.TheVariants.{TryExcept, Finally, FinallyHandler, ExceptHandler}

listed_says : (n : Node) → Says (listed n) (Known n.kind × EndOf n.kind n.end)
unfolding listed
listed_says n = grind (arith, nat_tests)

pub record Placed (t : Parts) (k : ℕ) (n : Node) : Type 0 where
  pub parent : n.parent < k
  pub level : level_of t n.parent ≤ n.level
  pub low : n.level ≤ t.maximum
  pub near : Within t 32 k

placed_says : (t : Parts) (k : ℕ) (n : Node) → Says (placed t k n) (Placed t k n)
unfolding placed
placed_says t k n = let w = within_tells t 32 k in grind (arith, nat_tests)

handling_says : (t : Parts) (n : Node) → Says (handling t n) ((n.handler < instruction_count t) × HandlerOf n.kind n.handler)
unfolding handling
handling_says t n = grind (arith, nat_tests)

handled_says : (t : Parts) (k depth : ℕ) (kind : NodeKind) → Says (handled t (node_for t k) depth kind) (Handled t k depth kind)
unfolding handled
handled_says t k depth kind = grind (arith, nat_tests, kind_tells)

except_says : (t : Parts) (k : ℕ) → Says (except_handled t (node_for t k)) (ExceptHandled t k)
unfolding except_handled
except_says t k =
    let s = handled_says t k (level_of t k + 1) ExceptHandler in
    grind (arith, nat_tests, s)

finally_says : (t : Parts) (k : ℕ) → Says (finally_handled t (node_for t k)) (FinallyHandled t k)
unfolding finally_handled
finally_says t k =
    let s = handled_says t k (level_of t k) FinallyHandler in
    grind (arith, nat_tests, s)

abbrev AsKind : Parts → ℕ → NodeKind → Type 0
AsKind t k kind = (kind ≡ TryExcept → ExceptHandled t k) × (kind ≡ Finally → FinallyHandled t k)

as_says : (t : Parts) (k : ℕ) (kind : NodeKind) → Says (handled_as t (node_for t k) kind) (AsKind t k kind)
as_says t k kind =
    let x = except_says t k in
    let f = finally_says t k in
    grind (arith, x, f)

pub node_says : (t : Parts) (k : ℕ) → Says (checking_node t k) (NodeRules t k)
unfolding checking_node
node_says t k =
    let n = node_for t k in
    let l = listed_says n in
    let p = placed_says t k n in
    let h = handling_says t n in
    let a = as_says t k n.kind in
    grind (arith, l, p, h, a)
