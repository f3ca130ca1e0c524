-- The check's answer is the first broken place, or there is none.
use Rattle.std.proofs.Common.{◌≡◌, ℕ, zero, suc, ◌+◌, ◌<◌, ◌≤◌, Ok, Err, Result, sym, refl, subst, inl, inr, arith}
use Rattle.table_check.specs.Checking.{all_instructions, all_nodes, checking, in_turn, instruction_kept, node_kept, placing}
use Rattle.rules.specs.NodeRules.{NodeRules}
use Rattle.table_check.specs.Nodes.{checking_node}
use Rattle.table_check.specs.Passed.{Checked}
use Rattle.table.specs.Demands.{◌then◌}
use Rattle.rules.specs.ShapeRules.{ShapeRules}
use Rattle.table_check.specs.Shapes.{checking_instruction}
use Rattle.table_check.specs.declared.broken.Broken.{Broken}
use Rattle.table_check.specs.declared.broken.Broken.TheVariants.{Node, Instruction}
use Rattle.rules.specs.declared.rule.Rule.{Rule}
use Rattle.table_check.proofs.NodesSay.{node_says}
use Rattle.table_check.proofs.Says.{Says}
use Rattle.table_check.proofs.ShapesSay.{shape_says}
use Rattle.table.specs.Parts.{Parts}
use Rattle.table.specs.Reading.{instruction_count, node_count}

-- a test at place i: it is passed and P holds there, or it names the place, and P does not hold
abbrev Tried : (ℕ → Rule → Broken) → (ℕ → Type 0) → ℕ → Result Unit Broken → Type 0
Tried place P i (Ok u) = P i
Tried place P i (Err b) = ((rule : Rule) × (b ≡ place i rule)) × (P i → ⊥)

tried : (place : ℕ → Rule → Broken) (P : ℕ → Type 0) (i : ℕ) (r : Result Unit Rule) → Says r (P i) → Tried place P i (placing (place i) r)
tried place P i (Ok u) s = s.0 refl
tried place P i (Err rule) s = ((rule, refl), λ p. grind (arith, s))

-- n places from i on: P holds at all of them, or the first where it does not is named
abbrev Walked : (ℕ → Rule → Broken) → (ℕ → Type 0) → ℕ → ℕ → Result Unit Broken → Type 0
Walked place P i n (Ok u) = (k : ℕ) → i ≤ k → k < i + n → P k
Walked place P i n (Err b) =
    (j : ℕ) × (i ≤ j) × (j < i + n) × ((rule : Rule) × (b ≡ place j rule)) × (P j → ⊥) × ((k : ℕ) → i ≤ k → k < j → P k)

walk_step : (place : ℕ → Rule → Broken) (P : ℕ → Type 0) (i n : ℕ) (a r : Result Unit Broken) → Tried place P i a → Walked place P (i + 1) n r → Walked place P i (suc n) (a then r)
walk_step place P i n (Ok u) (Ok v) here w = λ k l h. let s = w k in grind (arith, here, s)
walk_step place P i n (Ok u) (Err b) here w =
    (w.0, omega arith, omega arith, w.3, w.4, λ k l h. let s = w.5 k in grind (arith, here, s))
walk_step place P i n (Err b) r here w = (i, omega arith, omega arith, here.0, here.1, λ k l h. absurd (omega arith))

walked : (place : ℕ → Rule → Broken) (P : ℕ → Type 0) (test : ℕ → Result Unit Broken) → ((i : ℕ) → Tried place P i (test i)) →
    (i n : ℕ) → Walked place P i n (in_turn test i n)
unfolding in_turn
walked place P test f i zero = λ k l h. absurd (omega arith)
walked place P test f i (suc n) = walk_step place P i n (test i) (in_turn test (i + 1) n) (f i) (walked place P test f (i + 1) n)

nodes_walked : (t : Parts) → Walked Node (NodeRules t) 1 (node_count t) (all_nodes t)
unfolding all_nodes node_kept
nodes_walked t = walked Node (NodeRules t) (node_kept t) (λ k. tried Node (NodeRules t) k (checking_node t k) (node_says t k)) 1 (node_count t)

shapes_walked : (t : Parts) → Walked Instruction (ShapeRules t) 0 (instruction_count t) (all_instructions t)
unfolding all_instructions instruction_kept
shapes_walked t =
    walked Instruction (ShapeRules t) (instruction_kept t) (λ i. tried Instruction (ShapeRules t) i (checking_instruction t i) (shape_says t i)) 0 (instruction_count t)

node_first : (t : Parts) (b : Broken) → Walked Node (NodeRules t) 1 (node_count t) (Err b) → Checked t (Err b)
node_first t b w =
    subst (λ (x : Broken). Checked t (Err x)) (sym w.3.1)
    (record {
      fails = λ p. w.4 (p.nodes w.0 (omega arith) (omega arith));
      number = inl refl;
      node = λ e. record { there = (omega arith, omega arith); broken = w.4; before = λ k l h. w.5 k (omega arith) h };
      instruction = λ e. absurd (omega arith);
    })

shape_first : (t : Parts) (b : Broken) → ((k : ℕ) → 1 ≤ k → k < 1 + node_count t → NodeRules t k) →
    Walked Instruction (ShapeRules t) 0 (instruction_count t) (Err b) → Checked t (Err b)
shape_first t b n w =
    subst (λ (x : Broken). Checked t (Err x)) (sym w.3.1)
    (record {
      fails = λ p. w.4 (p.shapes w.0 (omega arith));
      number = inr refl;
      node = λ e. absurd (omega arith);
      instruction = λ e. record { there = omega arith; broken = w.4; before = λ k h. w.5 k (omega arith) h; nodes = λ k l h. n k (omega arith) (omega arith) };
    })

both : (t : Parts) (a r : Result Unit Broken) → Walked Node (NodeRules t) 1 (node_count t) a → Walked Instruction (ShapeRules t) 0 (instruction_count t) r → Checked t (a then r)
both t (Ok u) (Ok v) n s = record { nodes = λ k l h. n k (omega arith) (omega arith); shapes = λ i h. s i (omega arith) (omega arith) }
both t (Ok u) (Err b) n s = shape_first t b n s
both t (Err b) r n s = node_first t b n

law : (t : Parts) → Checked t (checking t)
unfolding checking
law t = both t (all_nodes t) (all_instructions t) (nodes_walked t) (shapes_walked t)

pub checked : (t : Parts) (r : Result Unit Broken) → r ≡ checking t → Checked t r
checked t r h = subst (Checked t) (sym h) (law t)
