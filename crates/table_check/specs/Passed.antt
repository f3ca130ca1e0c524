-- What the check's answer means.
use Rattle.std.specs.Prelude.{◌≡◌, ℕ, ◌<◌, ◌≤◌, ◌⊎◌, Ok, Err, Result}
use Rattle.rules.specs.NodeRules.{NodeRules}
use Rattle.rules.specs.ShapeRules.{ShapeRules}
use Rattle.table_check.specs.Broken.{number_of, place_of}
use Rattle.table_check.specs.declared.broken.Broken.{Broken}
use Rattle.table.specs.Parts.{Parts}
use Rattle.table.specs.Reading.{instruction_count, node_count}

-- every node keeps the node rules, and every instruction the shape rules
pub record Passed (t : Parts) : Type 0 where
  pub nodes : (k : ℕ) → 0 < k → k ≤ node_count t → NodeRules t k
  pub shapes : (i : ℕ) → i < instruction_count t → ShapeRules t i

-- node k is the first that breaks a node rule
pub record FirstNode (t : Parts) (k : ℕ) : Type 0 where
  pub there : (0 < k) × (k ≤ node_count t)
  pub broken : NodeRules t k → ⊥
  pub before : (j : ℕ) → 0 < j → j < k → NodeRules t j

-- every node keeps the node rules, and instruction i is the first that breaks a shape rule
pub record FirstShape (t : Parts) (i : ℕ) : Type 0 where
  pub there : i < instruction_count t
  pub broken : ShapeRules t i → ⊥
  pub before : (j : ℕ) → j < i → ShapeRules t j
  pub nodes : (k : ℕ) → 0 < k → k ≤ node_count t → NodeRules t k

-- refusal 10 has the first node that breaks a rule for its place, refusal 11 the first instruction
pub record Refused (t : Parts) (b : Broken) : Type 0 where
  pub fails : Passed t → ⊥
  pub number : (number_of b ≡ 10) ⊎ (number_of b ≡ 11)
  pub node : number_of b ≡ 10 → FirstNode t (place_of b)
  pub instruction : number_of b ≡ 11 → FirstShape t (place_of b)

-- the law of the check: a table that keeps the rules is passed, and any other is refused at its first broken place
abbrev pub Checked : Parts → Result Unit Broken → Type 0
Checked t (Ok u) = Passed t
Checked t (Err b) = Refused t b
