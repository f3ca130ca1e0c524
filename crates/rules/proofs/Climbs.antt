-- One step of a climb.
use Rattle.std.proofs.Common.{◌≡◌, ℕ, zero, suc, ◌-◌, ◌<◌, true, cond, eqb, ℤ, refl, arith}
use native.Mathlib.Numerals.{unary_clauses}
use Rattle.rules.specs.Climbing.{arriving, leaving, nearest, within}
use Rattle.rules.specs.Reading.{kind_of, node_for, parent_of, same_kind}
use Rattle.table.specs.Parts.{Parts}
use Rattle.table.specs.Reading.{node_at}
use Rattle.table.specs.declared.records.NodeKind.TheVariants.{Loop, Unknown}

pub within_none : (t : Parts) (n k : ℕ) → n ≡ 0 → within t n k ≡ eqb k 0
unfolding within
within_none t zero k h = refl
within_none t (suc n) k h = absurd (omega arith)

pub within_step : (t : Parts) (n k : ℕ) → 0 < n → within t n k ≡ cond (eqb k 0) true (within t (n - 1) (parent_of t k))
unfolding within
within_step t zero k h = absurd (omega arith)
within_step t (suc n) k h = simp unary_clauses

pub nearest_none : (t : Parts) (n k : ℕ) → n ≡ 0 → nearest t n k ≡ 0
unfolding nearest
nearest_none t zero k h = refl
nearest_none t (suc n) k h = absurd (omega arith)

pub nearest_step : (t : Parts) (n k : ℕ) → 0 < n → nearest t n k ≡ cond (same_kind (kind_of t k) Loop) k (nearest t (n - 1) (parent_of t k))
unfolding nearest
nearest_step t zero k h = absurd (omega arith)
nearest_step t (suc n) k h = simp unary_clauses

pub arriving_none : (t : Parts) (n k : ℕ) (z : ℤ) → n ≡ 0 → arriving t n k z ≡ z
unfolding arriving
arriving_none t zero k z h = refl
arriving_none t (suc n) k z h = absurd (omega arith)

pub arriving_step : (t : Parts) (n k : ℕ) (z : ℤ) → 0 < n →
    arriving t n k z ≡ cond (same_kind (kind_of t k) Loop) z (arriving t (n - 1) (parent_of t k) (leaving (node_for t k)))
unfolding arriving
arriving_step t zero k z h = absurd (omega arith)
arriving_step t (suc n) k z h = simp unary_clauses

the_kinds_differ : (b : ℕ) → Unknown b ≡ Loop → ⊥
the_kinds_differ b h = let z : ◌≡◌ {A = ℕ} 0 1 = cc in omega arith

-- node 0 is no Loop
pub no_loop_at_0 : (t : Parts) (k : ℕ) → kind_of t k ≡ Loop → 0 < k
unfolding node_for node_at
no_loop_at_0 t zero h = absurd (the_kinds_differ 0 h)
no_loop_at_0 t (suc k) h = omega arith

-- each step of a climb to the nearest Loop
pub ruleset loop_steps = (nearest_none, nearest_step, arriving_none, arriving_step, no_loop_at_0)

-- each step of a climb to the bottom
pub ruleset bottom_steps = (within_none, within_step)
