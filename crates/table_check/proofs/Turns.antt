-- One turn of a walk over places.
use Rattle.std.proofs.Common.{◌≡◌, ℕ, zero, suc, ◌+◌, ◌-◌, ◌<◌, Ok, Result, refl, arith}
use native.Mathlib.Numerals.{unary_clauses}
use Rattle.table_check.specs.Checking.{in_turn}
use Rattle.table.specs.Demands.{◌then◌}
use Rattle.table_check.specs.declared.broken.Broken.{Broken}

pub turn_none : (test : ℕ → Result Unit Broken) (i n : ℕ) → n ≡ 0 → in_turn test i n ≡ Ok tt
unfolding in_turn
turn_none test i zero h = refl
turn_none test i (suc n) h = absurd (omega arith)

turn_step : (test : ℕ → Result Unit Broken) (i n : ℕ) → 0 < n → in_turn test i n ≡ (test i then in_turn test (i + 1) (n - 1))
unfolding in_turn
turn_step test i zero h = absurd (omega arith)
turn_step test i (suc n) h = simp unary_clauses

-- the turn at place i, of n places from number 0 or 1 on
pub turn_on : (test : ℕ → Result Unit Broken) (n i k : ℕ) → i < n →
    in_turn test k (n - i) ≡ (test k then in_turn test (k + 1) (n - (i + 1)))
turn_on test n i k h =
    let u = turn_step test k (n - i) (omega arith) in
    let q : n - i - 1 ≡ n - (i + 1) = omega arith in
    cc

pub ruleset turns = (turn_none, turn_on)
