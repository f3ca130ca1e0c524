-- One line more of a listing.
use Rattle.std.proofs.Common.{◌≡◌, ℕ, zero, suc, ◌+◌, ◌-◌, ◌<◌, List, ◌++◌, sym, ap, ◌∙◌, append_assoc, append-nil, arith}
use native.Mathlib.Numerals.{unary_clauses}
use Rattle.table.specs.Parts.{Parts}
use Rattle.listing.specs.Lines.{line_at, lines_from}

lines_turn : (t : Parts) (i n : ℕ) → 0 < n → lines_from t i n ≡ line_at t i ++ lines_from t (i + 1) (n - 1)
unfolding lines_from
lines_turn t i zero h = absurd (omega arith)
lines_turn t i (suc n) h = simp unary_clauses

pub lines_more : (t : Parts) (text : List ℕ) (i n : ℕ) → i < n → text ++ lines_from t i (n - i) ≡ (text ++ line_at t i) ++ lines_from t (i + 1) (n - (i + 1))
lines_more t text i n h =
    let q : n - i - 1 ≡ n - (i + 1) = omega arith in
    ap (λ rest. text ++ rest) (lines_turn t i (n - i) (omega arith) ∙ ap (λ k. line_at t i ++ lines_from t (i + 1) k) q) ∙ sym (append_assoc text (line_at t i) _)

pub lines_none : (t : Parts) (text : List ℕ) (i n : ℕ) → n ≡ 0 → text ++ lines_from t i n ≡ text
unfolding lines_from
lines_none t text i zero h = append-nil text
lines_none t text i (suc n) h = absurd (omega arith)
