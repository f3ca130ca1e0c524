-- What the tests tell: each came out true and its fact holds, or false and it does not.
use Rattle.std.proofs.Common.{◌≡◌, ℕ, zero, suc, Bool, true, false, ◌⊎◌, ℤ, pos, arith}
use Rattle.std.proofs.lemmas.Bool.Decides.{nat_tests}
use Rattle.rules.specs.Arrivals.{is_depth}
use Rattle.rules.specs.Climbing.{within}
use Rattle.rules.specs.NodeRules.{Within}
use Rattle.rules.specs.Reading.{parent_of, same_kind}
use Rattle.table.specs.Parts.{Parts}
use Rattle.table.specs.declared.records.NodeKind.{NodeKind}

abbrev pub Tells : Bool → Type 0 → Type 0
Tells b P = ((b ≡ true) × P) ⊎ ((b ≡ false) × (P → ⊥))

pub kind_tells : (a b : NodeKind) → Tells (same_kind a b) (a ≡ b)
unfolding same_kind
kind_tells a b = grind (arith, nat_tests)

pub depth_tells : (d : ℕ) (z : ℤ) → Tells (is_depth d z) (pos d ≡ z)
unfolding is_depth
depth_tells d z = grind (arith, nat_tests)

pub within_tells : (t : Parts) (n k : ℕ) → Tells (within t n k) (Within t n k)
unfolding within Within
within_tells t zero k = grind (arith, nat_tests)
within_tells t (suc n) k = let w = within_tells t n (parent_of t k) in grind (arith, nat_tests, w)
