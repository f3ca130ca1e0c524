-- A test of several parts is passed exactly if its rule is kept.
use Rattle.std.proofs.Common.{◌≡◌, Ok, Result, arith}
use Rattle.table.specs.Demands.{◌then◌}

abbrev pub Says : {E : Type 0} → Result Unit E → Type 0 → Type 0
Says r P = (r ≡ Ok tt → P) × (P → r ≡ Ok tt)

pub says_then : {E : Type 0} {P Q : Type 0} (a b : Result Unit E) → Says a P → Says b Q → Says (a then b) (P × Q)
says_then a b p q = grind (arith, p, q)

pub says_three : {E : Type 0} {P Q R : Type 0} (a b c : Result Unit E) → Says a P → Says b Q → Says c R → Says (a then b then c) (P × Q × R)
says_three a b c p q r = grind (arith, p, q, r)
