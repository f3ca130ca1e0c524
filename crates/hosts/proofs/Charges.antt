-- Charges count uses.
use Rattle.std.proofs.Common.{◌≡◌, ℕ, ◌+◌, ◌%◌, ◌<◌, ◌≤◌, ltb, List, [], ◌∷◌, length, get_or, replicate, Some, None, Ok, Option, refl, ap, ◌∙◌, zero-add, arith, length-set, get_or-set_other, get_or-set_same}
use Rattle.std.proofs.lemmas.Bool.{cases_eq}
use Rattle.std.proofs.lemmas.Bool.Decides.{nat_tests}
use Rattle.std.proofs.lemmas.Grind.{common_steps}
use Rattle.exceptions.specs.Questions.{Question}
use Rattle.hosts.specs.Rack.{charge_of, grown, used_by, recharged, rack_moves, uses_one, uses, call_reply, next_reply, rack_meaning, CountsUses}

-- eight charges of at most 3
record Charged (s : List ℕ) : Type 0 where
  eight : length s ≡ 8
  low : (k : ℕ) → get_or s k 0 ≤ 3

grown_mod : (n u : ℕ) → n ≤ 3 → (grown n + u) % 4 ≡ (n + (1 + u)) % 4
grown_mod n u h = grind (arith, nat_tests)

none_mod : (n : ℕ) → n ≤ 3 → n ≡ (n + 0) % 4
none_mod n h = omega arith

recharged_charged : (s : List ℕ) (o : Option ℕ) → Charged s → Charged (recharged s o)
recharged_charged s None c = c
recharged_charged s (Some d) c =
    let n : ℕ = grown (charge_of s d) in
    let few : n ≤ 3 = let h = c.low (d % 8) in grind (arith, nat_tests) in
    let in-it : d % 8 < length s = omega arith in
    let at-it = get_or-set_same s (d % 8) n 0 in-it in
    record {
      eight = length-set s (d % 8) n ∙ c.eight;
      low = λ k. let a = get_or-set_other s (d % 8) k n 0 in let b = c.low k in let e = cases_eq k (d % 8) in grind arith;
    }

step : (h : ℕ) (s : List ℕ) (o : Option ℕ) (u : ℕ) → Charged s → (charge_of (recharged s o) h + u) % 4 ≡ (charge_of s h + (uses_one h o + u)) % 4
step h s None u c = omega arith
step h s (Some d) u c =
    let in-it : d % 8 < length s = omega arith in
    let a = get_or-set_same s (d % 8) (grown (charge_of s d)) 0 in-it in
    let b = get_or-set_other s (d % 8) (h % 8) (grown (charge_of s d)) 0 in
    let m = grown_mod (charge_of s h) u (c.low (h % 8)) in
    grind (arith, nat_tests)

counted : (h : ℕ) (s : List ℕ) (earlier : List Question) → Charged s → charge_of (rack_moves s earlier) h ≡ (charge_of s h + uses h earlier) % 4
unfolding uses
counted h s [] c = none_mod (charge_of s h) (c.low (h % 8))
counted h s (q ∷ earlier) c =
    counted h (recharged s (used_by q)) earlier (recharged_charged s (used_by q) c) ∙ step h s (used_by q) (uses h earlier) c

zero_at : (n k : ℕ) → ◌≡◌ {A = ℕ} (get_or (replicate n 0) k 0) 0
zero_at n k = grind (arith, common_steps)

counts_used : (h : ℕ) (earlier : List Question) → charge_of (rack_moves (replicate 8 0) earlier) h ≡ uses h earlier % 4
counts_used h earlier =
    let z = zero_at 8 (h % 8) in
    counted h (replicate 8 0) earlier (record { eight = refl; low = λ k. let z = zero_at 8 k in omega arith })
    ∙ ap (λ n. n % 4) (ap (λ n. n + uses h earlier) z ∙ zero-add (uses h earlier))

pub new_counts : CountsUses (rack_meaning (replicate 8 0))
new_counts = record {
  call = λ earlier h args. ap (call_reply h) (counts_used h earlier);
  next = λ earlier h. ap next_reply (counts_used h earlier);
  send = λ earlier h w. ap next_reply (counts_used h earlier);
  truth = λ earlier h. ap (λ n. Ok (ltb 0 n)) (counts_used h earlier);
}
