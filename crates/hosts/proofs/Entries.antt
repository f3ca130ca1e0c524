-- Entries of a tape, one after another.
use Rattle.std.proofs.Common.{◌≡◌, ℕ, ◌+◌, ◌*◌, ◌≤◌, Bool, true, false, cond, List, [], ◌∷◌, length, drop, sym, refl, ap, ◌∙◌, ⊎_elim, zero-add, arith, length-drop, drop-drop}
use Rattle.std.proofs.lemmas.Bool.{cases_lt, cond-false, le-ltb}
use Rattle.std.proofs.lemmas.Bool.Decides.{nat_tests}
use Rattle.hosts.specs.Tape.{entry_of, entry_left, entry_reply, takes, tape_moves, tape_meaning, taken, InOrder}
use Rattle.exceptions.specs.Questions.{Question}

skips_long : (s : List ℕ) (m : ℕ) → 5 ≤ length s → entry_of (drop (m * 5) (entry_left s)) ≡ entry_of (drop ((1 + m) * 5) s)
unfolding entry_left
skips_long s m h =
    let k : 5 + m * 5 ≡ (1 + m) * 5 = omega arith in
    let on : entry_left s ≡ drop 5 s = cond-false _ _ _ (le-ltb _ 5 h) in
    ap (λ t. entry_of (drop (m * 5) t)) on ∙ ap entry_of (drop-drop (m * 5) 5 s ∙ ap (λ i. drop i s) k)

skipped : (s : List ℕ) (b : Bool) (m : ℕ) → entry_of (drop (m * 5) (cond b (entry_left s) s)) ≡ entry_of (drop ((cond b 1 0 + m) * 5) s)
unfolding entry_of entry_left
skipped s true m = ⊎_elim (λ h. grind (arith, nat_tests, length-drop)) (skips_long s m) (cases_lt (length s) 5)
skipped s false m = ap (λ i. entry_of (drop (i * 5) s)) (sym (zero-add m))

ordered : (s : List ℕ) (earlier : List Question) → entry_of (tape_moves s earlier) ≡ entry_of (drop (taken earlier * 5) s)
unfolding taken
ordered s [] = refl
ordered s (q ∷ earlier) = ordered (cond (takes q) (entry_left s) s) earlier ∙ skipped s (takes q) (taken earlier)

pub in_order : (s : List ℕ) → InOrder s (tape_meaning s)
unfolding InOrder
in_order s earlier q = ap (λ x. entry_reply x q) (ordered s earlier)
