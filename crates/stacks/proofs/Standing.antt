-- A stack's list, the topmost first, when its length falls.
use Rattle.std.proofs.Common.{◌≡◌, ◌∙◌, ℕ, ◌-◌, ◌<◌, ◌≤◌, List, [], ◌∷◌, ◌++◌, length, drop, take, reverse, sym, ap, arith}
use Rattle.std.proofs.Math.Seq.{drop-append_seam}
use Rattle.std.proofs.lemmas.Grind.{common_steps}
use Rattle.std.proofs.lemmas.List.{reverse-append, take-append-drop}
use Rattle.stacks.specs.Stack.{lowest, rest}

lowest_of : {A : Type 0} (xs : List A) (m : ℕ) → m ≤ length xs → lowest m (reverse xs) ≡ reverse (take m xs)
lowest_of xs m h =
    let r : reverse xs ≡ reverse (drop m xs) ++ reverse (take m xs) = ap reverse (sym (take-append-drop m xs)) ∙ reverse-append (take m xs) (drop m xs) in
    let k : length (reverse xs) - m ≡ length (reverse (drop m xs)) = grind (arith, common_steps) in
    ap (λ l. drop l (reverse xs)) k ∙ (ap (drop (length (reverse (drop m xs)))) r ∙ drop-append_seam (reverse (drop m xs)) (reverse (take m xs)))

pub lowest_reverse : {A : Type 0} (xs : List A) (n m : ℕ) → m ≤ n → n ≤ length xs → lowest m (reverse (take n xs)) ≡ reverse (take m xs)
lowest_reverse xs n m h l =
    let e = lowest_of (take n xs) m (grind (arith, common_steps)) in
    grind (arith, common_steps, e)

rest_lowest : {A : Type 0} (xs : List A) (n : ℕ) → length xs ≡ n → 0 < n → rest xs ≡ lowest (n - 1) xs
rest_lowest [] n e h = grind arith
rest_lowest (x ∷ xs) n e h = grind (arith, common_steps)

pub rest_reverse : {A : Type 0} (xs : List A) (n : ℕ) → 0 < n → n ≤ length xs → rest (reverse (take n xs)) ≡ reverse (take (n - 1) xs)
rest_reverse xs n h l =
    rest_lowest (reverse (take n xs)) n (grind (arith, common_steps)) h ∙ lowest_reverse xs n (n - 1) (omega arith) l
