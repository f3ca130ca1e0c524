-- The locals that the arguments fill, place by place.
use Rattle.std.proofs.Common.{◌≡◌, ◌∙◌, ℕ, zero, suc, ◌+◌, ◌-◌, ◌<◌, ◌≤◌, List, [], ◌∷◌, ◌++◌, map, length, get_or, replicate, Some, None, Option, refl, subst, arith, ⊎_elim}
use Rattle.std.proofs.lemmas.Bool.{cases_eq}
use Rattle.std.proofs.lemmas.Grind.{common_steps}
use Rattle.std.specs.Array.{IsFromFnResult, IsFromFnResultFrom}
use Rattle.std.specs.Fn.{Called}
use Rattle.std.specs.List.{slice_get}
use denote.Param.Members.{Mut}

pub filled_at : (xs : List ℕ) (n k : ℕ) (d : Option ℕ) → length xs ≤ n → k < n → get_or (map Some xs ++ replicate (n - length xs) None) k d ≡ slice_get xs k
filled_at [] n k d l h = grind (arith, common_steps)
filled_at (x ∷ xs) n zero d l h = refl
filled_at (x ∷ xs) n (suc k) d l h =
    let e : n - suc (length xs) ≡ (n - 1) - length xs = omega arith in
    rw e (filled_at xs (n - 1) k d (omega arith) (omega arith))

-- a function whose calls leave it as it is gives each place of an array
module _ {F B : Type 0} (g : Mut F (ℕ × Unit {0}) B) (v : ℕ → B) (f : F) (h : (i : ℕ) (y : B) (f' : F) → Called g f (i, tt) y f' → (y ≡ v i) × (f' ≡ f)) where
  made_from : (ys : List B) (i n : ℕ) (p : F) → p ≡ f → IsFromFnResultFrom g p ys i n → (k : ℕ) (d : B) → i ≤ k → k < i + n → get_or ys k d ≡ v k
  made_from ys i zero p e t k d a b = absurd (omega arith)
  made_from ys i (suc n) p e t k d a b =
      let one = h i t.1 t.0 (subst (λ (q : F). Called g q (i, tt) t.1 t.0) e t.3) in
      ⊎_elim
      (λ s. rw s (t.2.1 d ∙ one.0))
      (λ ne. made_from ys (i + 1) n t.0 one.1 t.4 k d (omega arith) (omega arith))
      (cases_eq k i)

pub made_at : {F B : Type 0} {g : Mut F (ℕ × Unit {0}) B} {f : F} {ys : List B} {n : ℕ} → IsFromFnResult g f ys n → (v : ℕ → B) →
    ((i : ℕ) (y : B) (f' : F) → Called g f (i, tt) y f' → (y ≡ v i) × (f' ≡ f)) → (k : ℕ) (d : B) → k < n → get_or ys k d ≡ v k
made_at {g = g} {f} {ys} {n} made v h k d b = made_from g v f h ys 0 n f refl made.each k d (omega arith) (omega arith)
