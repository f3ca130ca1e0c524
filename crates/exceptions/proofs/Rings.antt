-- What holds of chains of links, and which changes of a link make no ring.
use Rattle.std.proofs.Common.{◌≡◌, ℕ, zero, suc, ◌+◌, ◌-◌, ◌<◌, ◌≤◌, cond, eqb, ◌⊎◌, Some, None, Option, unwrap_or, sym, refl, ap, ◌∙◌, inl, inr, ⊎_elim, suc-add, zero-add, arith}
use Rattle.std.proofs.lemmas.Option.{none-some}
use Rattle.std.proofs.lemmas.Bool.{cases_eq, cases_order, ne_eqb, eq-eqb}
use Rattle.std.proofs.lemmas.Bool.Decides.{nat_tests}
use Rattle.exceptions.specs.Links.{Links, linked, hop, hops, Ringless, Within}

-- no n + 1 places for n numbers
pub pigeon : (n : ℕ) (g : ℕ → ℕ) → ((i : ℕ) → i ≤ n → g i < n) → ((i j : ℕ) → i < j → j ≤ n → g i ≡ g j → ⊥) → ⊥
pigeon zero g low apart = let h = low 0 in omega (arith, h (omega arith))
pigeon (suc m) g low apart =
    pigeon m (λ i. cond (eqb (g i) m) (g (suc m)) (g i))
    (λ i h. let a = low i in let b = low (suc m) in let s = apart i (suc m) in grind (arith, nat_tests))
    (λ i j h k. let a = apart i j in let b = apart i (suc m) in let s = apart j (suc m) in grind (arith, nat_tests))

pub hops_none : (f : Links) (n : ℕ) → hops f n None ≡ None
unfolding hops
hops_none f zero = refl
hops_none f (suc n) = hops_none f n

pub hops_add : (f : Links) (m n : ℕ) (o : Option ℕ) → hops f (m + n) o ≡ hops f n (hops f m o)
unfolding hops
hops_add f zero n o = ap (λ k. hops f k o) (zero-add n)
hops_add f (suc m) n o = ap (λ k. hops f k o) (suc-add m n) ∙ hops_add f m n (hop f o)

pub hops_rest : (f : Links) (m n : ℕ) (o : Option ℕ) → m ≤ n → hops f n o ≡ hops f (n - m) (hops f m o)
hops_rest f m n o h =
    let k : n ≡ m + (n - m) = omega arith in
    ap (λ i. hops f i o) k ∙ hops_add f m (n - m) o

-- what has ended stays so
pub ended : (f : Links) (m n : ℕ) (o : Option ℕ) → m ≤ n → hops f m o ≡ None → hops f n o ≡ None
ended f m n o h e = hops_rest f m n o h ∙ (ap (hops f (n - m)) e ∙ hops_none f (n - m))

pub some_not_none : {x : ℕ} (o : Option ℕ) → o ≡ Some x → o ≡ None → ⊥
some_not_none o p q = none-some _ (sym q ∙ p)

pub cases_none : (o : Option ℕ) → (o ≡ None) ⊎ (o ≡ Some (unwrap_or o 0))
cases_none None = inl refl
cases_none (Some x) = inr refl

-- a chain without rings meets an exception once
pub once_before : (f : Links) (e m n : ℕ) (o : Option ℕ) → Ringless f → hops f m o ≡ Some e → hops f n o ≡ Some e → m < n → ⊥
once_before f e m n o ring p q h =
    let k : suc (n - m - 1) ≡ n - m = omega arith in
    ring (n - m - 1) e
    (ap (λ i. hops f i (Some e)) k ∙ (sym (ap (hops f (n - m)) p) ∙ (sym (hops_rest f m n o (omega arith)) ∙ q)))

pub once : (f : Links) (e m n : ℕ) (o : Option ℕ) → Ringless f → hops f m o ≡ Some e → hops f n o ≡ Some e → m ≡ n
once f e m n o ring p q =
    ⊎_elim (λ h. h) (⊎_elim (λ h. absurd (once_before f e m n o ring p q h)) (λ h. absurd (once_before f e n m o ring q p h)))
    (cases_order m n)

-- a chain that never leads to e is as it was when the link of e changes
pub avoids : (f : Links) (e : ℕ) (c : Option ℕ) (n : ℕ) (o : Option ℕ) → ((m : ℕ) → hops f m o ≡ Some e → ⊥) → hops (linked f e c) n o ≡ hops f n o
unfolding hops
avoids f e c zero o never = refl
avoids f e c (suc n) None never = avoids f e c n None never
avoids f e c (suc n) (Some y) never =
    let other : y ≡ e → ⊥ = λ p. never 0 (ap Some p) in
    let on = avoids f e c n (f y) (λ m. never (suc m)) in
    grind (arith, nat_tests)

-- a chain is as it was when the link of e changes, or it leads to e
passes : (f : Links) (e : ℕ) (c : Option ℕ) (n : ℕ) (o : Option ℕ) → (hops (linked f e c) n o ≡ hops f n o) ⊎ ((i : ℕ) × (hops (linked f e c) i o ≡ Some e))
unfolding hops
passes f e c zero o = inl refl
passes f e c (suc n) None = passes f e c n None
passes f e c (suc n) (Some y) =
    ⊎_elim (λ p. inr (0, ap Some p))
    (λ p.
    let s : cond (eqb y e) c (f y) ≡ f y = ap (λ b. cond b c (f y)) (ne_eqb y e p) in
    ⊎_elim (λ q. inl (ap (hops (linked f e c) n) s ∙ q)) (λ q. inr (suc q.0, ap (hops (linked f e c) q.0) s ∙ q.1))
    (passes f e c n (f y)))
    (cases_eq y e)

-- steps can be taken in either order
hops_swap : (f : Links) (m n : ℕ) (o : Option ℕ) → hops f m (hops f n o) ≡ hops f n (hops f m o)
hops_swap f m n o =
    let k : n + m ≡ m + n = omega arith in
    sym (hops_add f n m o) ∙ (ap (λ i. hops f i o) k ∙ hops_add f m n o)

-- a new link from e makes no ring if its chain never leads to e
pub link_ringless : (f : Links) (e : ℕ) (c : Option ℕ) → Ringless f → ((m : ℕ) → hops f m c ≡ Some e → ⊥) → Ringless (linked f e c)
unfolding hops
link_ringless f e c ring never n x r =
    ⊎_elim (λ p. ring n x (sym p ∙ r))
    (λ p.
    let g : Links = linked f e c in
    let back : hops g (suc n) (Some e) ≡ Some e = ap (hops g (suc n)) (sym p.1) ∙ (hops_swap g (suc n) p.0 (Some x) ∙ (ap (hops g p.0) r ∙ p.1)) in
    let s : cond (eqb e e) c (f e) ≡ c = ap (λ b. cond b c (f e)) (eq-eqb e e refl) in
    never n (sym (avoids f e c n c never) ∙ (sym (ap (hops g n) s) ∙ back)))
    (passes f e c (suc n) (Some x))

pub cut_ringless : (f : Links) (k : ℕ) → Ringless f → Ringless (linked f k None)
cut_ringless f k ring = link_ringless f k None ring (λ m e. some_not_none _ e (hops_none f m))

-- each exception on a chain is below the limit
pub hops_below : (limit : ℕ) (f : Links) (n : ℕ) (c y : ℕ) → Within limit f → c < limit → hops f n (Some c) ≡ Some y → y < limit
unfolding hops
hops_below limit f zero c y within low e = let s : c ≡ y = cc in omega arith
hops_below limit f (suc n) c y within low e =
    ⊎_elim (λ p. absurd (some_not_none _ e (ap (hops f n) p ∙ hops_none f n)))
    (λ p. hops_below limit f n (unwrap_or (f c) 0) y within (within c (unwrap_or (f c) 0) p) (ap (hops f n) (sym p) ∙ e))
    (cases_none (f c))

-- without rings a chain ends before it has met every exception
pub ends : (limit : ℕ) (f : Links) (c : ℕ) → Ringless f → Within limit f → c < limit → hops f limit (Some c) ≡ None
ends limit f c ring within low =
    ⊎_elim (λ p. p)
    (λ p.
    let g : ℕ → ℕ = λ i. unwrap_or (hops f i (Some c)) 0 in
    let on : (i : ℕ) → i ≤ limit → hops f i (Some c) ≡ Some (g i) =
    λ i h. ⊎_elim (λ q. absurd (some_not_none _ p (ended f i limit (Some c) h q))) (λ q. q) (cases_none (hops f i (Some c))) in
    absurd
    (pigeon limit g (λ i h. hops_below limit f i c (g i) within low (on i h))
    (λ i j h k q. once_before f (g i) i j (Some c) ring (on i (omega arith)) (on j k ∙ ap Some (sym q)) h)))
    (cases_none (hops f limit (Some c)))
