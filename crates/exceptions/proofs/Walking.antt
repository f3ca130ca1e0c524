-- A walk over links, while it goes on.
use Rattle.std.proofs.Common.{◌≡◌, ℕ, zero, suc, ◌+◌, ◌-◌, ◌<◌, ◌≤◌, Some, None, Option, sym, refl, ap, ◌∙◌, ⊎_elim, arith}
use Rattle.std.proofs.lemmas.Bool.Decides.{nat_tests}
use Rattle.std.proofs.lemmas.Bool.{cases_lt}
use Rattle.exceptions.specs.declared.linking.Walk.{Walk}
use Rattle.exceptions.specs.Links.{Links, hops, Ringless, Within}
use Rattle.exceptions.specs.Linking.{further, hopped, walk_from}
use Rattle.exceptions.proofs.Rings.{ends, hops_rest, some_not_none}

-- n links were followed before this walk
abbrev pub plus : ℕ → Walk → Walk
plus n w = record { followed = n + w.followed; cut = w.cut }

-- the walk from c for e stands at a after n links
pub record Going (limit : ℕ) (f : Links) (e c n a : ℕ) : Type 0 where
  pub low : a < limit
  pub few : n ≤ limit
  pub left : hops f (limit - n) (Some a) ≡ None
  pub same : walk_from f e limit c ≡ plus n (walk_from f e (limit - n) a)

plus_none : (w : Walk) → w ≡ plus 0 w
plus_none w = grind arith

plus_more : (n : ℕ) (w : Walk) → plus n (further w) ≡ plus (n + 1) w
plus_more n w = grind arith

hops_step : (f : Links) (m a : ℕ) → 0 < m → hops f m (Some a) ≡ hops f (m - 1) (f a)
unfolding hops
hops_step f m a h = hops_rest f 1 m (Some a) (omega arith)

walk_step : (f : Links) (e m a : ℕ) → 0 < m → walk_from f e m a ≡ hopped e a (f a) (walk_from f e (m - 1))
unfolding walk_from
walk_step f e zero a h = absurd (omega arith)
walk_step f e (suc n) a h = let k : n ≡ suc n - 1 = omega arith in ap (λ i. hopped e a (f a) (walk_from f e i)) k

module _ (limit : ℕ) (f : Links) (e c : ℕ) where
  pub going_from : Ringless f → Within limit f → c < limit → Going limit f e c 0 c
  going_from ring within low =
      let k : limit ≡ limit - 0 = omega arith in
      record {
        low = low;
        few = omega arith;
        left = sym (ap (λ i. hops f i (Some c)) k) ∙ ends limit f c ring within low;
        same = ap (λ i. walk_from f e i c) k ∙ plus_none (walk_from f e (limit - 0) c);
      }

  module _ (n a : ℕ) (going : Going limit f e c n a) where
    -- there is a link to spare
    pub going_few : n < limit
    unfolding hops
    going_few =
        ⊎_elim (λ h. h)
        (λ h.
        let k : limit - n ≡ 0 = omega arith in
        absurd (some_not_none (Some a) refl (sym (ap (λ i. hops f i (Some a)) k) ∙ going.left)))
        (cases_lt n limit)

    going_hop : (o : Option ℕ) → f a ≡ o → walk_from f e limit c ≡ plus n (hopped e a o (walk_from f e (limit - (n + 1))))
    going_hop o p =
        let few : n < limit = going_few in
        let k : limit - n - 1 ≡ limit - (n + 1) = omega arith in
        let s = going.same in
        let w = walk_step f e (limit - n) a (omega arith) in
        cc

    pub going_on : (d : ℕ) → Within limit f → f a ≡ Some d → (d ≡ e → ⊥) → Going limit f e c (n + 1) d
    going_on d within p other =
        let few : n < limit = going_few in
        let k : limit - n - 1 ≡ limit - (n + 1) = omega arith in
        let w : Walk = walk_from f e (limit - (n + 1)) d in
        record {
          low = within a d p;
          few = omega arith;
          left = let h = hops_step f (limit - n) a (omega arith) in let l = going.left in grind arith;
          same = let s = going_hop (Some d) p in let m = plus_more n w in grind (arith, nat_tests);
        }

    pub going_found : (d : ℕ) → f a ≡ Some d → d ≡ e → record { followed = n + 1; cut = Some a } ≡ walk_from f e limit c
    going_found d p q = let s = going_hop (Some d) p in grind (arith, nat_tests)

    pub going_ended : f a ≡ None → record { followed = n; cut = None } ≡ walk_from f e limit c
    going_ended p = let s = going_hop None p in grind arith
