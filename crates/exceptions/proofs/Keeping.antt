-- Linking keeps what is said of it.
use Rattle.std.proofs.Common.{◌≡◌, ℕ, zero, suc, ◌+◌, ◌<◌, ◌≤◌, Bool, cond, ◌∷◌, IfSome, Some, None, Option, unwrap_or, sym, refl, ap, ◌∙◌, subst, inl, inr, ⊎_elim, add-one, arith}
use Rattle.std.proofs.lemmas.Bool.{cases_eq, cases_lt, cases_Bool, eq-eqb, ne_eqb}
use Rattle.std.proofs.lemmas.Bool.Decides.{nat_tests}
use Rattle.exceptions.specs.declared.linking.Walk.{Walk}
use Rattle.exceptions.specs.Links.{Links, linked, hop, hops, Ringless, Within}
use Rattle.exceptions.specs.Linking.{further, hopped, walk_from, cutting, relinked, linkable, contextualized, followed_by, link_out, link_left}
use Rattle.exceptions.specs.Chaining.{Handled, Precedes, Apart, Reaches, Linked, Chains, Implicit-chaining}
use Rattle.exceptions.specs.Levels.{LevelList, topmost_of}
use Rattle.exceptions.specs.World.{World, Lawful, asked, with_links}
use Rattle.exceptions.specs.Questions.{Question}
use Rattle.exceptions.proofs.Rings.{
  hops_none,
  hops_below,
  ended,
  ends,
  once,
  avoids,
  link_ringless,
  cut_ringless,
  some_not_none,
  cases_none,
}
use Rattle.exceptions.proofs.Tabling.{within_linked}

-- what a walk found, of n links from c in search of e: no link to e, or that of k
abbrev pub Found : Links → ℕ → ℕ → ℕ → Option ℕ → Type 0
Found f e c n None = Apart f c e × ((last : ℕ) × (hops f n (Some c) ≡ Some last) × (f last ≡ None))
Found f e c n (Some k) = (m : ℕ) × (n ≡ suc m) × (hops f m (Some c) ≡ Some k) × (f k ≡ Some e)

hops_last : (f : Links) (n : ℕ) (o : Option ℕ) → hops f (suc n) o ≡ hop f (hops f n o)
unfolding hops
hops_last f zero o = refl
hops_last f (suc n) o = hops_last f n (hop f o)

after_some : (f : Links) (n : ℕ) (o : Option ℕ) (k : ℕ) → hops f n o ≡ Some k → hops f (suc n) o ≡ f k
after_some f n o k p = hops_last f n o ∙ ap (hop f) p

module _ (f : Links) (e : ℕ) where
  apart_none : (c : ℕ) → f c ≡ None → (c ≡ e → ⊥) → Apart f c e
  unfolding hops
  apart_none c p other zero q = other cc
  apart_none c p other (suc m) q = some_not_none _ q (ap (hops f m) p ∙ hops_none f m)

  apart_some : (c d : ℕ) → f c ≡ Some d → (c ≡ e → ⊥) → Apart f d e → Apart f c e
  unfolding hops
  apart_some c d p other never zero q = other cc
  apart_some c d p other never (suc m) q = never m (sym (ap (hops f m) p) ∙ q)

  -- a link from c to d comes before a walk from d
  further_found : (c d n : ℕ) (o : Option ℕ) → f c ≡ Some d → (c ≡ e → ⊥) → Found f e d n o → Found f e c (n + 1) o
  unfolding hops
  further_found c d n None p other (never, (last, q, r)) =
      (apart_some c d p other never, (last, ap (λ i. hops f i (Some c)) (add-one n) ∙ (ap (hops f n) p ∙ q), r))
  further_found c d n (Some k) p other (m, i, q, r) = (suc m, add-one n ∙ ap suc i, ap (hops f m) p ∙ q, r)

  abbrev FoundBy : ℕ → Walk → Type 0
  FoundBy c w = Found f e c w.followed w.cut

  hop_found : (n c : ℕ) (o : Option ℕ) → f c ≡ o → hops f n o ≡ None → (c ≡ e → ⊥) → ((d : ℕ) → hops f n (Some d) ≡ None → (d ≡ e → ⊥) → FoundBy d (walk_from f e n d)) → FoundBy c (hopped e c o (walk_from f e n))
  unfolding hops
  hop_found n c None p h other on = (apart_none c p other, (c, refl, p))
  hop_found n c (Some d) p h other on =
      let Goal : Bool → Type 0 = λ b. FoundBy c (cond b (record { followed = 1; cut = Some c }) (further (walk_from f e n d))) in
      ⊎_elim (λ q. subst Goal (sym (eq-eqb d e q)) (0, refl, refl, p ∙ ap Some q))
      (λ q. subst Goal (sym (ne_eqb d e q)) (further_found c d (walk_from f e n d).followed (walk_from f e n d).cut p other (on d h q)))
      (cases_eq d e)

  pub walk_found : (n c : ℕ) → hops f n (Some c) ≡ None → (c ≡ e → ⊥) → FoundBy c (walk_from f e n c)
  unfolding hops walk_from
  walk_found zero c h other = absurd (some_not_none _ refl h)
  walk_found (suc n) c h other = hop_found n c (f c) refl h other (walk_found n)

-- what the cut links reach, those before reached
cut_old : (f : Links) (k n y : ℕ) (o : Option ℕ) → hops (linked f k None) n o ≡ Some y → hops f n o ≡ Some y
unfolding hops
cut_old f k zero y o p = p
cut_old f k (suc n) y None p = cut_old f k n y None p
cut_old f k (suc n) y (Some x) p =
    let on = cut_old f k n y (f x) in
    let end = hops_none (linked f k None) n in
    grind (arith, nat_tests)

other_link : (f : Links) (e : ℕ) (c : Option ℕ) (k : ℕ) → (k ≡ e → ⊥) → linked f e c k ≡ f k
other_link f e c k other = grind (arith, nat_tests)

own_link : (f : Links) (e : ℕ) (c : Option ℕ) → linked f e c e ≡ c
own_link f e c = grind (arith, nat_tests)

module _ (limit : ℕ) (f : Links) (e c : ℕ) (ring : Ringless f) (within : Within limit f) (low : c < limit) where
  -- the links cut are ringless and within the limit
  pub cut_below : (n : ℕ) (o : Option ℕ) → Found f e c n o → IfSome o (λ k. k < limit)
  cut_below n None found = tt
  cut_below n (Some k) (m, i, q, r) = hops_below limit f m c k within low q

  cutting_ringless : (o : Option ℕ) → Ringless (cutting f o)
  cutting_ringless None = ring
  cutting_ringless (Some k) = cut_ringless f k ring

  cutting_within : (o : Option ℕ) → Within limit (cutting f o)
  cutting_within None = within
  cutting_within (Some k) = within_linked limit f k None within tt

  -- after the cut no chain leads from c to e
  cutting_apart : (n : ℕ) (o : Option ℕ) → Found f e c n o → Apart (cutting f o) c e
  cutting_apart n None (never, last) j p = never j p
  cutting_apart n (Some k) (m, i, q, r) j p =
      let g : Links = linked f k None in
      let same : j ≡ suc m = once f e j (suc m) (Some c) ring (cut_old f k j e (Some c) p) (after_some f m (Some c) k q ∙ r) in
      let last : hop g (hops g m (Some c)) ≡ Some e = sym (hops_last g m (Some c)) ∙ (sym (ap (λ i. hops g i (Some c)) same) ∙ p) in
      ⊎_elim (λ z. some_not_none _ last (ap (hop g) z))
      (λ z.
      let y : ℕ = unwrap_or (hops g m (Some c)) 0 in
      let s : Some y ≡ Some k = sym (cut_old f k m y (Some c) z) ∙ q in
      some_not_none _ last (ap (hop g) (z ∙ s) ∙ own_link f k None))
      (cases_none (hops g m (Some c)))

  pub relinked_ringless : (n : ℕ) (o : Option ℕ) → Found f e c n o → Ringless (linked (cutting f o) e (Some c))
  relinked_ringless n o found = link_ringless (cutting f o) e (Some c) (cutting_ringless o) (cutting_apart n o found)

  relinked_within : (o : Option ℕ) → Within limit (linked (cutting f o) e (Some c))
  relinked_within o = within_linked limit (cutting f o) e (Some c) (cutting_within o) low

  -- only the one link is cut
  relinked_cut : (n : ℕ) (o : Option ℕ) (k : ℕ) → Found f e c n o → Precedes f c e k → linked (cutting f o) e (Some c) k ≡ None
  unfolding hops
  relinked_cut n None k (never, last) (j, p, s) = absurd (never (suc j) (after_some f j (Some c) k p ∙ s))
  relinked_cut n (Some l) k (m, i, q, r) (j, p, s) =
      let same : suc j ≡ suc m = once f e (suc j) (suc m) (Some c) ring (after_some f j (Some c) k p ∙ s) (after_some f m (Some c) l q ∙ r) in
      let level : j ≡ m = omega arith in
      let t : Some k ≡ Some l = sym p ∙ (ap (λ i. hops f i (Some c)) level ∙ q) in
      let u : k ≡ l = cc in
      let other : k ≡ e → ⊥ = λ z. ring 0 e (sym (ap f z) ∙ s) in
      other_link (linked f l None) e (Some c) k other ∙ (ap (linked f l None) u ∙ own_link f l None)

  relinked_kept : (n : ℕ) (o : Option ℕ) (k : ℕ) → Found f e c n o → (k ≡ e → ⊥) → (Precedes f c e k → ⊥) → linked (cutting f o) e (Some c) k ≡ f k
  relinked_kept n None k found other not = other_link f e (Some c) k other
  relinked_kept n (Some l) k (m, i, q, r) other not =
      other_link (linked f l None) e (Some c) k other
      ∙ other_link f l None k (λ z. not (m, q ∙ ap Some (sym z), ap f z ∙ r))

  cutting_same : (n : ℕ) (o : Option ℕ) (x j : ℕ) → Found f e c n o → Apart f x e → hops (cutting f o) j (Some x) ≡ hops f j (Some x)
  cutting_same n None x j found never = refl
  cutting_same n (Some l) x j (m, i, q, r) never = avoids f l None j (Some x) (λ a p. never (suc a) (after_some f a (Some x) l p ∙ r))

  relinked_same : (n : ℕ) (o : Option ℕ) (x j : ℕ) → Found f e c n o → Apart f x e → hops (linked (cutting f o) e (Some c)) j (Some x) ≡ hops f j (Some x)
  relinked_same n o x j found never =
      avoids (cutting f o) e (Some c) j (Some x) (λ a p. never a (sym (cutting_same n o x a found never) ∙ p))
      ∙ cutting_same n o x j found never

  found_reaches : (n : ℕ) (o : Option ℕ) → Found f e c n o → Reaches f c e n
  found_reaches n None found = inr found
  found_reaches n (Some k) (m, i, q, r) = inl (ap (λ j. hops f j (Some c)) i ∙ (after_some f m (Some c) k q ∙ r))

  reach_few : (n y : ℕ) → hops f n (Some c) ≡ Some y → n < limit
  reach_few n y p =
      ⊎_elim (λ h. h) (λ h. absurd (some_not_none _ p (ended f limit n (Some c) h (ends limit f c ring within low)))) (cases_lt n limit)

  found_few : (n : ℕ) → Reaches f c e n → n < limit
  found_few n reaches = ⊎_elim (reach_few n e) (λ p. reach_few n p.1.0 p.1.1) reaches

module _ (limit : ℕ) (f : Links) (e : ℕ) (some : 1 ≤ limit) (ring : Ringless f) (within : Within limit f) where
  linked_idle : (top : Option ℕ) → ((c : ℕ) → Handled limit top e c → ⊥) → Linked limit top e f f 0
  linked_idle top idle = record {
    ringless = ring;
    within = within;
    chained = λ c h. absurd (idle c h);
    cut = λ c k h. absurd (idle c h);
    kept = λ c k h. absurd (idle c h);
    same = λ x n never. refl;
    counted = λ c h. absurd (idle c h);
    few = omega arith;
    idle = λ h. (refl, refl);
  }

  linked_to : (d : ℕ) → Handled limit (Some d) e d → Linked limit (Some d) e f (relinked limit f e d) (walk_from f e limit d).followed
  unfolding relinked
  linked_to d here =
      let low : d < limit = here.handled in
      let w : Walk = walk_from f e limit d in
      let found : Found f e d w.followed w.cut = walk_found f e limit d (ends limit f d ring within low) here.other in
      let is : (c : ℕ) → Handled limit (Some d) e c → d ≡ c = λ c h. let p = h.topmost in cc in
      let reaches : Reaches f d e w.followed = found_reaches limit f e d ring within low w.followed w.cut found in
      record {
        ringless = relinked_ringless limit f e d ring within low w.followed w.cut found;
        within = relinked_within limit f e d ring within low w.cut;
        chained = λ c h. own_link (cutting f w.cut) e (Some d) ∙ ap Some (is c h);
        cut = λ c k h p. relinked_cut limit f e d ring within low w.followed w.cut k found (subst (λ x. Precedes f x e k) (sym (is c h)) p);
        kept = λ c k h other not. relinked_kept limit f e d ring within low w.followed w.cut k found other (λ p. not (subst (λ x. Precedes f x e k) (is c h) p));
        same = λ x n never. relinked_same limit f e d ring within low w.followed w.cut x n found never;
        counted = λ c h. subst (λ x. Reaches f x e w.followed) (is c h) reaches;
        few = found_few limit f e d ring within low w.followed reaches;
        idle = λ none. absurd (none d here);
      }

  pub linking_keeps : (top : Option ℕ) → Linked limit top e f (contextualized limit f e top) (followed_by limit f e top)
  unfolding contextualized followed_by
  linking_keeps None = linked_idle None (λ c h. some_not_none _ h.topmost refl)
  linking_keeps (Some d) =
      let Goal : Bool → Type 0 = λ b. Linked limit (Some d) e f (cond b (relinked limit f e d) f) (cond b (walk_from f e limit d).followed 0) in
      ⊎_elim (λ p. subst Goal (sym p) (linked_to d (record { topmost = refl; other = grind (arith, nat_tests); handled = grind (arith, nat_tests); raised = grind (arith, nat_tests) })))
      (λ p. subst Goal (sym p) (linked_idle (Some d) (λ c h. let t = h.topmost in let u : d ≡ c = cc in grind (arith, nat_tests))))
      (cases_Bool (linkable limit e d))

-- the number answered, and the host left
abbrev pub Told : ℕ → LevelList → ℕ → World → ℕ → World → Type 0
Told limit s e before r after = (r ≡ link_out limit s e before) × (after ≡ link_left limit s e before)

-- the same of a host that is left so
pub left_chains : (limit : ℕ) (s : LevelList) (e r : ℕ) (before after : World) → Lawful limit before → Told limit s e before r after → Chains limit s e before after r
unfolding Chains
left_chains limit s e r before after lawful (p, q) =
    let Goal : ℕ → World → Type 0 = λ n w. Linked limit (topmost_of s) e before.links w.links n in
    subst (λ n. Goal n after) (sym p)
    (subst (Goal (link_out limit s e before)) (sym q)
    (linking_keeps limit before.links e lawful.some lawful.ringless lawful.within (topmost_of s)))

pub chains_implicit : (limit : ℕ) (s : LevelList) (e r : ℕ) (before after : World) → Chains limit s e before after r → Implicit-chaining limit s e before after
unfolding Chains Implicit-chaining
chains_implicit limit s e r before after chains c h none = chains.chained c h

module _ (limit : ℕ) (w : World) (e c : ℕ) (lawful : Lawful limit w) (low : c < limit) (other : c ≡ e → ⊥) (walk : Walk) (is : walk ≡ walk_from w.links e limit c) where
  walk_tells : Found w.links e c walk.followed walk.cut
  walk_tells =
      let f : Links = w.links in
      let end : hops f limit (Some c) ≡ None = ends limit f c lawful.ringless lawful.within low in
      subst (λ v. Found f e c v.followed v.cut) (sym is) (walk_found f e limit c end other)

  -- what linking owes for its two writes
  pub owed_cut : IfSome walk.cut (λ k. k < limit)
  owed_cut = cut_below limit w.links e c lawful.ringless lawful.within low walk.followed walk.cut walk_tells

  pub owed_link : (v : World) → v ≡ with_links (cutting w.links walk.cut) w → Ringless (linked v.links e (Some c))
  owed_link v p =
      subst (λ u. Ringless (linked u.links e (Some c))) (sym p)
      (relinked_ringless limit w.links e c lawful.ringless lawful.within low walk.followed walk.cut walk_tells)

-- a question and linking leave a lawful host lawful
pub asked_lawful : (limit : ℕ) (q : Question) (w : World) → Lawful limit w → Lawful limit (asked q w)
asked_lawful limit q w lawful = record {
  some = lawful.some;
  most = lawful.most;
  ringless = lawful.ringless;
  within = lawful.within;
  below = λ earlier. lawful.below (q ∷ earlier);
}

pub link_lawful : (limit : ℕ) (s : LevelList) (e : ℕ) (w : World) → Lawful limit w → Lawful limit (link_left limit s e w)
link_lawful limit s e w lawful =
    let keeps = linking_keeps limit w.links e lawful.some lawful.ringless lawful.within (topmost_of s) in
    record {
      some = lawful.some;
      most = lawful.most;
      ringless = keeps.ringless;
      within = keeps.within;
      below = lawful.below;
    }
