-- The levels: each holds an exception that may be held, and the topmost of them is one.
use Rattle.std.proofs.Common.{◌≡◌, ◌∙◌, sym, ap, ℕ, zero, suc, ◌+◌, ◌-◌, ◌<◌, ◌≤◌, ◌≢◌, Bool, true, false, cond, ◌&&◌, ltb, List, [], ◌∷◌, length, get_or, reverse, IfSome, Some, None, Option, refl, ⊎_elim, arith, Bor}
use Rattle.std.specs.Bool.{IsTrue}
use Rattle.std.specs.Fn.{Called}
use Rattle.std.specs.Iterator.Runs.{Run, AllItemsGive, IsFirstToGive}
use Rattle.std.specs.List.{slice_get}
use Rattle.std.specs.Option.{option_or, option_flatten, option_map, MatchOption}
use denote.Param.Members.{Mut}
use Rattle.std.proofs.lemmas.Grind.{common_steps}
use Rattle.std.proofs.lemmas.Bool.{ltb-true, and_parts, cases_lt}
use Rattle.std.proofs.lemmas.List.{length-reverse, get_or-reverse}
use Rattle.std.proofs.lemmas.Option.{slice_get-get_or, slice_get_past}
use Rattle.exceptions.specs.declared.levels.LevelToken.{LevelToken}
use Rattle.exceptions.specs.Levels.{LevelList, holdable, AllHoldable, HeldBelow, topmost_in, level_count, open_left, close_left, closed, current_left}

-- the exception at the first place that holds one is the topmost; where no place holds one, there is none
topmost_at : (ls : List (Option ℕ)) (i e : ℕ) → i < length ls → get_or ls i None ≡ Some e → ((k : ℕ) → k < i → get_or ls k None ≡ None) → topmost_in ls ≡ Some e
unfolding topmost_in
topmost_at [] i e b at before = absurd (omega (arith, b))
topmost_at (l ∷ ls) zero e b at before = ap (λ o. option_or o (topmost_in ls)) at
topmost_at (l ∷ ls) (suc i) e b at before = ap (λ o. option_or o (topmost_in ls)) (before 0 (omega arith)) ∙ topmost_at ls i e (omega (arith, b)) at (λ k b. before (suc k) (omega (arith, b)))

topmost_nowhere : (ls : List (Option ℕ)) → ((k : ℕ) → k < length ls → get_or ls k None ≡ None) → topmost_in ls ≡ None
unfolding topmost_in
topmost_nowhere [] none = refl
topmost_nowhere (l ∷ ls) none = ap (λ o. option_or o (topmost_in ls)) (none 0 (omega arith)) ∙ topmost_nowhere ls (λ k b. none (suc k) (omega (arith, b)))

-- what `find_map` finds among the levels, the highest first, where it asks each what it holds
pub topmost_found : {S F : Type 0} {steps : S → Option (Bor (Option ℕ)) → S → Type 0} (p : Run steps) (g : Mut F (Bor (Option ℕ) × Unit {0}) (Option ℕ)) (f : F) (ls : List (Option ℕ)) (r : Option ℕ)
    → ((x : Bor (Option ℕ)) (o : Option ℕ) (q : F) → Called g f (x, tt) o q → (q ≡ f) × (o ≡ x.now))
    → (p.len ≤ length ls) × (p.whole ≡ true → p.len ≡ length ls)
    → ((k : ℕ) → k < p.len → option_map (λ x. x.now) (p.at k) ≡ Some (get_or ls k None))
    → MatchOption r (IsTrue p.whole × AllItemsGive p g f None) (λ e. (i : ℕ) × (i < p.len) × (p.len ≡ i + 1) × IsFirstToGive p g f (Some e) None i)
    → r ≡ topmost_in ls
topmost_found p g f ls None asks long reads h = sym (topmost_nowhere ls (λ k b. grind (arith, common_steps, asks, long.1 h.0, reads k, h.1 (λ a o q c. (asks a.0 o q c).0) k)))
topmost_found p g f ls (Some e) asks long reads h =
    let first = h.3 (λ a o q c. (asks a.0 o q c).0) in
    sym (topmost_at ls h.0 e (omega (arith, h.1, long.0)) (grind (arith, common_steps, asks, reads h.0 h.1, first.0)) (λ k b. grind (arith, common_steps, asks, h.1, reads k, first.1 k b)))

-- the level with i below it, among those below the last
pub level_lower : (l : Option ℕ) (ls : List (Option ℕ)) (i : ℕ) → i ≢ length ls → option_flatten (slice_get (reverse ls) i) ≡ cond (ltb i (suc (length ls))) (get_or (l ∷ ls) (length ls - i) None) None
level_lower l ls i ne =
    ⊎_elim
    (λ b. grind (arith, common_steps, slice_get-get_or (reverse ls) i None (grind (arith, length-reverse)), get_or-reverse ls i None b))
    (λ a. grind (arith, common_steps, slice_get_past (reverse ls) i (grind (arith, length-reverse))))
    (cases_lt i (length ls))

pub held_below : (limit : ℕ) (o : Option ℕ) → holdable limit o ≡ true → IfSome o (λ e. e < limit)
held_below limit None h = tt
held_below limit (Some e) h = ltb-true e limit h

or_below : (limit : ℕ) (o p : Option ℕ) → holdable limit o ≡ true → IfSome p (λ e. e < limit) → IfSome (option_or o p) (λ e. e < limit)
or_below limit None p h k = k
or_below limit (Some e) p h k = ltb-true e limit h

pub topmost_below : (limit : ℕ) (ls : List (Option ℕ)) → AllHoldable limit ls → IfSome (topmost_in ls) (λ e. e < limit)
unfolding topmost_in
topmost_below limit [] h = tt
topmost_below limit (l ∷ ls) h = or_below limit l (topmost_in ls) h.0 (topmost_below limit ls h.1)

-- no call lets an exception too high onto a level
cond_below : (b : Bool) (s t : LevelList) → (b ≡ true → HeldBelow t) → HeldBelow s → HeldBelow (cond b t s)
cond_below true s t h below = h refl
cond_below false s t h below = below

pub open_below : (e : Option ℕ) (s : LevelList) → HeldBelow s → HeldBelow (open_left e s)
unfolding HeldBelow open_left
open_below e s below =
    let room : Bool = ltb (level_count s) 16 in
    let fits : Bool = holdable s.exceptions e in
    let opened : LevelList = record { exceptions = s.exceptions; last = e; lower = s.last ∷ s.lower } in
    cond_below (room && fits) s opened (λ p. ((and_parts room fits p).1, below)) below

pub current_below : (e : Option ℕ) (s : LevelList) → HeldBelow s → HeldBelow (current_left e s)
unfolding HeldBelow current_left
current_below e s below = cond_below _ s _ (λ p. (p, below.1)) below

closed_below : (limit : ℕ) (l : Option ℕ) (ls : List (Option ℕ)) → AllHoldable limit (l ∷ ls) → HeldBelow (closed limit l ls)
unfolding HeldBelow
closed_below limit l [] below = below
closed_below limit l (k ∷ ls) below = below.1

pub close_below : (t : LevelToken) (s : LevelList) → HeldBelow s → HeldBelow (close_left t s)
unfolding HeldBelow close_left
close_below t s below = cond_below _ s _ (λ p. closed_below s.exceptions s.last s.lower below) below

-- what the calls of the levels rest on
pub ruleset steps = (common_steps, held_below, level_lower)
