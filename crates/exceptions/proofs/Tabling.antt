-- Links that stand in an array.
use Rattle.std.proofs.Common.{◌≡◌, ℕ, ◌<◌, List, length, set, replicate, IfSome, Some, None, Option, sym, subst, arith}
use mathlib.Core.Path.{fun_ext}
use Rattle.std.proofs.lemmas.Grind.{common_steps}
use Rattle.std.proofs.lemmas.Bool.Decides.{nat_tests}
use Rattle.exceptions.specs.Links.{Links, linked, unlinked, hops, Ringless, Within, tabled}
use Rattle.exceptions.proofs.Rings.{hops_none, some_not_none}

none_at : (n k : ℕ) → tabled (replicate n None) k ≡ None
none_at n k = grind (arith, common_steps)

pub tabled_none : (n : ℕ) → tabled (replicate n None) ≡ unlinked
tabled_none n = fun_ext (none_at n)

pub unlinked_ringless : Ringless unlinked
unfolding hops
unlinked_ringless n x e = some_not_none _ e (hops_none unlinked n)

pub tabled_set : (xs : List (Option ℕ)) (e : ℕ) (c : Option ℕ) → e < length xs → tabled (set xs e c) ≡ linked (tabled xs) e c
tabled_set xs e c h =
    fun_ext (λ k. grind (arith, common_steps))

pub within_linked : (limit : ℕ) (f : Links) (e : ℕ) (c : Option ℕ) → Within limit f → IfSome c (λ y. y < limit) → Within limit (linked f e c)
within_linked limit f e None w h x y = let b = w x y in grind (arith, nat_tests)
within_linked limit f e (Some d) w h x y = let b = w x y in grind (arith, nat_tests)

pub set_ringless : (xs : List (Option ℕ)) (e : ℕ) (c : Option ℕ) → e < length xs → Ringless (linked (tabled xs) e c) → Ringless (tabled (set xs e c))
set_ringless xs e c h ring = subst Ringless (sym (tabled_set xs e c h)) ring

pub set_within : (limit : ℕ) (xs : List (Option ℕ)) (e : ℕ) (c : Option ℕ) → e < length xs → IfSome c (λ y. y < limit) → Within limit (tabled xs) → Within limit (tabled (set xs e c))
set_within limit xs e c h low w = subst (Within limit) (sym (tabled_set xs e c h)) (within_linked limit (tabled xs) e c w low)

pub none_ringless : (n : ℕ) → Ringless (tabled (replicate n None))
none_ringless n = subst Ringless (sym (tabled_none n)) unlinked_ringless

pub none_within : (limit n : ℕ) → Within limit (tabled (replicate n None))
none_within limit n x y e = absurd (some_not_none _ e (none_at n x))
