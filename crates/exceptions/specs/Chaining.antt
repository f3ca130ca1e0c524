-- What linking does to chains of links, said without the walk that does it.
use Rattle.std.specs.Prelude.{◌≡◌, ℕ, ◌<◌, ◌⊎◌, Some, None, Option, ◌≢◌}
use Rattle.exceptions.specs.Levels.{LevelList, topmost_of}
use Rattle.exceptions.specs.Links.{Links, hops, Ringless, Within}
use Rattle.exceptions.specs.World.{World}

-- c is handled while e is raised: c is the topmost exception and another than e, and both are exceptions
pub record Handled (limit : ℕ) (top : Option ℕ) (e c : ℕ) : Type 0 where
  pub topmost : top ≡ Some c
  pub other : c ≡ e → ⊥
  pub handled : c < limit
  pub raised : e < limit

-- k stands on the chain of c, and its context is e
abbrev pub Precedes : Links → ℕ → ℕ → ℕ → Type 0
Precedes f c e k = (n : ℕ) × (hops f n (Some c) ≡ Some k) × (f k ≡ Some e)

-- no number of links leads from x to e
abbrev pub Apart : Links → ℕ → ℕ → Type 0
Apart f x e = (n : ℕ) → hops f n (Some x) ≢ Some e

-- n links lead from c to e, or the chain of c does not lead to e and ends after n links
abbrev pub Reaches : Links → ℕ → ℕ → ℕ → Type 0
Reaches f c e n = (hops f n (Some c) ≡ Some e) ⊎ (Apart f c e × ((last : ℕ) × (hops f n (Some c) ≡ Some last) × (f last ≡ None)))

-- what linking does, raising e, to the links before it, by following so many
pub record Linked (limit : ℕ) (top : Option ℕ) (e : ℕ) (before after : Links) (followed : ℕ) : Type 0 where
  -- no ring arises, and no context at the limit or above
  pub ringless : Ringless after
  pub within : Within limit after
  -- the exception handled becomes the context of the one raised
  pub chained : (c : ℕ) → Handled limit top e c → after e ≡ Some c
  -- of the other links only one is cut: that to e on the chain of the exception handled
  pub cut : (c k : ℕ) → Handled limit top e c → Precedes before c e k → after k ≡ None
  pub kept : (c k : ℕ) → Handled limit top e c → (k ≢ e) → (Precedes before c e k → ⊥) → after k ≡ before k
  -- so a chain that did not lead to e is as it was
  pub same : (x n : ℕ) → Apart before x e → hops after n (Some x) ≡ hops before n (Some x)
  -- the links followed are those to e or else to the chain's end, and fewer than there are exceptions
  pub counted : (c : ℕ) → Handled limit top e c → Reaches before c e followed
  pub few : followed < limit
  -- with nothing handled there is nothing to link
  pub idle : ((c : ℕ) → Handled limit top e c → ⊥) → (after ≡ before) × (followed ≡ 0)

-- the same of a host before and after, raising e over these levels
unfoldable pub Chains : ℕ → LevelList → ℕ → World → World → ℕ → Type 0
Chains limit s e before after followed = Linked limit (topmost_of s) e before.links after.links followed

-- PEP 3134, implicit chaining: an exception that has no context, raised while another is handled, gets that one as its context
unfoldable pub Implicit-chaining : ℕ → LevelList → ℕ → World → World → Type 0
Implicit-chaining limit s e before after =
    (c : ℕ) → Handled limit (topmost_of s) e c → before.links e ≡ None → after.links e ≡ Some c
