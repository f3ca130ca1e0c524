-- Links: the context of each exception, and what it is that no ring of them exists.
use Rattle.std.specs.Prelude.{◌≡◌, ℕ, zero, suc, ◌<◌, cond, List, Some, None, Option, ◌==◌, ◌≢◌, slice_index_or}

-- each exception has a context or none
abbrev pub Links : Type 0
Links = ℕ → Option ℕ

-- no exception has a context
abbrev pub unlinked : Links
unlinked e = None

-- the links with that of e changed to c
abbrev pub linked : Links → ℕ → Option ℕ → Links
linked f e c k = cond (k == e) c (f k)

-- where one link leads
abbrev pub hop : Links → Option ℕ → Option ℕ
hop f None = None
hop f (Some x) = f x

-- where n links lead
unfoldable pub hops : Links → ℕ → Option ℕ → Option ℕ
hops f zero o = o
hops f (suc n) o = hops f n (hop f o)

-- no ring: no number of links, one or more, leads from x back to x
abbrev pub Ringless : Links → Type 0
Ringless f = (n x : ℕ) → hops f (suc n) (Some x) ≢ Some x

-- every context is an exception below the limit
abbrev pub Within : ℕ → Links → Type 0
Within limit f = (x y : ℕ) → f x ≡ Some y → y < limit

-- the links that an array holds
abbrev pub tabled : List (Option ℕ) → Links
tabled xs k = slice_index_or xs k None
