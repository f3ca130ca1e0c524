-- Linking: the exception raised gets the topmost exception as its context, and no ring arises.
use Rattle.std.specs.Prelude.{ℕ, zero, suc, ◌+◌, Bool, cond, not, ◌&&◌, Some, None, Option, ◌==◌, nat_lt}
use Rattle.exceptions.specs.declared.linking.Walk.{Walk}
use Rattle.exceptions.specs.Levels.{LevelList, topmost_of}
use Rattle.exceptions.specs.Links.{Links, linked}
use Rattle.exceptions.specs.World.{World, with_links}

-- a walk that follows no link
abbrev pub still : Walk
still = record { followed = 0; cut = None }

-- one link more
abbrev pub further : Walk → Walk
further w = record { followed = w.followed + 1; cut = w.cut }

-- one link found from c: where it leads to e, it is to be cut and the walk ends; else the walk goes on
abbrev pub hopped : ℕ → ℕ → Option ℕ → (ℕ → Walk) → Walk
hopped e c None on = still
hopped e c (Some d) on = cond (d == e) (record { followed = 1; cut = Some c }) (further (on d))

-- the walk from c in search of a link to e, of at most n links
unfoldable pub walk_from : Links → ℕ → ℕ → ℕ → Walk
walk_from f e zero c = still
walk_from f e (suc n) c = hopped e c (f c) (walk_from f e n)

-- without the link that was found
abbrev pub cutting : Links → Option ℕ → Links
cutting f None = f
cutting f (Some k) = linked f k None

-- c is walked from, the link to e is cut, and c becomes the context of e
unfoldable pub relinked : ℕ → Links → ℕ → ℕ → Links
relinked limit f e c = linked (cutting f (walk_from f e limit c).cut) e (Some c)

-- an exception is not linked to itself, and only numbers below the limit are exceptions
abbrev pub linkable : ℕ → ℕ → ℕ → Bool
linkable limit e c = not (c == e) && (nat_lt c limit && nat_lt e limit)

-- the links that linking leaves, where e is raised and the topmost exception is given
unfoldable pub contextualized : ℕ → Links → ℕ → Option ℕ → Links
contextualized limit f e None = f
contextualized limit f e (Some c) = cond (linkable limit e c) (relinked limit f e c) f

-- the number of links that it follows
unfoldable pub followed_by : ℕ → Links → ℕ → Option ℕ → ℕ
followed_by limit f e None = 0
followed_by limit f e (Some c) = cond (linkable limit e c) (walk_from f e limit c).followed 0

-- the number of links followed, and what is left, where e is raised over these levels
abbrev pub link_out : ℕ → LevelList → ℕ → World → ℕ
link_out limit s e w = followed_by limit w.links e (topmost_of s)

abbrev pub link_left : ℕ → LevelList → ℕ → World → World
link_left limit s e w = with_links (contextualized limit w.links e (topmost_of s)) w
