-- Levels: the exceptions being handled, one level upon the other.
use Rattle.std.specs.Prelude.{◌≡◌, ℕ, suc, ◌-◌, Bool, true, cond, ◌&&◌, List, [], ◌∷◌, length, Some, None, Ok, Err, Option, Result, ◌==◌, nat_lt, slice_index_or}
use Rattle.std.specs.Option.{option_or}
use Rattle.exceptions.specs.declared.levels.LevelToken.{LevelToken}
use Rattle.exceptions.specs.declared.levels.CloseRefused.{CloseRefused}
use Rattle.exceptions.specs.declared.levels.OpenRefused.{OpenRefused}
use Rattle.exceptions.specs.declared.levels.OpenRefused.TheVariants.{TooManyLevels, ExceptionTooHigh}

-- the levels, each with an exception or none: the last one, and those below it, the highest first
pub record LevelList : Type 0 where
  pub exceptions : ℕ
  pub last : Option ℕ
  pub lower : List (Option ℕ)

-- at first there is one level, empty
abbrev pub first_level : ℕ → LevelList
first_level limit = record { exceptions = limit; last = None; lower = [] }

unfoldable pub level_count : LevelList → ℕ
level_count s = suc (length s.lower)

-- what the level with i levels below it holds; none where there is no such level
abbrev pub level_at : ℕ → LevelList → Option ℕ
level_at i s = cond (nat_lt i (level_count s)) (slice_index_or (s.last ∷ s.lower) (length s.lower - i) None) None

-- the exception of the first of the levels that holds one
unfoldable pub topmost_in : List (Option ℕ) → Option ℕ
topmost_in [] = None
topmost_in (l ∷ ls) = option_or l (topmost_in ls)

-- the topmost exception: that of the highest level that holds one
abbrev pub topmost_of : LevelList → Option ℕ
topmost_of s = topmost_in (s.last ∷ s.lower)

-- only exceptions below the number that the levels are made for can be held
abbrev pub holdable : ℕ → Option ℕ → Bool
holdable limit None = true
holdable limit (Some e) = nat_lt e limit

abbrev pub AllHoldable : ℕ → List (Option ℕ) → Type 0
AllHoldable limit [] = Unit {0}
AllHoldable limit (l ∷ ls) = (holdable limit l ≡ true) × AllHoldable limit ls

-- every level holds an exception below the number that the levels are made for, or none
unfoldable pub HeldBelow : LevelList → Type 0
HeldBelow s = AllHoldable s.exceptions (s.last ∷ s.lower)

-- open is refused where 16 levels exist, then where the exception is too high, and else gives the new level's number
unfoldable pub open_out : Option ℕ → LevelList → Result LevelToken OpenRefused
open_out e s =
    cond (nat_lt (level_count s) 16)
    (cond (holdable s.exceptions e) (Ok (record { level = level_count s })) (Err ExceptionTooHigh))
    (Err TooManyLevels)

-- what is opened stands upon the rest; a refusal leaves all as it was
unfoldable pub open_left : Option ℕ → LevelList → LevelList
open_left e s =
    cond (nat_lt (level_count s) 16 && holdable s.exceptions e)
    (record { exceptions = s.exceptions; last = e; lower = s.last ∷ s.lower })
    s

-- the last level without the one above it; the first level of all stays
abbrev pub closed : ℕ → Option ℕ → List (Option ℕ) → LevelList
closed limit l [] = record { exceptions = limit; last = l; lower = [] }
closed limit l (below ∷ ls) = record { exceptions = limit; last = below; lower = ls }

-- a token is the number of levels below its own, so the last level's is their length, and the first level has none
abbrev pub names_last : LevelToken → List (Option ℕ) → Bool
names_last t ls = nat_lt 0 t.level && t.level == length ls

-- close is refused where the token is not the last level's, and hands it back
unfoldable pub close_out : LevelToken → LevelList → Result Unit CloseRefused
close_out t s = cond (names_last t s.lower) (Ok tt) (Err (record { token = t }))

unfoldable pub close_left : LevelToken → LevelList → LevelList
close_left t s = cond (names_last t s.lower) (closed s.exceptions s.last s.lower) s

-- another exception, or none, on the last level; one that cannot be held changes nothing
unfoldable pub current_left : Option ℕ → LevelList → LevelList
current_left e s =
    cond (holdable s.exceptions e) (record { exceptions = s.exceptions; last = e; lower = s.lower }) s

-- what open gives is good to close the level opened, and nothing else is changed; a refusal leaves the levels as they were
unfoldable pub Opened : LevelList → LevelList → Result LevelToken OpenRefused → Type 0
Opened before after (Ok t) = (close_out t after ≡ Ok tt) × (close_left t after ≡ before)
Opened before after (Err x) = after ≡ before

-- what closed a level is not good again upon what is left; a refusal hands the token back and leaves the levels as they were
unfoldable pub Closed : LevelToken → LevelList → LevelList → Result Unit CloseRefused → Type 0
Closed t before after (Ok u) = (level_count before ≡ suc (level_count after)) × (close_out t after ≡ Err (record { token = t }))
Closed t before after (Err x) = (x.token ≡ t) × (after ≡ before)

-- the number and the values of each refusal
abbrev pub open_refusal : OpenRefused → ℕ × List ℕ
open_refusal TooManyLevels = (8, [])
open_refusal ExceptionTooHigh = (8, [])

abbrev pub close_refusal : CloseRefused → ℕ × List ℕ
close_refusal r = (9, r.token.level ∷ [])
