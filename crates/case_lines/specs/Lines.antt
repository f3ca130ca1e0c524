-- What is written where each line of some bytes is answered.
use Rattle.std.specs.Prelude.{◌≡◌, ℕ, ◌<◌, List, [], ◌∷◌, ◌++◌, length, Option, Some, IfSome, Ok, Result}
use Rattle.std.specs.Fn.{FnReturnsAt}
use Rattle.std.specs.Io.BufRead.{drop_through, first_line}
use Rattle.std.specs.List.{FoldsTo}
use Rattle.std.specs.String.{string_bytes}
use Rattle.std.specs.declared.string.String.{String}
use denote.Param.Members.{Shared}
use denote.Ref.{Bor}

-- what f answers to the line is the text said
abbrev pub Says : {F Z E : Type 0} → Shared F (Bor (List ℕ) × Unit {0}) (Result (String Z) E) → F → List ℕ → List ℕ → Type 0
Says {Z = Z} g f line said = (s : String Z) × FnReturnsAt g f line (Ok s) × (string_bytes s ≡ said)

-- the bytes that are left to read, and those that are written
pub record Told : Type 0 where
  pub left : List ℕ
  pub written : List ℕ

-- the first line is read, and what is said of it is written as a line
pub record IsTurn (Tells : List ℕ → List ℕ → Type 0) (old : Told) (said : List ℕ) (new : Told) : Type 0 where
  pub more : 0 < length old.left
  pub tells : Tells (first_line old.left) said
  pub read : new.left ≡ drop_through 10 old.left
  pub wrote : new.written ≡ old.written ++ (said ++ 10 ∷ [])

-- some lines are read and answered in order, where it is known what was to be read and what was written
abbrev pub AnswersSome : (List ℕ → List ℕ → Type 0) → Option (List ℕ) → Option (List ℕ) → Option (List ℕ) → Option (List ℕ) → Type 0
AnswersSome Tells read left old new = IfSome read (λ bytes. IfSome old (λ held.
    (texts : List (List ℕ)) × (rest : List ℕ) × (after : List ℕ)
    × (left ≡ Some rest) × (new ≡ Some after)
    × FoldsTo (IsTurn Tells) (record { left = bytes; written = held }) texts (record { left = rest; written = after })))

-- all of them
abbrev pub AnswersLines : (List ℕ → List ℕ → Type 0) → Option (List ℕ) → Option (List ℕ) → Option (List ℕ) → Type 0
AnswersLines Tells read old new = AnswersSome Tells read (Some []) old new
