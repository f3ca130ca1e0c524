-- Text in columns.
use Rattle.std.specs.Prelude.{ℕ, ◌-◌, List, ◌++◌, length, replicate, decimal}

unfoldable pub blank : ℕ → List ℕ
blank width = replicate width 32

-- at the left of a column; what is wider stands whole
unfoldable pub left : ℕ → List ℕ → List ℕ
left width text = text ++ blank (width - length text)

-- at the right of a column
unfoldable pub right : ℕ → List ℕ → List ℕ
right width text = blank (width - length text) ++ text

-- a number at the right of a column
abbrev pub number : ℕ → ℕ → List ℕ
number width n = right width (decimal n)
