-- Which bytes are a table, said as facts and with no order of tests.
use Rattle.std.specs.Prelude.{◌≡◌, ℕ, ◌*◌, ◌<◌, ◌≤◌, List, [], ◌∷◌, length, Ok, Err, Result}
use Rattle.table.specs.Header.{ending}
use Rattle.table.specs.Instructions.{InRange, encoding}
use Rattle.table.specs.Layout.{layout_of}
use Rattle.table.specs.Parts.{Parts, parts_of}
use Rattle.table.specs.Refusals.{number_of}
use Rattle.table.specs.Reading.{instruction_count, limits_of, word_at}
use Rattle.table.specs.declared.instructions.Instruction.{Instruction}
use Rattle.table.specs.declared.instructions.Limits.{Limits}
use Rattle.table.specs.declared.instructions.Word.{Word}
use Rattle.table.specs.declared.layout.Layout.{Layout}
use Rattle.table.specs.declared.layout.Span.{Span}
use Rattle.table.specs.declared.refusals.Refusal.{Refusal}
use Rattle.table.specs.declared.refusals.Refusal.TheVariants.{Size, Begins, Ends, Number, Records, Uneven}
use Rattle.table.specs.declared.refusals.Refusal.TheVariants as refusal

-- parts one after another, from a byte on up to the table's end
abbrev pub InOrder : ℕ → List Span → ℕ → Type 0
InOrder from [] bytes = from ≤ bytes
InOrder from (s ∷ ss) bytes = (from ≤ s.offset) × InOrder (ending s) ss bytes

abbrev pub spans : Layout → List Span
spans l = l.instructions ∷ l.shapes ∷ l.nodes ∷ l.constants ∷ l.rows ∷ []

-- a length is that of some whole number of records, from least to most
abbrev pub Whole : ℕ → ℕ → ℕ → ℕ → Type 0
Whole size least most bytes = (n : ℕ) × (bytes ≡ size * n) × (least ≤ n) × (n ≤ most)

-- some instruction in range is encoded by this word
abbrev pub Encoded : Limits → Word → Type 0
Encoded m w = (o : Instruction) × (encoding o ≡ w) × InRange m o

-- 1: from 48 to 65,536 bytes
abbrev pub Sized : List ℕ → Type 0
Sized b = (48 ≤ length b) × (length b ≤ 65536)

-- 2: the parts lie one after another behind the header
abbrev pub Ordered : List ℕ → Type 0
Ordered b = InOrder 48 (spans (layout_of b)) (length b)

-- 3: the header's numbers and the parts' lengths are in range
pub record Headed (l : Layout) : Type 0 where
  pub maximum : (1 ≤ l.maximum) × (l.maximum ≤ 256)
  pub locals : l.locals ≤ 64
  pub zero : l.zero ≡ 0
  pub pairs : l.pairs ≡ 5
  pub instructions : Whole 4 1 4096 l.instructions.length
  pub shapes : l.shapes.length ≡ l.instructions.length
  pub nodes : Whole 8 0 1024 l.nodes.length
  pub constants : Whole 4 0 1024 l.constants.length
  pub rows : l.rows.length ≡ l.instructions.length

-- 4: every word is an instruction's
abbrev pub Decodes : Parts → Type 0
Decodes t = (i : ℕ) → i < instruction_count t → Encoded (limits_of t) (word_at t i)

pub record Lawful (b : List ℕ) : Type 0 where
  pub size : Sized b
  pub places : Ordered b
  pub header : Headed (layout_of b)
  pub decodes : Decodes (parts_of b)

-- instruction i is the first that no instruction's encoding matches
pub record First (t : Parts) (i : ℕ) : Type 0 where
  pub inside : i < instruction_count t
  pub wrong : Encoded (limits_of t) (word_at t i) → ⊥
  pub before : (k : ℕ) → k < i → Encoded (limits_of t) (word_at t k)

-- the place of a refusal is the first instruction that is wrong
abbrev pub Placed : Parts → Refusal → Type 0
Placed t (Size bytes) = Unit {0}
Placed t (Begins part offset earliest) = Unit {0}
Placed t (Ends part end bytes) = Unit {0}
Placed t (Number field found) = Unit {0}
Placed t (Records part length) = Unit {0}
Placed t (Uneven part length expected) = Unit {0}
Placed t (refusal.Instruction at word limits) = First t at

-- a refusal's number says what is wrong: what the numbers below it ask is met, and what it asks is not
pub record Blamed (b : List ℕ) (e : Refusal) : Type 0 where
  pub size : number_of e ≡ 1 → Sized b → ⊥
  pub sized : 1 < number_of e → Sized b
  pub place : number_of e ≡ 2 → Ordered b → ⊥
  pub placed : 2 < number_of e → Ordered b
  pub header : number_of e ≡ 3 → Headed (layout_of b) → ⊥
  pub headed : 3 < number_of e → Headed (layout_of b)
  pub first : Placed (parts_of b) e

-- the law of loading: what is a table is loaded, what is none is refused for what is wrong with it
abbrev pub Loaded : {A : Type 0} → List ℕ → Result A Refusal → Type 0
Loaded b (Ok t) = Lawful b
Loaded b (Err e) = (Lawful b → ⊥) × Blamed b e
