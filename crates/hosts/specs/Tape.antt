-- The tape: bytes lent to the host, five to a question, of which the first is a kind and the others a number.
use Rattle.std.specs.Prelude.{◌≡◌, ℕ, ◌+◌, ◌*◌, ◌%◌, Bool, true, false, cond, List, [], ◌∷◌, length, drop, Some, None, Ok, Err, Option, Result, ◌==◌, nat_eq, nat_lt, slice_index}
use Rattle.exceptions.specs.declared.questions.PyIterReturn.{PyIterReturn}
use Rattle.exceptions.specs.declared.questions.PyIterReturn.TheVariants.{Return, StopIteration}
use Rattle.hosts.specs.declared.tape.Entry.{Entry}
use Rattle.hosts.specs.declared.tape.Kind.{Kind}
use Rattle.hosts.specs.declared.tape.Kind.TheVariants.{Number, Raise, Stop}
use Rattle.exceptions.specs.Questions.{
  Question,
  Signal,
  Truth,
  Iterate,
  Next,
  Call,
  EnterOf,
  ExitOf,
  Instantiate,
  ValueOf,
  Split,
  Send,
  Fail,
  Trace,
  AnswerTo,
}
use Rattle.exceptions.specs.World.{Meaning, World}
use Rattle.exceptions.specs.Links.{tabled, unlinked}

-- the kind of a byte: 1 raises, 2 stops, any other is a number
abbrev pub kind_of : ℕ → Kind
kind_of b = cond (b == 1) Raise (cond (b == 2) Stop Number)

-- the entry at the front of the tape: the number 0 where under five bytes are left
unfoldable pub entry_of : List ℕ → Entry
entry_of s =
    cond (nat_lt (length s) 5)
    (record { kind = Number; number = 0 })
    (record { kind = kind_of (slice_index s 0); number = slice_index s 1 + slice_index s 2 * 256 + slice_index s 3 * 65536 + slice_index s 4 * 16777216 })

-- the tape after it: under five bytes are never read
unfoldable pub entry_left : List ℕ → List ℕ
entry_left s = cond (nat_lt (length s) 5) s (drop 5 s)

-- what a kind means, of three
abbrev pub by_kind : {A : Type 0} → A → A → A → Kind → A
by_kind raise stop number Raise = raise
by_kind raise stop number Stop = stop
by_kind raise stop number Number = number

-- a raise is of the number, mod 64 as an exception; any other kind is its number
abbrev pub raising : Entry → Result ℕ ℕ
raising x = by_kind (Err (x.number % 64)) (Ok x.number) (Ok x.number) x.kind

-- what is given of the number, unless the entry raises
abbrev pub giving : {A : Type 0} → (ℕ → A) → Result ℕ ℕ → Result A ℕ
giving given (Ok n) = Ok (given n)
giving given (Err e) = Err e

-- a stop stops an iterator with the number as its value
abbrev pub iterating : Entry → ℕ → PyIterReturn
iterating x n = by_kind (Return n) (StopIteration (Some n)) (Return n) x.kind

-- a stop means that there is no method
abbrev pub entering : Entry → ℕ → Option ℕ
entering x n = by_kind (Some n) None (Some n) x.kind

-- what an entry answers: exceptions are taken mod 64, odd is yes, and split repeats its number
abbrev pub entry_reply : Entry → (q : Question) → AnswerTo q
entry_reply x Signal = giving (λ n. tt) (raising x)
entry_reply x (Truth v) = giving (λ n. nat_eq (n % 2) 1) (raising x)
entry_reply x (Iterate v) = raising x
entry_reply x (Next v) = giving (iterating x) (raising x)
entry_reply x (Call f args) = raising x
entry_reply x (EnterOf v) = giving (entering x) (raising x)
entry_reply x (ExitOf v) = raising x
entry_reply x (Instantiate v) = giving (λ n. n % 64) (raising x)
entry_reply x (ValueOf e) = x.number
entry_reply x (Split e) = (x.number, x.number, x.number)
entry_reply x (Send v w) = giving (iterating x) (raising x)
entry_reply x (Fail kind a) = x.number % 64
entry_reply x (Trace e index row) = tt

-- every question takes an entry but trace
abbrev pub takes : Question → Bool
takes Signal = true
takes (Truth v) = true
takes (Iterate v) = true
takes (Next v) = true
takes (Call f args) = true
takes (EnterOf v) = true
takes (ExitOf v) = true
takes (Instantiate v) = true
takes (ValueOf e) = true
takes (Split e) = true
takes (Send v w) = true
takes (Fail kind a) = true
takes (Trace e index row) = false

-- the tape that a list of questions leaves
abbrev pub tape_moves : List ℕ → List Question → List ℕ
tape_moves s [] = s
tape_moves s (q ∷ earlier) = tape_moves (cond (takes q) (entry_left s) s) earlier

-- the answer to a question is that of the entry which the earlier ones left at the front
abbrev pub tape_meaning : List ℕ → Meaning
tape_meaning s earlier q = entry_reply (entry_of (tape_moves s earlier)) q

-- what a tape means by the bytes still to be read and its links
abbrev pub tape_world : List ℕ → List (Option ℕ) → World
tape_world s contexts = record { links = tabled contexts; meaning = tape_meaning s }

-- at first the whole tape is to be read, and no exception has a context
abbrev pub new_tape : List ℕ → World
new_tape tape = record { links = unlinked; meaning = tape_meaning tape }

-- how many entries a list of questions takes
unfoldable pub taken : List Question → ℕ
taken [] = 0
taken (q ∷ earlier) = cond (takes q) 1 0 + taken earlier

-- questions are answered by the entries of the tape in their order: after n entries taken, by the one at byte 5 n
unfoldable pub InOrder : List ℕ → Meaning → Type 0
InOrder tape m =
    (earlier : List Question) (q : Question) → m earlier q ≡ entry_reply (entry_of (drop (taken earlier * 5) tape)) q
