-- The rack: eight devices, each with a charge; handle h is device h mod 8.
use Rattle.std.specs.Prelude.{◌≡◌, ℕ, ◌+◌, ◌%◌, cond, List, [], ◌∷◌, replicate, Some, None, Ok, Err, Option, Result, ◌==◌, nat_lt, slice_index, slice_set}
use Rattle.exceptions.specs.declared.questions.PyIterReturn.{PyIterReturn}
use Rattle.exceptions.specs.declared.questions.PyIterReturn.TheVariants.{Return, StopIteration}
use Rattle.exceptions.specs.Questions.{
  Question,
  Signal,
  Truth,
  Iterate,
  Next,
  Call,
  EnterOf,
  ExitOf,
  Instantiate,
  ValueOf,
  Split,
  Send,
  Fail,
  Trace,
  AnswerTo,
  kind_number,
}
use Rattle.exceptions.specs.World.{Meaning, World}
use Rattle.exceptions.specs.Links.{tabled, unlinked}

-- the charge of a handle's device
abbrev pub charge_of : List ℕ → ℕ → ℕ
charge_of charges h = slice_index charges (h % 8)

-- using a device: at charge 3 it falls to 0, else it grows by 1
abbrev pub grown : ℕ → ℕ
grown n = cond (n == 3) 0 (n + 1)

abbrev pub used : List ℕ → ℕ → List ℕ
used charges h = slice_set charges (h % 8) (grown (charge_of charges h))

-- what using a device gives: the grown charge, or at 3 what falling means
abbrev pub gives : {A : Type 0} → A → (ℕ → A) → ℕ → A
gives fallen grew n = cond (n == 3) fallen (grew (n + 1))

-- a call raises the device's number where it falls, an iterator stops without a value
abbrev pub call_reply : ℕ → ℕ → Result ℕ ℕ
call_reply h n = gives (Err (h % 8)) Ok n

abbrev pub next_reply : ℕ → Result PyIterReturn ℕ
next_reply n = gives (Ok (StopIteration None)) (λ c. Ok (Return c)) n

-- call, next and send use their first argument's device
abbrev pub used_by : Question → Option ℕ
used_by Signal = None
used_by (Truth v) = None
used_by (Iterate v) = None
used_by (Next v) = Some v
used_by (Call f args) = Some f
used_by (EnterOf v) = None
used_by (ExitOf v) = None
used_by (Instantiate v) = None
used_by (ValueOf e) = None
used_by (Split e) = None
used_by (Send v w) = Some v
used_by (Fail kind a) = None
used_by (Trace e index row) = None

-- nothing else changes a charge
abbrev pub recharged : List ℕ → Option ℕ → List ℕ
recharged charges None = charges
recharged charges (Some h) = used charges h

-- truth is whether there is a charge, signal never raises, every other answer is the first argument, mod 8 as an exception
abbrev pub rack_reply : List ℕ → (q : Question) → AnswerTo q
rack_reply s Signal = Ok tt
rack_reply s (Truth v) = Ok (nat_lt 0 (charge_of s v))
rack_reply s (Iterate v) = Ok v
rack_reply s (Next v) = next_reply (charge_of s v)
rack_reply s (Call f args) = call_reply f (charge_of s f)
rack_reply s (EnterOf v) = Ok (Some v)
rack_reply s (ExitOf v) = Ok v
rack_reply s (Instantiate v) = Ok (v % 8)
rack_reply s (ValueOf e) = e
rack_reply s (Split e) = (e, e, e)
rack_reply s (Send v w) = next_reply (charge_of s v)
rack_reply s (Fail kind a) = kind_number kind % 8
rack_reply s (Trace e index row) = tt

-- the charges that a list of questions leaves
abbrev pub rack_moves : List ℕ → List Question → List ℕ
rack_moves s [] = s
rack_moves s (q ∷ earlier) = rack_moves (recharged s (used_by q)) earlier

-- the answer to a question is the reply at the charges that the earlier ones left
abbrev pub rack_meaning : List ℕ → Meaning
rack_meaning s earlier q = rack_reply (rack_moves s earlier) q

-- what a rack means by its charges and its links
abbrev pub rack_world : List ℕ → List (Option ℕ) → World
rack_world charges contexts = record { links = tabled contexts; meaning = rack_meaning charges }

-- at first no device has a charge, and no exception a context
abbrev pub new_rack : World
new_rack = record { links = unlinked; meaning = rack_meaning (replicate 8 0) }

-- how often these questions use the device of h
abbrev pub uses_one : ℕ → Option ℕ → ℕ
uses_one h None = 0
uses_one h (Some d) = cond (d % 8 == h % 8) 1 0

unfoldable pub uses : ℕ → List Question → ℕ
uses h [] = 0
uses h (q ∷ earlier) = uses_one h (used_by q) + uses h earlier

-- the answers go by how often a device was used before: its charge is that number, mod 4
pub record CountsUses (m : Meaning) : Type 0 where
  pub call : (earlier : List Question) (h : ℕ) (args : List ℕ) → m earlier (Call h args) ≡ call_reply h (uses h earlier % 4)
  pub next : (earlier : List Question) (h : ℕ) → m earlier (Next h) ≡ next_reply (uses h earlier % 4)
  pub send : (earlier : List Question) (h w : ℕ) → m earlier (Send h w) ≡ next_reply (uses h earlier % 4)
  pub truth : (earlier : List Question) (h : ℕ) → m earlier (Truth h) ≡ Ok (nat_lt 0 (uses h earlier % 4))
