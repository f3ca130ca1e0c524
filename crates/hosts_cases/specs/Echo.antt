-- The echo: it answers with what it is asked of, and every exception that it gives is its byte.
use Rattle.std.specs.Prelude.{ℕ, nat_lt, List, Option, Some, Ok, Err}
use Rattle.exceptions.specs.declared.questions.PyIterReturn.TheVariants.{Return}
use Rattle.exceptions.specs.Questions.{
  Question,
  Signal,
  Truth,
  Iterate,
  Next,
  Call,
  EnterOf,
  ExitOf,
  Instantiate,
  ValueOf,
  Split,
  Send,
  Fail,
  Trace,
  AnswerTo,
}
use Rattle.exceptions.specs.World.{Meaning, World}
use Rattle.exceptions.specs.Links.{tabled, unlinked}

-- a call raises the byte, and an exception that is made or given is the byte; what is sent comes back, and the rest is told of the first argument
abbrev pub echo_reply : ℕ → (q : Question) → AnswerTo q
echo_reply byte Signal = Ok tt
echo_reply byte (Truth v) = Ok (nat_lt 0 v)
echo_reply byte (Iterate v) = Ok v
echo_reply byte (Next v) = Ok (Return v)
echo_reply byte (Call f args) = Err byte
echo_reply byte (EnterOf v) = Ok (Some v)
echo_reply byte (ExitOf v) = Ok v
echo_reply byte (Instantiate v) = Ok byte
echo_reply byte (ValueOf e) = e
echo_reply byte (Split e) = (e, e, e)
echo_reply byte (Send v w) = Ok (Return w)
echo_reply byte (Fail kind a) = byte
echo_reply byte (Trace e index row) = tt

-- no question changes the byte, so the earlier ones count for nothing
abbrev pub echo_meaning : ℕ → Meaning
echo_meaning byte earlier q = echo_reply byte q

-- what an echo means by its byte and its links
abbrev pub echo_world : ℕ → List (Option ℕ) → World
echo_world byte contexts = record { links = tabled contexts; meaning = echo_meaning byte }

-- at first no exception has a context
abbrev pub new_echo : ℕ → World
new_echo byte = record { links = unlinked; meaning = echo_meaning byte }
