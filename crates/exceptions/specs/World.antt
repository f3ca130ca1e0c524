-- What a host means: its links, and its answer to the last question of every list put from now on.
use Rattle.std.specs.Prelude.{ℕ, ◌≤◌, Bool, List, [], ◌∷◌, Option, Result}
use Rattle.exceptions.specs.declared.questions.PyIterReturn.{PyIterReturn}
use Rattle.exceptions.specs.declared.questions.FailKind.{FailKind}
use Rattle.exceptions.specs.Links.{Links, Ringless, Within, linked}
use Rattle.exceptions.specs.Questions.{Question, Signal, Truth, Iterate, Next, Call, EnterOf, ExitOf, Instantiate, ValueOf, Split, Send, Fail, AnswerTo, Below}

-- the answer to the last question of a list: those before it, the oldest first, and itself
abbrev pub Meaning : Type 0
Meaning = (earlier : List Question) (q : Question) → AnswerTo q

pub record World : Type 0 where
  pub links : Links
  pub meaning : Meaning

-- a question moves no link, and leaves the host meaning the rest
abbrev pub asked : Question → World → World
asked q w = record { links = w.links; meaning = λ earlier. w.meaning (q ∷ earlier) }

-- a change of links changes no answer to come
abbrev pub with_links : Links → World → World
with_links f w = record { links = f; meaning = w.meaning }

-- the link of e changed to c
abbrev pub relinking : ℕ → Option ℕ → World → World
relinking e c w = with_links (linked w.links e c) w

-- what a lawful host keeps
pub record Lawful (limit : ℕ) (w : World) : Type 0 where
  pub some : 1 ≤ limit
  pub most : limit ≤ 4096
  pub ringless : Ringless w.links
  pub within : Within limit w.links
  pub below : (earlier : List Question) (q : Question) → Below limit q (w.meaning earlier q)

-- the answer to each question, put now
abbrev pub signal_of : World → Result Unit ℕ
signal_of w = w.meaning [] Signal

abbrev pub truth_of : ℕ → World → Result Bool ℕ
truth_of v w = w.meaning [] (Truth v)

abbrev pub iterate_of : ℕ → World → Result ℕ ℕ
iterate_of v w = w.meaning [] (Iterate v)

abbrev pub next_of : ℕ → World → Result PyIterReturn ℕ
next_of v w = w.meaning [] (Next v)

abbrev pub call_of : ℕ → List ℕ → World → Result ℕ ℕ
call_of f args w = w.meaning [] (Call f args)

abbrev pub enter_of : ℕ → World → Result (Option ℕ) ℕ
enter_of v w = w.meaning [] (EnterOf v)

abbrev pub exit_of : ℕ → World → Result ℕ ℕ
exit_of v w = w.meaning [] (ExitOf v)

abbrev pub instantiate_of : ℕ → World → Result ℕ ℕ
instantiate_of v w = w.meaning [] (Instantiate v)

abbrev pub value_of : ℕ → World → ℕ
value_of e w = w.meaning [] (ValueOf e)

abbrev pub split_of : ℕ → World → List ℕ
split_of e w = (w.meaning [] (Split e)).0 ∷ (w.meaning [] (Split e)).1 ∷ (w.meaning [] (Split e)).2 ∷ []

abbrev pub send_of : ℕ → ℕ → World → Result PyIterReturn ℕ
send_of v x w = w.meaning [] (Send v x)

abbrev pub fail_of : FailKind → ℕ → World → ℕ
fail_of kind a w = w.meaning [] (Fail kind a)
