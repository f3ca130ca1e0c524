-- What a host is asked, and what it may answer to each question.
use Rattle.std.specs.Prelude.{ℕ, ◌<◌, Bool, List, IfErr, Option, Result}
use Rattle.std.specs.Result as results
use Rattle.exceptions.specs.declared.questions.PyIterReturn.{PyIterReturn}
use Rattle.exceptions.specs.declared.questions.FailKind.{FailKind}
use Rattle.exceptions.specs.declared.questions.FailKind.TheVariants.{UnboundLocal, NoEnter, NoExit, NothingToReraise}

-- the questions: v, f and w are handles, e is an exception
pub data Question : Type 0 where
  Signal : Question
  Truth : (v : ℕ) → Question
  Iterate : (v : ℕ) → Question
  Next : (v : ℕ) → Question
  Call : (f : ℕ) → (args : List ℕ) → Question
  EnterOf : (v : ℕ) → Question
  ExitOf : (v : ℕ) → Question
  Instantiate : (v : ℕ) → Question
  ValueOf : (e : ℕ) → Question
  Split : (e : ℕ) → Question
  Send : (v : ℕ) → (w : ℕ) → Question
  Fail : (kind : FailKind) → (a : ℕ) → Question
  Trace : (e : ℕ) → (index : ℕ) → (row : ℕ) → Question

-- the number of each kind of failure
abbrev pub kind_number : FailKind → ℕ
kind_number UnboundLocal = 1
kind_number NoEnter = 2
kind_number NoExit = 3
kind_number NothingToReraise = 4

-- the answers to each question: an Err is an exception raised, so only these questions may raise
abbrev pub AnswerTo : Question → Type 0
AnswerTo Signal = Result Unit ℕ
AnswerTo (Truth v) = Result Bool ℕ
AnswerTo (Iterate v) = Result ℕ ℕ
AnswerTo (Next v) = Result PyIterReturn ℕ
AnswerTo (Call f args) = Result ℕ ℕ
AnswerTo (EnterOf v) = Result (Option ℕ) ℕ
AnswerTo (ExitOf v) = Result ℕ ℕ
AnswerTo (Instantiate v) = Result ℕ ℕ
AnswerTo (ValueOf e) = ℕ
AnswerTo (Split e) = ℕ × ℕ × ℕ
AnswerTo (Send v w) = Result PyIterReturn ℕ
AnswerTo (Fail kind a) = ℕ
AnswerTo (Trace e index row) = Unit

-- every exception that an answer gives is below the limit: what is raised, what was instantiated, and what fail gives
abbrev pub Below : ℕ → (q : Question) → AnswerTo q → Type 0
Below limit Signal a = IfErr a (λ e. e < limit)
Below limit (Truth v) a = IfErr a (λ e. e < limit)
Below limit (Iterate v) a = IfErr a (λ e. e < limit)
Below limit (Next v) a = IfErr a (λ e. e < limit)
Below limit (Call f args) a = IfErr a (λ e. e < limit)
Below limit (EnterOf v) a = IfErr a (λ e. e < limit)
Below limit (ExitOf v) a = IfErr a (λ e. e < limit)
Below limit (Instantiate v) a = results.MatchResult a (λ x. x < limit) (λ e. e < limit)
Below limit (ValueOf e) a = Unit {0}
Below limit (Split e) a = Unit {0}
Below limit (Send v w) a = IfErr a (λ e. e < limit)
Below limit (Fail kind b) a = a < limit
Below limit (Trace e index row) a = Unit {0}
