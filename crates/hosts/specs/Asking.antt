-- What a host promises of a question.
use Rattle.std.specs.Prelude.{◌≡◌, ℕ, []}
use Rattle.exceptions.specs.Questions.{Question, AnswerTo, Below}
use Rattle.exceptions.specs.World.{World, asked}

pub record Answered (limit : ℕ) (q : Question) (before : World) (answer : AnswerTo q) (after : World) : Type 0 where
  -- the answer is the one that the host meant, put now
  pub told : answer ≡ before.meaning [] q
  -- every exception that it gives is below the limit
  pub below : Below limit q answer
  -- the host then means the rest, and no link has moved
  pub left : after ≡ asked q before
