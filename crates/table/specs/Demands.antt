-- What is demanded, one thing after another.
use Rattle.std.specs.Prelude.{Bool, cond, Ok, Err, Result}
use Rattle.std.specs.Result.{result_and}

-- the error is named where what is demanded does not hold
abbrev pub demand : {E : Type 0} → Bool → E → Result Unit E
demand holds e = cond holds (Ok tt) (Err e)

-- the first error counts: what comes next is asked only where what came before it holds
infixr 20 ◌then◌
abbrev pub ◌then◌ : {A E : Type 0} → Result Unit E → Result A E → Result A E
r then next = result_and r next
