-- What a passed test of the parts' places says.
use Rattle.std.proofs.Common.{◌≡◌, ℕ, ◌≤◌, Ok, Result, arith}
use Rattle.std.proofs.lemmas.Bool.Decides.{nat_tests}
use Rattle.table.specs.Header.{ending, placed, placing}
use Rattle.table.specs.Demands.{◌then◌}
use Rattle.table.specs.declared.layout.Layout.{Layout}
use Rattle.table.specs.declared.layout.Span.{Span}
use Rattle.table.specs.declared.refusals.Part.{Part}
use Rattle.table.specs.declared.refusals.Refusal.{Refusal}

-- both tests were passed
pub then_ok : {A : Type 0} (r : Result Unit Refusal) (s : Result A Refusal) (a : A) → r then s ≡ Ok a → (r ≡ Ok tt) × (s ≡ Ok a)
then_ok r s a h = grind arith

-- a part that was passed lies between the earliest byte and the table's end
pub placed_says : (part : Part) (earliest bytes : ℕ) (s : Span) → placed part earliest bytes s ≡ Ok tt → (earliest ≤ s.offset) × (ending s ≤ bytes)
placed_says part earliest bytes s h = grind (arith, nat_tests)

pub record Places (bytes : ℕ) (l : Layout) : Type 0 where
  pub instructions : (48 ≤ l.instructions.offset) × (ending l.instructions ≤ bytes)
  pub shapes : (ending l.instructions ≤ l.shapes.offset) × (ending l.shapes ≤ bytes)
  pub nodes : (ending l.shapes ≤ l.nodes.offset) × (ending l.nodes ≤ bytes)
  pub constants : (ending l.nodes ≤ l.constants.offset) × (ending l.constants ≤ bytes)
  pub rows : (ending l.constants ≤ l.rows.offset) × (ending l.rows ≤ bytes)

pub placing_says : (bytes : ℕ) (l : Layout) → placing bytes l ≡ Ok tt → Places bytes l
unfolding placing
placing_says bytes l h = grind (arith, then_ok, placed_says)
