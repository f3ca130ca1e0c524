-- One turn of load's walk over the instructions.
use Rattle.std.proofs.Common.{◌≡◌, ℕ, zero, suc, ◌+◌, ◌-◌, ◌<◌, cond, is_some, Ok, Err, refl, ap, arith}
use native.Mathlib.Numerals.{unary_clauses}
use Rattle.table.specs.Instructions.{decoding}
use Rattle.table.specs.Loading.{decodable}
use Rattle.table.specs.Parts.{Parts}
use Rattle.table.specs.Reading.{instruction_count, limits_of, word_at}
use Rattle.table.specs.declared.instructions.Limits.{Limits}
use Rattle.table.specs.declared.refusals.Refusal.TheVariants.{Instruction}

pub decodable_turn : (t : Parts) (i n : ℕ) → 0 < n →
    decodable t i n ≡ cond (is_some (decoding (limits_of t) (word_at t i))) (decodable t (i + 1) (n - 1)) (Err (Instruction i (word_at t i) (limits_of t)))
unfolding decodable
decodable_turn t i zero h = absurd (omega arith)
decodable_turn t i (suc n) h = simp unary_clauses

pub decodable_none : (t : Parts) (i n : ℕ) → n ≡ 0 → decodable t i n ≡ Ok tt
unfolding decodable
decodable_none t i zero h = refl
decodable_none t i (suc n) h = absurd (omega arith)

-- the turn at instruction i of a table, with the limits that were read before
pub decodable_on : (t : Parts) (m : Limits) (i : ℕ) → m ≡ limits_of t → i < m.instructions →
    decodable t i (instruction_count t - i) ≡ cond (is_some (decoding m (word_at t i))) (decodable t (i + 1) (instruction_count t - (i + 1))) (Err (Instruction i (word_at t i) m))
decodable_on t m i e h =
    let n : m.instructions ≡ instruction_count t = ap (λ (l : Limits). l.instructions) e in
    let q : instruction_count t - i - 1 ≡ instruction_count t - (i + 1) = omega arith in
    let u = decodable_turn t i (instruction_count t - i) (omega arith) in
    cc
