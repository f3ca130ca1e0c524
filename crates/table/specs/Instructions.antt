use Rattle.std.specs.Prelude.{◌≡◌, ℕ, ◌<◌, ◌≤◌, Bool, cond, ◌&&◌, Some, None, MatchResult, Option, Result, ◌==◌, nat_le, nat_lt}
use Rattle.table.specs.declared.instructions.Word.{Word}
use Rattle.table.specs.declared.instructions.Limits.{Limits}
use Rattle.table.specs.declared.instructions.RaiseKind.{RaiseKind}
use Rattle.table.specs.declared.instructions.RaiseKind.TheVariants.{Reraise}
use Rattle.table.specs.declared.instructions.RaiseKind.TheVariants as kind
use Rattle.table.specs.declared.instructions.UnknownRaise.{UnknownRaise}
use Rattle.table.specs.declared.instructions.Instruction.{Instruction}
use Rattle.table.specs.declared.instructions.Instruction.TheVariants.{LoadConst, LoadFast, StoreFast, Pop, Reverse, CallFunctionPositional, GetIter, ForIter, Jump, JumpIfTrue, JumpIfFalse, SetupLoop, SetupExcept, SetupFinally, EnterFinally, EndFinally, SetupWith, WithCleanupStart, WithCleanupFinish, PopBlock, PopException, Raise, Break, Continue, ReturnValue, ReturnConst, YieldValue, YieldFrom}

abbrev pub raise_kind : ℕ → RaiseKind
raise_kind x = cond (x == 0) Reraise kind.Raise

-- the number of a raise's kind
abbrev pub raise_number : RaiseKind → ℕ
raise_number Reraise = 0
raise_number kind.Raise = 1

-- the kind of a byte, whose number is that byte, or an error with a byte that is no kind's number
abbrev pub RaiseKindOf : ℕ → Result RaiseKind UnknownRaise → Type 0
RaiseKindOf byte r = MatchResult r (λ k. (k ≡ raise_kind byte) × (raise_number k ≡ byte)) (λ e. (e.0 ≡ byte) × (1 < byte))

-- no operand is used: both are 0
abbrev pub bare : Word → Bool
bare w = w.x == 0 && w.y == 0

-- x is 0 or 1, and y is not used
abbrev pub flag : Word → Bool
flag w = nat_le w.x 1 && w.y == 0

-- y is below n, and x is not used
abbrev pub under : ℕ → Word → Bool
under n w = w.x == 0 && nat_lt w.y n

-- this instruction, if the word has the opcode and its operands suit; else what the other rows say
abbrev pub row : ℕ → Bool → Instruction → Word → Option Instruction → Option Instruction
row opcode suits i w others = cond (w.opcode == opcode && suits) (Some i) others

-- the opcodes, each with the range of its operands
abbrev pub listed : Limits → Word → Option Instruction
listed m w =
    row 1 (under m.constants w) (LoadConst w.y) w (
    row 2 (under m.locals w) (LoadFast w.y) w (
    row 3 (under m.locals w) (StoreFast w.y) w (
    row 6 (bare w) Pop w (
    row 11 (under 256 w) (Reverse w.y) w (
    row 14 (under 256 w) (CallFunctionPositional w.y) w (
    row 15 (bare w) GetIter w (
    row 16 (under m.instructions w) (ForIter w.y) w (
    row 17 (under m.instructions w) (Jump w.y) w (
    row 18 (under m.instructions w) (JumpIfTrue w.y) w (
    row 19 (under m.instructions w) (JumpIfFalse w.y) w (
    row 24 (bare w) SetupLoop w (
    row 25 (under m.instructions w) (SetupExcept w.y) w (
    row 26 (under m.instructions w) (SetupFinally w.y) w (
    row 27 (flag w) (EnterFinally w.x) w (
    row 28 (bare w) EndFinally w (
    row 29 (under m.instructions w) (SetupWith w.y) w (
    row 30 (bare w) WithCleanupStart w (
    row 31 (bare w) WithCleanupFinish w (
    row 32 (bare w) PopBlock w (
    row 33 (bare w) PopException w (
    row 34 (flag w) (Raise (raise_kind w.x)) w (
    row 35 (under m.instructions w) (Break w.y) w (
    row 36 (under m.instructions w) (Continue w.y) w (
    row 37 (bare w) ReturnValue w (
    row 38 (under m.constants w) (ReturnConst w.y) w (
    row 39 (bare w) YieldValue w (
    row 40 (bare w) YieldFrom w (
    None))))))))))))))))))))))))))))

-- the instruction of a word, or none where there is no such opcode or an operand is out of its range
unfoldable pub decoding : Limits → Word → Option Instruction
decoding m w = listed m w

-- an opcode with its operands
abbrev pub word : ℕ → ℕ → ℕ → Word
word opcode x y = record { opcode = opcode; x = x; y = y }

-- the word that encodes an instruction: unused operands are 0
abbrev pub encoding : Instruction → Word
encoding (LoadConst idx) = word 1 0 idx
encoding (LoadFast idx) = word 2 0 idx
encoding (StoreFast idx) = word 3 0 idx
encoding Pop = word 6 0 0
encoding (Reverse amount) = word 11 0 amount
encoding (CallFunctionPositional nargs) = word 14 0 nargs
encoding GetIter = word 15 0 0
encoding (ForIter target) = word 16 0 target
encoding (Jump target) = word 17 0 target
encoding (JumpIfTrue target) = word 18 0 target
encoding (JumpIfFalse target) = word 19 0 target
encoding SetupLoop = word 24 0 0
encoding (SetupExcept handler) = word 25 0 handler
encoding (SetupFinally handler) = word 26 0 handler
encoding (EnterFinally end) = word 27 end 0
encoding EndFinally = word 28 0 0
encoding (SetupWith end) = word 29 0 end
encoding WithCleanupStart = word 30 0 0
encoding WithCleanupFinish = word 31 0 0
encoding PopBlock = word 32 0 0
encoding PopException = word 33 0 0
encoding (Raise kind) = word 34 (raise_number kind) 0
encoding (Break target) = word 35 0 target
encoding (Continue target) = word 36 0 target
encoding ReturnValue = word 37 0 0
encoding (ReturnConst idx) = word 38 0 idx
encoding YieldValue = word 39 0 0
encoding YieldFrom = word 40 0 0

-- what an operand names exists; a count is at most 255, and an end is 0 or 1
abbrev pub InRange : Limits → Instruction → Type 0
InRange m (LoadConst idx) = idx < m.constants
InRange m (LoadFast idx) = idx < m.locals
InRange m (StoreFast idx) = idx < m.locals
InRange m Pop = Unit {0}
InRange m (Reverse amount) = amount ≤ 255
InRange m (CallFunctionPositional nargs) = nargs ≤ 255
InRange m GetIter = Unit {0}
InRange m (ForIter target) = target < m.instructions
InRange m (Jump target) = target < m.instructions
InRange m (JumpIfTrue target) = target < m.instructions
InRange m (JumpIfFalse target) = target < m.instructions
InRange m SetupLoop = Unit {0}
InRange m (SetupExcept handler) = handler < m.instructions
InRange m (SetupFinally handler) = handler < m.instructions
InRange m (EnterFinally end) = end ≤ 1
InRange m EndFinally = Unit {0}
InRange m (SetupWith end) = end < m.instructions
InRange m WithCleanupStart = Unit {0}
InRange m WithCleanupFinish = Unit {0}
InRange m PopBlock = Unit {0}
InRange m PopException = Unit {0}
InRange m (Raise kind) = Unit {0}
InRange m (Break target) = target < m.instructions
InRange m (Continue target) = target < m.instructions
InRange m ReturnValue = Unit {0}
InRange m (ReturnConst idx) = idx < m.constants
InRange m YieldValue = Unit {0}
InRange m YieldFrom = Unit {0}

-- the law of decoding: an answer is the instruction that this word encodes, in range; with none, there is no such instruction
abbrev pub Decoded : Limits → Word → Option Instruction → Type 0
Decoded m w None = (i : Instruction) → encoding i ≡ w → InRange m i → ⊥
Decoded m w (Some i) = (encoding i ≡ w) × InRange m i
