-- What each instruction takes from the stack and gives to it where it goes on to the next one.
use Rattle.std.specs.Prelude.{ℕ, ◌+◌, ℤ, pos, ◌+ℤ◌, ◌-ℤ◌}
use Rattle.table.specs.declared.instructions.Instruction.{Instruction}
use Rattle.table.specs.declared.instructions.Instruction.TheVariants.{LoadConst, LoadFast, StoreFast, Pop, Reverse, CallFunctionPositional, GetIter, ForIter, Jump, JumpIfTrue, JumpIfFalse, SetupLoop, SetupExcept, SetupFinally, EnterFinally, EndFinally, SetupWith, WithCleanupStart, WithCleanupFinish, PopBlock, PopException, Raise, Break, Continue, ReturnValue, ReturnConst, YieldValue, YieldFrom}
use Rattle.table.specs.declared.instructions.RaiseKind.{RaiseKind}
use Rattle.table.specs.declared.instructions.RaiseKind.TheVariants.{Reraise}
use Rattle.table.specs.declared.instructions.RaiseKind.TheVariants as kind

-- a raise takes its exception, a reraise nothing
abbrev pub raises : RaiseKind → ℕ
raises Reraise = 0
raises kind.Raise = 1

abbrev pub takes : Instruction → ℕ
takes (LoadConst idx) = 0
takes (LoadFast idx) = 0
takes (StoreFast idx) = 1
takes Pop = 1
takes (Reverse amount) = 0
takes (CallFunctionPositional nargs) = nargs + 1
takes GetIter = 1
takes (ForIter target) = 0
takes (Jump target) = 0
takes (JumpIfTrue target) = 1
takes (JumpIfFalse target) = 1
takes SetupLoop = 0
takes (SetupExcept handler) = 0
takes (SetupFinally handler) = 0
takes (EnterFinally end) = 0
takes EndFinally = 0
takes (SetupWith end) = 1
takes WithCleanupStart = 0
takes WithCleanupFinish = 0
takes PopBlock = 0
takes PopException = 0
takes (Raise kind) = raises kind
takes (Break target) = 0
takes (Continue target) = 0
takes ReturnValue = 1
takes (ReturnConst idx) = 0
takes YieldValue = 1
takes YieldFrom = 1

abbrev pub gives : Instruction → ℕ
gives (LoadConst idx) = 1
gives (LoadFast idx) = 1
gives (StoreFast idx) = 0
gives Pop = 0
gives (Reverse amount) = 0
gives (CallFunctionPositional nargs) = 1
gives GetIter = 1
gives (ForIter target) = 1
gives (Jump target) = 0
gives (JumpIfTrue target) = 0
gives (JumpIfFalse target) = 0
gives SetupLoop = 0
gives (SetupExcept handler) = 0
gives (SetupFinally handler) = 0
gives (EnterFinally end) = 0
gives EndFinally = 0
gives (SetupWith end) = 2
gives WithCleanupStart = 0
gives WithCleanupFinish = 0
gives PopBlock = 0
gives PopException = 0
gives (Raise kind) = 0
gives (Break target) = 0
gives (Continue target) = 0
gives ReturnValue = 0
gives (ReturnConst idx) = 0
gives YieldValue = 1
gives YieldFrom = 0

-- the net change of depth, a signed number
unfoldable pub effect : Instruction → ℤ
effect op = pos (gives op) -ℤ pos (takes op)

-- the depth with which the next instruction is reached
unfoldable pub depth_after : ℕ → Instruction → ℤ
depth_after d op = pos d +ℤ effect op

-- how many values have to stand on the stack, whatever the level
abbrev pub needs : Instruction → ℕ
needs (LoadConst idx) = 0
needs (LoadFast idx) = 0
needs (StoreFast idx) = 0
needs Pop = 0
needs (Reverse amount) = amount
needs (CallFunctionPositional nargs) = 0
needs GetIter = 0
needs (ForIter target) = 0
needs (Jump target) = 0
needs (JumpIfTrue target) = 0
needs (JumpIfFalse target) = 0
needs SetupLoop = 0
needs (SetupExcept handler) = 0
needs (SetupFinally handler) = 0
needs (EnterFinally end) = 0
needs EndFinally = 0
needs (SetupWith end) = 0
needs WithCleanupStart = 1
needs WithCleanupFinish = 0
needs PopBlock = 0
needs PopException = 0
needs (Raise kind) = 0
needs (Break target) = 0
needs (Continue target) = 0
needs ReturnValue = 0
needs (ReturnConst idx) = 0
needs YieldValue = 0
needs YieldFrom = 2
