-- What an instruction is called, and what its operand names.
use Rattle.std.specs.Prelude.{ℕ, List, [], ◌++◌, codes, decimal}
use Rattle.table.specs.Instructions.{raise_number}
use Rattle.table.specs.declared.instructions.Instruction.{Instruction}
use Rattle.table.specs.declared.instructions.Instruction.TheVariants.{LoadConst, LoadFast, StoreFast, Pop, Reverse, CallFunctionPositional, GetIter, ForIter, Jump, JumpIfTrue, JumpIfFalse, SetupLoop, SetupExcept, SetupFinally, EnterFinally, EndFinally, SetupWith, WithCleanupStart, WithCleanupFinish, PopBlock, PopException, Raise, Break, Continue, ReturnValue, ReturnConst, YieldValue, YieldFrom}
use Rattle.table.specs.declared.names.Operand.{Operand}
use Rattle.table.specs.declared.names.Operand.TheVariants.{Nothing, Constant, Local, Count, Target, Flag}

abbrev pub name_of : Instruction → List ℕ
name_of (LoadConst idx) = codes "LoadConst"
name_of (LoadFast idx) = codes "LoadFast"
name_of (StoreFast idx) = codes "StoreFast"
name_of Pop = codes "Pop"
name_of (Reverse amount) = codes "Reverse"
name_of (CallFunctionPositional nargs) = codes "CallFunctionPositional"
name_of GetIter = codes "GetIter"
name_of (ForIter target) = codes "ForIter"
name_of (Jump target) = codes "Jump"
name_of (JumpIfTrue target) = codes "JumpIfTrue"
name_of (JumpIfFalse target) = codes "JumpIfFalse"
name_of SetupLoop = codes "SetupLoop"
name_of (SetupExcept handler) = codes "SetupExcept"
name_of (SetupFinally handler) = codes "SetupFinally"
name_of (EnterFinally end) = codes "EnterFinally"
name_of EndFinally = codes "EndFinally"
name_of (SetupWith end) = codes "SetupWith"
name_of WithCleanupStart = codes "WithCleanupStart"
name_of WithCleanupFinish = codes "WithCleanupFinish"
name_of PopBlock = codes "PopBlock"
name_of PopException = codes "PopException"
name_of (Raise kind) = codes "Raise"
name_of (Break target) = codes "Break"
name_of (Continue target) = codes "Continue"
name_of ReturnValue = codes "ReturnValue"
name_of (ReturnConst idx) = codes "ReturnConst"
name_of YieldValue = codes "YieldValue"
name_of YieldFrom = codes "YieldFrom"

abbrev pub operand_of : Instruction → Operand
operand_of (LoadConst idx) = Constant idx
operand_of (LoadFast idx) = Local idx
operand_of (StoreFast idx) = Local idx
operand_of Pop = Nothing
operand_of (Reverse amount) = Count amount
operand_of (CallFunctionPositional nargs) = Count nargs
operand_of GetIter = Nothing
operand_of (ForIter target) = Target target
operand_of (Jump target) = Target target
operand_of (JumpIfTrue target) = Target target
operand_of (JumpIfFalse target) = Target target
operand_of SetupLoop = Nothing
operand_of (SetupExcept handler) = Target handler
operand_of (SetupFinally handler) = Target handler
operand_of (EnterFinally end) = Flag end
operand_of EndFinally = Nothing
operand_of (SetupWith end) = Target end
operand_of WithCleanupStart = Nothing
operand_of WithCleanupFinish = Nothing
operand_of PopBlock = Nothing
operand_of PopException = Nothing
operand_of (Raise kind) = Flag (raise_number kind)
operand_of (Break target) = Target target
operand_of (Continue target) = Target target
operand_of ReturnValue = Nothing
operand_of (ReturnConst idx) = Constant idx
operand_of YieldValue = Nothing
operand_of YieldFrom = Nothing

-- an operand after a space, and an instruction's name with its operand
abbrev pub operand_text : Operand → List ℕ
operand_text Nothing = []
operand_text (Constant n) = codes " constant " ++ decimal n
operand_text (Local n) = codes " local " ++ decimal n
operand_text (Count n) = codes " " ++ decimal n
operand_text (Target n) = codes " to " ++ decimal n
operand_text (Flag n) = codes " " ++ decimal n

abbrev pub instruction_text : Instruction → List ℕ
instruction_text i = name_of i ++ operand_text (operand_of i)
