-- A refusal in words: its number, its place, what was found and what was expected.
use Rattle.std.specs.Prelude.{ℕ, List, ◌++◌, Some, None, codes, decimal, Option}
use Rattle.table.specs.Instructions.{decoding, word}
use Rattle.table.specs.declared.instructions.Instruction.{Instruction}
use Rattle.table.specs.declared.instructions.Limits.{Limits}
use Rattle.table.specs.declared.instructions.Word.{Word}
use Rattle.table.specs.declared.refusals.Field.{Field}
use Rattle.table.specs.declared.refusals.Field.TheVariants.{MaximumDepth, Locals, Zero, PairCount}
use Rattle.table.specs.declared.refusals.Part.{Part}
use Rattle.table.specs.declared.refusals.Part.TheVariants.{Instructions, Shapes, Nodes, Constants, Rows}
use Rattle.table.specs.declared.refusals.Refusal.{Refusal}
use Rattle.table.specs.declared.refusals.Refusal.TheVariants.{Size, Begins, Ends, Number, Records, Uneven}
use Rattle.table.specs.declared.refusals.Refusal.TheVariants as refusal
use Rattle.table.specs.declared.records.NodeKind.{NodeKind}
use Rattle.table.specs.declared.records.NodeKind.TheVariants.{Loop, TryExcept, Finally, FinallyHandler, ExceptHandler, Unknown}
use Rattle.table.specs.Names.{name_of, operand_of}
use Rattle.table.specs.declared.names.Operand.{Operand}
use Rattle.table.specs.declared.names.Operand.TheVariants.{Nothing, Constant, Local, Count, Target, Flag}

abbrev pub part_name : Part → List ℕ
part_name Instructions = codes "instructions"
part_name Shapes = codes "shapes"
part_name Nodes = codes "nodes"
part_name Constants = codes "constants"
part_name Rows = codes "rows"

abbrev pub expected_records : Part → List ℕ
expected_records Instructions = codes "1 to 4096 records of 4"
expected_records Shapes = codes "a record of 4 for each instruction"
expected_records Nodes = codes "0 to 1024 records of 8"
expected_records Constants = codes "0 to 1024 records of 4"
expected_records Rows = codes "a record of 4 for each instruction"

abbrev pub field_name : Field → List ℕ
field_name MaximumDepth = codes "maximum depth"
field_name Locals = codes "number of locals"
field_name Zero = codes "third header number"
field_name PairCount = codes "pair count"

abbrev pub field_range : Field → List ℕ
field_range MaximumDepth = codes "1 to 256"
field_range Locals = codes "0 to 64"
field_range Zero = codes "0"
field_range PairCount = codes "5"

abbrev pub size_text : ℕ → List ℕ
size_text bytes = codes "refused 1: the table has " ++ (decimal bytes ++ codes " bytes; expected 48 to 65536")

abbrev pub begins_text : Part → ℕ → ℕ → List ℕ
begins_text part offset earliest =
    codes "refused 2: the " ++ (part_name part ++ (codes " begin at byte " ++ (decimal offset ++ (codes "; expected byte " ++ (decimal earliest ++ codes " or later")))))

abbrev pub ends_text : Part → ℕ → ℕ → List ℕ
ends_text part end bytes =
    codes "refused 2: the " ++ (part_name part ++ (codes " end at byte " ++ (decimal end ++ (codes "; expected " ++ (decimal bytes ++ codes " at most, where the table ends")))))

abbrev pub number_text : Field → ℕ → List ℕ
number_text field found = codes "refused 3: the " ++ (field_name field ++ (codes " is " ++ (decimal found ++ (codes "; expected " ++ field_range field))))

abbrev pub records_text : Part → ℕ → List ℕ
records_text part length = codes "refused 3: the " ++ (part_name part ++ (codes " take " ++ (decimal length ++ (codes " bytes; expected " ++ expected_records part))))

abbrev pub uneven_text : Part → ℕ → ℕ → List ℕ
uneven_text part length expected =
    codes "refused 3: the " ++ (part_name part ++ (codes " take " ++ (decimal length ++ (codes " bytes; expected " ++ (decimal expected ++ codes ", 4 for each instruction")))))

abbrev pub expected_operands : Operand → Limits → List ℕ
expected_operands Nothing m = codes "x 0 and y 0"
expected_operands (Constant n) m = codes "x 0 and a y below " ++ (decimal m.constants ++ codes ", the number of constants")
expected_operands (Local n) m = codes "x 0 and a y below " ++ (decimal m.locals ++ codes ", the number of locals")
expected_operands (Count n) m = codes "x 0 and a y of at most 255"
expected_operands (Target n) m = codes "x 0 and a y below " ++ (decimal m.instructions ++ codes ", the number of instructions")
expected_operands (Flag n) m = codes "an x of 0 or 1 and y 0"

abbrev pub unknown_text : ℕ → ℕ → List ℕ
unknown_text at opcode = codes "refused 4 at instruction " ++ (decimal at ++ (codes ": there is no opcode " ++ decimal opcode))

abbrev pub known_text : ℕ → Word → Limits → Instruction → List ℕ
known_text at w m o =
    codes "refused 4 at instruction " ++ (decimal at ++ (codes " (" ++ (name_of o ++ (codes "): x is " ++ (decimal w.x ++ (codes " and y is " ++ (decimal w.y ++ (codes "; expected " ++ expected_operands (operand_of o) m))))))))

-- some instruction of an opcode, if there is one: its operands are 0, and of everything there is one
abbrev pub known : ℕ → Option Instruction
known opcode = decoding (record { instructions = 1; constants = 1; locals = 1 }) (word opcode 0 0)

abbrev pub word_for : ℕ → Word → Limits → Option Instruction → List ℕ
word_for at w m None = unknown_text at w.opcode
word_for at w m (Some o) = known_text at w m o

abbrev pub word_text : ℕ → Word → Limits → List ℕ
word_text at w m = word_for at w m (known w.opcode)

abbrev pub explanation : Refusal → List ℕ
explanation (Size bytes) = size_text bytes
explanation (Begins part offset earliest) = begins_text part offset earliest
explanation (Ends part end bytes) = ends_text part end bytes
explanation (Number field found) = number_text field found
explanation (Records part length) = records_text part length
explanation (Uneven part length expected) = uneven_text part length expected
explanation (refusal.Instruction at word limits) = word_text at word limits

abbrev pub kind_name : NodeKind → List ℕ
kind_name Loop = codes "a Loop"
kind_name TryExcept = codes "a TryExcept"
kind_name Finally = codes "a Finally"
kind_name FinallyHandler = codes "a FinallyHandler"
kind_name ExceptHandler = codes "an ExceptHandler"
kind_name (Unknown byte) = codes "no known block"
