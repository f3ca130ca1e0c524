-- What the check refuses, in words: number, place, what was found and what was expected.
use Rattle.std.specs.Prelude.{ℕ, List, ◌++◌, Some, None, codes, decimal, Option}
use Rattle.table_check.specs.declared.broken.Broken.{Broken}
use Rattle.table_check.specs.declared.broken.Broken.TheVariants.{Instruction}
use Rattle.table_check.specs.declared.broken.Broken.TheVariants as broken
use Rattle.rules.specs.Words.{rule_text}
use Rattle.rules.specs.declared.rule.Rule.{Rule}
use Rattle.table.specs.Names.{name_of}
use Rattle.table.specs.Parts.{Parts}
use Rattle.table.specs.Reading.{instruction_at}
use Rattle.table.specs.declared.instructions.Instruction.{Instruction as Op}

-- an instruction that breaks a rule, with its name where it has one
abbrev pub instruction_text : ℕ → Option Op → Rule → List ℕ
instruction_text at None rule = codes "refused 11 at instruction " ++ (decimal at ++ (codes ": " ++ rule_text rule))
instruction_text at (Some op) rule =
    codes "refused 11 at instruction " ++ (decimal at ++ (codes " (" ++ (name_of op ++ (codes "): " ++ rule_text rule))))

abbrev pub refused_node : ℕ → Rule → List ℕ
refused_node number rule = codes "refused 10 at node " ++ (decimal number ++ (codes ": " ++ rule_text rule))

-- a refusal of the check
abbrev pub explanation : Parts → Broken → List ℕ
explanation t (broken.Node number rule) = refused_node number rule
explanation t (Instruction at rule) = instruction_text at (instruction_at t at) rule
