-- What the check answers, as a value over the table: all nodes, then all instructions, each from the first on.
use Rattle.std.specs.Prelude.{ℕ, zero, suc, ◌+◌, Ok, Err, Result}
use Rattle.table_check.specs.Nodes.{checking_node}
use Rattle.table.specs.Demands.{◌then◌}
use Rattle.table_check.specs.Shapes.{checking_instruction}
use Rattle.table_check.specs.declared.broken.Broken.{Broken}
use Rattle.table_check.specs.declared.broken.Broken.TheVariants.{Node, Instruction}
use Rattle.rules.specs.declared.rule.Rule.{Rule}
use Rattle.table.specs.Parts.{Parts}
use Rattle.table.specs.Reading.{instruction_count, node_count}

-- a broken rule with its place
abbrev pub placing : (Rule → Broken) → Result Unit Rule → Result Unit Broken
placing place (Ok u) = Ok tt
placing place (Err rule) = Err (place rule)

unfoldable pub node_kept : Parts → ℕ → Result Unit Broken
node_kept t k = placing (Node k) (checking_node t k)

unfoldable pub instruction_kept : Parts → ℕ → Result Unit Broken
instruction_kept t i = placing (Instruction i) (checking_instruction t i)

-- n tests from number i on, in turn: the first that is not passed counts
unfoldable pub in_turn : (ℕ → Result Unit Broken) → ℕ → ℕ → Result Unit Broken
in_turn test i zero = Ok tt
in_turn test i (suc n) = test i then in_turn test (i + 1) n

-- nodes count from 1
unfoldable pub all_nodes : Parts → Result Unit Broken
all_nodes t = in_turn (node_kept t) 1 (node_count t)

unfoldable pub all_instructions : Parts → Result Unit Broken
all_instructions t = in_turn (instruction_kept t) 0 (instruction_count t)

unfoldable pub checking : Parts → Result Unit Broken
checking t = all_nodes t then all_instructions t
