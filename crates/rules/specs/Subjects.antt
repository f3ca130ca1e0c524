-- The tests of a node's parts, each with whose node it is in the rule that it is refused by.
use Rattle.std.specs.Prelude.{ℕ, Result, ◌==◌}
use Rattle.rules.specs.Reading.{same_kind}
use Rattle.table.specs.Demands.{demand}
use Rattle.rules.specs.declared.rule.Rule.{Rule}
use Rattle.rules.specs.declared.rule.Rule.TheVariants as rule
use Rattle.rules.specs.declared.rule.Whose.{Whose}
use Rattle.table.specs.declared.records.Node.{Node}
use Rattle.table.specs.declared.records.NodeKind.{NodeKind}

abbrev pub has_kind : Whose → Node → NodeKind → Result Unit Rule
has_kind whose n kind = demand (same_kind n.kind kind) (rule.Kind whose kind n.kind)

abbrev pub has_end : Whose → Node → ℕ → Result Unit Rule
has_end whose n end = demand (n.end == end) (rule.End whose end n.end)

abbrev pub has_parent : Whose → Node → ℕ → Result Unit Rule
has_parent whose n parent = demand (n.parent == parent) (rule.Parent whose parent n.parent)

abbrev pub has_level : Whose → Node → ℕ → Result Unit Rule
has_level whose n level = demand (n.level == level) (rule.Level whose level n.level)

abbrev pub has_handler : Whose → Node → ℕ → Result Unit Rule
has_handler whose n handler = demand (n.handler == handler) (rule.Handler whose handler n.handler)
