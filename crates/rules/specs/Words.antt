-- A broken rule in words: what was found and what was expected.
use Rattle.std.specs.Prelude.{ℕ, List, [], ◌++◌, ℤ, codes, decimal}
use Rattle.std.specs.Fmt.{signed_decimal}
use Rattle.table.specs.Records.{kind_byte}
use Rattle.table.specs.Words.{kind_name}
use Rattle.rules.specs.declared.rule.Rule.{Rule}
use Rattle.rules.specs.declared.rule.Rule.TheVariants.{KnownKind, EndListed, ParentBelow, LevelFromParent, LevelWithinMaximum, NodesToBottom, HandlerExists, NoHandler, HandlerDepth, HandlerWithinMaximum, Kind, End, Parent, Level, Decodes, NodeExists, DepthFromLevel, DepthWithinMaximum, TakesAboveLevel, ValuesNeeded, Exists, Depth, Node, Removable, AboveParent, LoopStands}
use Rattle.rules.specs.declared.rule.Rule.TheVariants as rule
use Rattle.rules.specs.declared.rule.Way.{Way}
use Rattle.rules.specs.declared.rule.Way.TheVariants.{Start, Next, Target}
use Rattle.rules.specs.declared.rule.Whose.{Whose}
use Rattle.rules.specs.declared.rule.Whose.TheVariants.{Own, Child}
use Rattle.rules.specs.declared.rule.Whose.TheVariants as whose

abbrev pub way_text : Way → List ℕ
way_text Start = codes "it begins the table and"
way_text Next = codes "the next instruction"
way_text Target = codes "the target"

abbrev pub whose_text : Whose → List ℕ
whose_text Own = codes "its node"
whose_text Child = codes "the next instruction's node"
whose_text whose.Handler = codes "the node at its handler"

abbrev pub counted : List ℕ → ℕ → List ℕ → ℕ → List ℕ → List ℕ
counted subject found bound expected remark =
    subject ++ (codes " " ++ (decimal found ++ (codes "; expected " ++ (bound ++ (decimal expected ++ remark)))))

abbrev pub named : List ℕ → List ℕ → List ℕ → List ℕ
named subject found expected = subject ++ (codes " is " ++ (found ++ (codes "; expected " ++ expected)))

abbrev pub part_text : Whose → List ℕ → ℕ → ℕ → List ℕ
part_text w part found expected = whose_text w ++ (codes " has " ++ (part ++ (codes " " ++ (decimal found ++ (codes "; expected " ++ decimal expected)))))

abbrev pub depth_text : Way → ℤ → ℕ → List ℕ
depth_text w expected found = way_text w ++ (codes " has depth " ++ (decimal found ++ (codes "; expected " ++ signed_decimal expected)))

abbrev pub node_text : Way → ℕ → ℕ → List ℕ
node_text w expected found = way_text w ++ (codes " has node " ++ (decimal found ++ (codes "; expected " ++ decimal expected)))

abbrev pub missing_text : Way → ℕ → ℕ → List ℕ
missing_text w instructions to = way_text w ++ (codes " would be instruction " ++ (decimal to ++ (codes "; expected one below " ++ decimal instructions)))

abbrev pub takes_text : ℕ → ℕ → ℕ → List ℕ
takes_text level takes found = codes "its depth is " ++ (decimal found ++ (codes "; expected at least " ++ (decimal takes ++ (codes " above level " ++ decimal level))))

-- the rule that is broken
abbrev pub rule_text : Rule → List ℕ
rule_text (KnownKind found) = counted (codes "its kind is") (kind_byte found) (codes "1 to ") 5 []
rule_text (EndListed most found) = counted (codes "its end is") found (codes "at most ") most []
rule_text (ParentBelow number found) = counted (codes "its parent is") found (codes "less than ") number (codes ", its own number")
rule_text (LevelFromParent least found) = counted (codes "its level is") found (codes "at least ") least (codes ", its parent's level")
rule_text (LevelWithinMaximum most found) = counted (codes "its level is") found (codes "at most ") most (codes ", the maximum depth")
rule_text NodesToBottom = named (codes "its way to the bottom") (codes "longer than 32 nodes") (codes "at most 32")
rule_text (HandlerExists instructions found) = counted (codes "its handler is") found (codes "less than ") instructions (codes ", the number of instructions")
rule_text (NoHandler found) = counted (codes "its handler is") found [] 0 (codes ", since its kind has none")
rule_text (HandlerDepth expected found) = counted (codes "its handler begins with depth") found [] expected []
rule_text (HandlerWithinMaximum most found) = counted (codes "its handler begins with depth") found (codes "at most ") most (codes ", the maximum depth")
rule_text (Kind whose expected found) = named (whose_text whose) (kind_name found) (kind_name expected)
rule_text (End whose expected found) = part_text whose (codes "end") found expected
rule_text (Parent whose expected found) = part_text whose (codes "parent") found expected
rule_text (Level whose expected found) = part_text whose (codes "level") found expected
rule_text (rule.Handler whose expected found) = part_text whose (codes "handler") found expected
rule_text Decodes = named (codes "its word") (codes "no instruction") (codes "one that is listed")
rule_text (NodeExists nodes found) = counted (codes "its node is") found (codes "at most ") nodes (codes ", the number of nodes")
rule_text (DepthFromLevel least found) = counted (codes "its depth is") found (codes "at least ") least (codes ", its node's level")
rule_text (DepthWithinMaximum most found) = counted (codes "its depth is") found (codes "at most ") most (codes ", the maximum depth")
rule_text (TakesAboveLevel level takes found) = takes_text level takes found
rule_text (ValuesNeeded least found) = counted (codes "its depth is") found (codes "at least ") least (codes ", the values that it needs")
rule_text (Exists way instructions to) = missing_text way instructions to
rule_text (Depth way expected found) = depth_text way expected found
rule_text (Node way expected found) = node_text way expected found
rule_text (Removable found) = named (codes "its node") (kind_name found) (codes "a Loop, a TryExcept or a Finally")
rule_text (AboveParent least found) = counted (codes "its node has level") found (codes "more than ") least (codes ", the parent's level")
rule_text LoopStands = named (codes "the Loop around it") (codes "missing") (codes "one")
