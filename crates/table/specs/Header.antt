-- What load asks of a table before it reads the instructions, in the order in which it asks.
use Rattle.std.specs.Prelude.{ℕ, ◌+◌, ◌/◌, ◌%◌, Bool, ◌&&◌, Result, ◌==◌, nat_le}
use Rattle.table.specs.Demands.{◌then◌, demand}
use Rattle.table.specs.declared.layout.Layout.{Layout}
use Rattle.table.specs.declared.layout.Span.{Span}
use Rattle.table.specs.declared.refusals.Field.{Field}
use Rattle.table.specs.declared.refusals.Field.TheVariants.{MaximumDepth, Locals, Zero, PairCount}
use Rattle.table.specs.declared.refusals.Part.{Part}
use Rattle.table.specs.declared.refusals.Part.TheVariants.{Instructions, Shapes, Nodes, Constants, Rows}
use Rattle.table.specs.declared.refusals.Refusal.{Refusal}
use Rattle.table.specs.declared.refusals.Refusal.TheVariants.{Size, Begins, Ends, Number, Records, Uneven}

-- from least to most
abbrev pub within : ℕ → ℕ → ℕ → Bool
within least most n = nat_le least n && nat_le n most

-- 48 to 65,536 bytes
abbrev pub sized : ℕ → Result Unit Refusal
sized bytes = demand (within 48 65536 bytes) (Size bytes)

-- one past a part's last byte
abbrev pub ending : Span → ℕ
ending s = s.offset + s.length

-- a part begins at the earliest byte or after it, and ends within the table
abbrev pub placed : Part → ℕ → ℕ → Span → Result Unit Refusal
placed part earliest bytes s =
    demand (nat_le earliest s.offset) (Begins part s.offset earliest) then
    demand (nat_le (ending s) bytes) (Ends part (ending s) bytes)

-- each part after its forerunner, the first after the header's 48 bytes
unfoldable pub placing : ℕ → Layout → Result Unit Refusal
placing bytes l =
    placed Instructions 48 bytes l.instructions then
    placed Shapes (ending l.instructions) bytes l.shapes then
    placed Nodes (ending l.shapes) bytes l.nodes then
    placed Constants (ending l.nodes) bytes l.constants then
    placed Rows (ending l.constants) bytes l.rows

-- a header number from least to most
abbrev pub ranged : Field → ℕ → ℕ → ℕ → Result Unit Refusal
ranged field least most found = demand (within least most found) (Number field found)

-- maximum depth 1 to 256, locals 0 to 64, a zero, and five pairs
unfoldable pub numbered : Layout → Result Unit Refusal
numbered l =
    ranged MaximumDepth 1 256 l.maximum then
    ranged Locals 0 64 l.locals then
    ranged Zero 0 0 l.zero then
    ranged PairCount 5 5 l.pairs

-- a part of whole records, from least to most of them
abbrev pub counted : Part → ℕ → ℕ → ℕ → Span → Result Unit Refusal
counted part size least most s = demand (s.length % size == 0 && within least most (s.length / size)) (Records part s.length)

-- a part as long as expected
abbrev pub matched : Part → ℕ → Span → Result Unit Refusal
matched part expected s = demand (s.length == expected) (Uneven part s.length expected)

-- 1 to 4,096 instructions, at most 1,024 nodes and constants, and one shape and one row for each instruction
unfoldable pub measured : Layout → Result Unit Refusal
measured l =
    counted Instructions 4 1 4096 l.instructions then
    matched Shapes l.instructions.length l.shapes then
    counted Nodes 8 0 1024 l.nodes then
    counted Constants 4 0 1024 l.constants then
    matched Rows l.instructions.length l.rows
