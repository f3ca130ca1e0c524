-- A table as its parts: two numbers and five lists of bytes.
use Rattle.std.specs.Prelude.{ℕ, List, take, drop}
use Rattle.table.specs.Layout.{layout_of}
use Rattle.table.specs.declared.layout.Layout.{Layout}
use Rattle.table.specs.declared.layout.Span.{Span}

pub record Parts : Type 0 where
  pub maximum : ℕ
  pub locals : ℕ
  pub instructions : List ℕ
  pub shapes : List ℕ
  pub nodes : List ℕ
  pub constants : List ℕ
  pub rows : List ℕ

-- the bytes at a part's place
abbrev pub part : List ℕ → Span → List ℕ
part b s = take s.length (drop s.offset b)

-- the parts that a header marks out
unfoldable pub cutting : List ℕ → Layout → Parts
cutting b l = record {
  maximum = l.maximum;
  locals = l.locals;
  instructions = part b l.instructions;
  shapes = part b l.shapes;
  nodes = part b l.nodes;
  constants = part b l.constants;
  rows = part b l.rows;
}

-- the parts that the header of these bytes marks out
abbrev pub parts_of : List ℕ → Parts
parts_of b = cutting b (layout_of b)
