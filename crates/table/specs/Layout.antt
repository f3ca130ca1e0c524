-- The header of a table: four numbers, then a pair of offset and length for each of the five parts.
use Rattle.std.specs.Prelude.{ℕ, ◌+◌, List}
use Rattle.table.specs.declared.layout.Layout.{Layout}
use Rattle.table.specs.declared.layout.Span.{Span}
use Rattle.table.specs.Fields.{u16_at, u32_at}

abbrev pub span_at : List ℕ → ℕ → Span
span_at b i = record { offset = u32_at b i; length = u32_at b (i + 4) }

unfoldable pub layout_of : List ℕ → Layout
layout_of b = record {
  maximum = u16_at b 0;
  locals = u16_at b 2;
  zero = u16_at b 4;
  pairs = u16_at b 6;
  instructions = span_at b 8;
  shapes = span_at b 16;
  nodes = span_at b 24;
  constants = span_at b 32;
  rows = span_at b 40;
}
