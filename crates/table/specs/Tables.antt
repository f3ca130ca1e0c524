-- A table of the program as its parts.
use Rattle.std.specs.Prelude.{Ok, Err, Result}
use Rattle.table.specs.Parts.{Parts}
use Rattle.table.specs.declared.refusals.Refusal.{Refusal}
use Rattle.table.specs.declared.tables.Table.{Table}

abbrev pub parts : Table → Parts
parts t = record {
  maximum = t.maximum;
  locals = t.locals;
  instructions = t.instructions.now;
  shapes = t.shapes.now;
  nodes = t.nodes.now;
  constants = t.constants.now;
  rows = t.rows.now;
}

-- what load answered
abbrev pub answered : Result Table Refusal → Result Parts Refusal
answered (Ok t) = Ok (parts t)
answered (Err e) = Err e
