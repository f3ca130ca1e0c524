use Rattle.std.proofs.Common.{string_bytes, arith, rules}
use Rattle.table.specs.Reading.{instruction_count}
use Rattle.table.specs.Tables.{parts}
use Rattle.listing.proofs.Listing.{lines_more}
use Rattle.listing.proofs.lines.list.Goals as goal

pub loop-i-preserved : goal.loop-i-preserved
loop-i-preserved c =
    let m = lines_more (parts c.args.table.now) (string_bytes c.loop-i.text) c.loop-i.i (instruction_count (parts c.args.table.now)) (omega arith) in
    search rules
