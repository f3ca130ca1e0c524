use Rattle.std.proofs.Common.{rules}
use Rattle.table.specs.Tables.{parts}
use Rattle.table.proofs.Decodable.{decodable_on}
use Rattle.table.proofs.tables.Table.decodable.Goals as goal

pub returns-in_err-ok_or : goal.returns-in_err-ok_or
returns-in_err-ok_or c =
    let u = decodable_on (parts c.args.self.now) c.limits-limits.result c.loop-at.at c.limits-limits.ensures c.loop-at-test.true in
    search rules

pub loop-at-preserved : goal.loop-at-preserved
loop-at-preserved c =
    let u = decodable_on (parts c.args.self.now) c.limits-limits.result c.loop-at.at c.limits-limits.ensures c.loop-at-test.true in
    search rules
