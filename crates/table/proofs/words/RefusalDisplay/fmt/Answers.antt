use Rattle.std.proofs.Common.{sym, ap}
use Rattle.std.proofs.Output.{has_written_of_eq}
use Rattle.table.specs.Words.{explanation}
use Rattle.table.proofs.words.RefusalDisplay.fmt.Goals as goal

pub returns-in-Ends-clause-writes : goal.returns-in-Ends-clause-writes
returns-in-Ends-clause-writes g c = λ plain ok. has_written_of_eq _ _ _ _ _ (sym (ap explanation c.in-Ends.is)) (c.write-in-Ends.ensures.writes plain ok)

pub returns-in-Records-clause-writes : goal.returns-in-Records-clause-writes
returns-in-Records-clause-writes g c = λ plain ok.
    let e = ap explanation c.in-Records.is in
    let r = c.records-records.ensures in
    has_written_of_eq _ _ _ _ _ (cc) (c.write-in-Records.ensures.writes plain ok)

pub returns-in-Uneven-clause-writes : goal.returns-in-Uneven-clause-writes
returns-in-Uneven-clause-writes g c = λ plain ok. has_written_of_eq _ _ _ _ _ (sym (ap explanation c.in-Uneven.is)) (c.write-in-Uneven.ensures.writes plain ok)
