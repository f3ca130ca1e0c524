use Rattle.exceptions.proofs.Tabling.{tabled_none, none_ringless, none_within}
use Rattle.exceptions.proofs.links.LinkTable.new.Goals as goal

pub invariant_of-result : goal.invariant_of-result
invariant_of-result g c = record { ringless = none_ringless g.row.N; within = none_within g.row.N g.row.N }

pub returns : goal.returns
returns g c = tabled_none g.row.N
