use Rattle.std.proofs.Common.{Ok, rules}
use Rattle.table.specs.Loading.{loading}
use Rattle.table.specs.Tables.{parts}
use Rattle.table.proofs.Loaded.{loaded}
use Rattle.table.proofs.loading.load.Goals as goal

pub returns-clause-law : goal.returns-clause-law
unfolding loading
returns-clause-law c = loaded c.args.bytes.now (Ok (parts c.cut-table.result)) (search rules)
