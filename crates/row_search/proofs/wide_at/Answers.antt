use Rattle.rows.proofs.WideLaws.{four-at}
use Rattle.row_search.proofs.wide_at.Goals as goal

pub returns : goal.returns
returns c = four-at c.args.t.now c.args.at
