-- `box_run::run`.
-- Assumes nothing.
use Rattle.box_run.specs.TextLaws.{text-start}
use Rattle.box_run.proofs.run.Goals as goal

pub returns : goal.returns
returns c =
    text-start c.args.input.now _ c.args.out.now _ _ c.fresh-records.ensures c.put_heading-p.ensures c.run_items.ensures
