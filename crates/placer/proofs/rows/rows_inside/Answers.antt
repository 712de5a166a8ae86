use Rattle.placer.proofs.Gathered.{all_between}
use Rattle.placer.proofs.rows.rows_inside.Goals as goal

pub returns-clause-all : goal.returns-clause-all
returns-clause-all c =
    all_between c.args.rows.now c.args.f.now c.rows_below-first.result c.rows_below-count.result c.rows_below-first.ensures.below c.rows_below-count.ensures.others c.rows_below-count.ensures.within
