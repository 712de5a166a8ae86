use Rattle.placer.proofs.Gathered.{shared}
use Rattle.placer.proofs.Sources.{froms_rise}
use Rattle.placer.proofs.share.share.Goals as goal

pub rows_inside-left-requires : goal.rows_inside-left-requires
rows_inside-left-requires c = froms_rise c.args.by_source.now c.requires.kept.ascends

pub rows_inside-entered-requires : goal.rows_inside-entered-requires
rows_inside-entered-requires c = c.requires.targets.rises

pub of-requires : goal.of-requires
of-requires c =
    (shared c.args.by_source.now c.args.by_target.now c.rows_inside-left.result.now c.rows_inside-entered.result.now c.in_ok-rows.rows.items c.args.f.now c.in_ok-found.found c.requires.kept c.requires.targets.same
    c.rows_inside-left.ensures.some c.rows_inside-left.ensures.all c.rows_inside-entered.ensures.some c.rows_inside-entered.ensures.all c.in_ok-found.ensures c.in_ok-rows.ensures.ordered c.in_ok-rows.ensures.entries).kept

pub returns : goal.returns
returns c =
    rw (c.of.ensures) (shared c.args.by_source.now c.args.by_target.now c.rows_inside-left.result.now c.rows_inside-entered.result.now c.in_ok-rows.rows.items c.args.f.now c.in_ok-found.found c.requires.kept c.requires.targets.same
    c.rows_inside-left.ensures.some c.rows_inside-left.ensures.all c.rows_inside-entered.ensures.some c.rows_inside-entered.ensures.all c.in_ok-found.ensures c.in_ok-rows.ensures.ordered c.in_ok-rows.ensures.entries)
