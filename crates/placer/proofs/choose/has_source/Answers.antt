use Rattle.std.proofs.Common.{subst, sym, arith}
use Rattle.std.specs.Prelude.{AllPairs}
use Rattle.branch_ring.specs.Profiles.{Precedes}
use Rattle.placer.proofs.Sources.{froms_rise, none_from, is_tested}
use Rattle.placer.proofs.choose.has_source.Goals as goal

pub rows_below-i-requires : goal.rows_below-i-requires
rows_below-i-requires c = froms_rise c.counts-rows.result.now (subst (AllPairs Precedes) (sym c.counts-rows.ensures) c.kept.ensures.ascends)

pub returns-then-i-rows : goal.returns-then-i-rows
returns-then-i-rows c =
    rw (← c.counts-rows.ensures) (sym (none_from c.counts-rows.result.now c.args.f.now c.rows_below-i.result (froms_rise c.counts-rows.result.now (subst (AllPairs Precedes) (sym c.counts-rows.ensures) c.kept.ensures.ascends))
    c.rows_below-i.ensures.below (λ d l. absurd (omega (arith, l, c.if-i-rows.true)))))

pub returns : goal.returns
returns c =
    rw (← c.counts-rows.ensures) (is_tested c.counts-rows.result.now c.args.f.now c.rows_below-i.result (0, 0, 0) (froms_rise c.counts-rows.result.now (subst (AllPairs Precedes) (sym c.counts-rows.ensures) c.kept.ensures.ascends))
    c.rows_below-i.ensures.below c.rows_below-i.ensures.others (omega (arith, c.if-i-rows.false)))
