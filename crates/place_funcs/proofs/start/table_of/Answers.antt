use Rattle.std.proofs.Common.{ap, arith}
use Rattle.std.specs.Prelude.{slice_index}
use Rattle.std.specs.List.{sum_by}
use Rattle.std.proofs.lemmas.List.Sums.{sum_by_more_le}
use Rattle.place_funcs.specs.Rows.{share, share_of}
use Rattle.place_funcs.proofs.Raised.{some_leave}
use Rattle.place_funcs.proofs.Totals.{total_small}
use Rattle.place_funcs.proofs.start.table_of.Goals as goal

pub add_rows-requires-clause-some : goal.add_rows-requires-clause-some
add_rows-requires-clause-some c = some_leave c.args.funcs.now c.args.profile.now c.leaving.result.now (slice_index c.args.chosen.now c.loop-f.f-index) c.leaving.ensures c.requires.given.kept.some

pub add_rows-requires-clause-small : goal.add_rows-requires-clause-small
add_rows-requires-clause-small c = λ p q.
    let funcs = c.args.funcs.now in
    let chosen = c.args.chosen.now in
    let profile = c.args.profile.now in
    let i = c.loop-f.f-index in
    let a = c.loop-f.invariant.tops p q in
    let b = sum_by_more_le (share_of funcs chosen profile p q) chosen i 0 c.loop-f-test.true in
    let t = total_small funcs profile chosen c.requires.given p q in
    let e = ap (sum_by (share funcs chosen (slice_index chosen i) p q)) c.leaving.ensures in
    omega (arith, a, b, t, e)
