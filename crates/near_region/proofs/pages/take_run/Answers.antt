use Rattle.std.proofs.Common.{◌≤◌, ◌⊎◌, inl, arith, subst}
use Rattle.near_region.proofs.Taking.{run_more, run_done}
use Rattle.near_region.proofs.pages.take_run.Goals as goal

pub loop-p-preserved : goal.loop-p-preserved
loop-p-preserved c =
    let low = c.loop-p.auto.p in let lt = c.loop-p-test.true in let e = c.min-end.ensures in let n = c.loop-p.auto.taken in
    (run_more c.args.first c.loop-p.p c.args.taken.now c.loop-p.taken low (omega (arith, lt, e, n)) c.loop-p.invariant.0, inl (omega (arith, lt)))

pub returns : goal.returns
returns c =
    let past = c.loop-p-test.false in let e = c.min-end.ensures in
    run_done c.args.first c.args.last c.loop-p.p c.args.taken.now c.loop-p.taken (omega (arith, past, e))
    (subst (λ n. (c.loop-p.p ≤ n) ⊎ (c.loop-p.p ≤ c.args.first)) e c.loop-p.invariant.1) c.loop-p.invariant.0
