use Rattle.std.proofs.Common.{◌+◌, ◌-◌, drop, take, get_or, length, ◌≡◌, refl, arith}
use Rattle.std.proofs.lemmas.Grind.{common_steps}
use Rattle.emit.specs.Entries.{calls_of}
use Rattle.emit.proofs.Ordered.{runs_more}
use Rattle.emit.proofs.unplaced.push_runs.Goals as goal

pub loop-i-preserved : goal.loop-i-preserved
loop-i-preserved g c =
    let rest : take (length c.args.m.now.order.now - (c.loop-i.i + 1)) (drop (c.loop-i.i + 1) c.args.m.now.order.now) ≡ drop (c.loop-i.i + 1) c.args.m.now.order.now = grind (arith, common_steps) in
    runs_more (calls_of c.args.c.now.image.now c.args.c.now.parts.now) c.args.m.now.func (g.F.Far.far c.args.far.now) c.args.m.now.runs.now c.args.m.now.order.now c.loop-i.i
    (get_or c.args.m.now.order.now c.loop-i.i 0) c.index-runs-order.result _ c.first_from-next.result c.loop-i.out.items c.push_run.new.out.items _
    c.loop-i-test.true refl (c.args.m.now.each c.loop-i.i 0 c.loop-i-test.true) c.index-runs-order.is rest c.first_from-next.ensures c.in_ok-push_run.ensures c.loop-i.invariant
