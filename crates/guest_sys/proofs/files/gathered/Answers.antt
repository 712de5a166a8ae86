use Rattle.std.proofs.Common.{get_or, ◌-◌, ◌<◌, ◌≤◌, length, add-one, drop-cons, ◌∙◌, arith}
use Rattle.guest_sys.proofs.FileLaws.{too_long, one_more}
use Rattle.guest_sys.proofs.files.gathered.Goals as goal

pub returns-then-part-room : goal.returns-then-part-room
returns-then-part-room g c =
    let at_part = rw (drop-cons c.args.parts.now c.loop-part.part-index (0, 0) c.loop-part-test.true) at c.loop-part.invariant.0 in
    let long : c.args.room - length c.loop-part.bytes < (get_or c.args.parts.now c.loop-part.part-index (0, 0)).1 = omega arith in
    too_long _ _ _ (get_or c.args.parts.now c.loop-part.part-index (0, 0)) _ _ at_part c.loop-part.invariant.1 long

pub loop-part-preserved : goal.loop-part-preserved
loop-part-preserved g c =
    let at_part = rw (drop-cons c.args.parts.now c.loop-part.part-index (0, 0) c.loop-part-test.true) at c.loop-part.invariant.0 in
    let short : (get_or c.args.parts.now c.loop-part.part-index (0, 0)).1 ≤ c.args.room - length c.loop-part.bytes = omega arith in
    rw (c.in_ok-extend_from_slice.ensures.ok, add-one) (one_more _ _ _ _ (get_or c.args.parts.now c.loop-part.part-index (0, 0)) _ _ at_part c.loop-part.invariant.1 short (c.deref.ensures.value ∙ c.in-Ok.ensures.ok))
