use Rattle.std.proofs.Common.{◌≡◌, ◌∙◌, ap, ℕ, Vec, Global, length, arith}
use Rattle.retire.proofs.Closing.{unmarked_none, unmarked_passed, unmarked_more}
use Rattle.retire.proofs.unreferenced.unmarked.Goals as goal
use Rattle.retire.proofs.unreferenced.unmarked.Goals.{then-not-marked-k+in_ok-push, else-not-marked-k}

pub loop-k-init : goal.loop-k-init
loop-k-init c = unmarked_none c.args.marked.now c.new-positions.result.items c.new-positions.ensures.items

pub loop-k-preserved : goal.loop-k-preserved
loop-k-preserved c = elim c.if-not-marked-k.branch [
  | then-not-marked-k+in_ok-push w ↦ unmarked_more c.args.marked.now c.loop-k.k c.loop-k.positions.items c.if-not-marked-k.positions.items c.loop-k-test.true w.if-not-marked-k.true (ap (λ (v : Vec ℕ Global). v.items) w.positions-is ∙ w.in_ok-push.ensures.items) c.loop-k.invariant
  | else-not-marked-k w ↦ unmarked_passed c.args.marked.now c.loop-k.k c.loop-k.positions.items c.if-not-marked-k.positions.items c.loop-k-test.true w.if-not-marked-k.false (ap (λ (v : Vec ℕ Global). v.items) w.positions-is) c.loop-k.invariant
]

pub returns : goal.returns
returns c =
    let end : c.loop-k.k ≡ length c.args.marked.now = omega arith in
    rw end at c.loop-k.invariant
