use Rattle.std.proofs.Common.{◌≡◌, ◌+◌, ◌∷◌, ◌∙◌, get_or, drop, drop-cons, add-one}
use Rattle.guest_sys.specs.declared.state.Waiter.{Waiter}
use Rattle.guest_sys.proofs.SplitLaws.{first_out, others_out, first_past, others_past, meets, misses, one_first, one_other}
use Rattle.guest_sys.proofs.waiting.split.Goals as goal
use Rattle.guest_sys.proofs.waiting.split.Goals.{then-left-gt0+then-waiter-at+in_ok-push, else-left-gt0+in_ok-push-2, else-left-gt0-via-then-left-gt0+else-waiter-at, else-left-gt0-via-else-left-gt0}

pub loop-waiter-preserved : goal.loop-waiter-preserved
loop-waiter-preserved c =
    let waiting = c.args.waiting.now in
    let i = c.loop-waiter.waiter-index in
    let at = c.args.at in
    let n = c.loop-waiter.left in
    let w : Waiter = get_or waiting i (record { hart = 0; at = 0 }) in
    let next = drop (i + 1) waiting in
    let is : drop i waiting ≡ w ∷ next = rw add-one (drop-cons waiting i (record { hart = 0; at = 0 }) c.loop-waiter-test.true) in
    elim c.if-left-gt0.branch [
      | then-left-gt0+then-waiter-at+in_ok-push b ↦
          one_first n c.if-left-gt0.left at w c.loop-waiter.first c.if-left-gt0.first c.loop-waiter.others c.if-left-gt0.others (drop i waiting) next _ _
          is b.if-left-gt0.true (meets at w b.if-waiter-at.true) b.left-is (b.first-is ∙ b.in_ok-push.ensures.ok) b.others-is c.loop-waiter.invariant
      | else-left-gt0+in_ok-push-2 b ↦
          rw b.left-is
          (elim b.else-left-gt0.branch [
            | else-left-gt0-via-then-left-gt0+else-waiter-at e ↦
                one_other n at w c.loop-waiter.first c.if-left-gt0.first c.loop-waiter.others c.if-left-gt0.others (drop i waiting) next _ _
                is (first_out n at w next (misses at w e.if-waiter-at.false)) (others_out n at w next (misses at w e.if-waiter-at.false))
                b.first-is (b.others-is ∙ b.in_ok-push-2.ensures.ok) c.loop-waiter.invariant
            | else-left-gt0-via-else-left-gt0 e ↦
                one_other n at w c.loop-waiter.first c.if-left-gt0.first c.loop-waiter.others c.if-left-gt0.others (drop i waiting) next _ _
                is (first_past n at w next e.if-left-gt0.false) (others_past n at w next e.if-left-gt0.false)
                b.first-is (b.others-is ∙ b.in_ok-push-2.ensures.ok) c.loop-waiter.invariant
          ])
    ]
