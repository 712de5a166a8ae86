use Rattle.std.proofs.Common.{sym, ◌∙◌}
use Rattle.placer.specs.Chosen.{is_chosen}
use Rattle.placer.proofs.Chosen.{more_yes, more_no}
use Rattle.placer.proofs.choose.chosen.Goals.{then-branch+in_ok-push, else-branch}
use Rattle.placer.proofs.choose.chosen.Goals as goal

pub loop-f-preserved : goal.loop-f-preserved
loop-f-preserved c =
    elim c.if-branch.branch [
      | then-branch+in_ok-push w ↦ (
          let more = more_yes (is_chosen c.args.index.now.image.now c.args.profile.now) c.loop-f.f (sym c.in_ok-is_chosen.ensures ∙ w.if-branch.true) in
          let pushed = w.in_ok-push.ensures.items in
          let before = c.loop-f.invariant in
          let same = w.funcs-is in
          cc)
      | else-branch w ↦ (
          let more = more_no (is_chosen c.args.index.now.image.now c.args.profile.now) c.loop-f.f (sym c.in_ok-is_chosen.ensures ∙ w.if-branch.false) in
          let before = c.loop-f.invariant in
          let same = w.funcs-is in
          cc)
    ]
