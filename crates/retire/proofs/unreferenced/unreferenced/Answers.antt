use Rattle.std.proofs.Common.{◌++◌, sym, ap, subst, Bool, List, length, arith}
use Rattle.std.proofs.lemmas.Result.{IfOk-weaker}
use Rattle.layout.specs.Laid.{Laid}
use Rattle.retire.specs.Marks.{AreReferred}
use Rattle.retire.proofs.Closing.{unreferenced}
use Rattle.retire.proofs.unreferenced.unreferenced.Goals as goal

pub unmarked-requires : goal.unmarked-requires
unmarked-requires c =
    let size = ap length c.deref.ensures.value in
    let lives = ap length c.in_ok-index.ensures in
    omega (arith, size, lives, c.in_ok-marked.ensures.size, c.requires.few)

pub returns : goal.returns
returns c =
    let held = c.args.pcs.now ++ c.args.links.now ++ c.args.aims.now in
    let marked : AreReferred c.args.lives.now held c.deref.result.now =
    subst (λ (bs : List Bool). AreReferred c.args.lives.now held bs) (sym c.deref.ensures.value)
    (subst (λ (ls : List Laid). AreReferred ls held c.in_ok-marked.marked.items) c.in_ok-index.ensures c.in_ok-marked.ensures) in
    IfOk-weaker c.unmarked.result _ _ (λ v u. unreferenced c.args.lives.now held c.deref.result.now v.items marked u) c.unmarked.ensures
