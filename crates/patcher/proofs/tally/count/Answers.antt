use Rattle.std.proofs.Common.{◌≡◌, ◌+◌, List, [], ◌∷◌, ◌++◌, take, sym, ◌∙◌, ap, subst}
use Rattle.std.proofs.lemmas.List.{take_more}
use Rattle.patcher.specs.declared.goal.Call.{Call}
use Rattle.patcher.specs.Calls.{IsTally}
use Rattle.patcher.proofs.Tallies.{one_more}
use Rattle.patcher.proofs.tally.count.Goals as goal

pub loop-call-preserved : goal.loop-call-preserved
loop-call-preserved c =
    let e : take (c.loop-call.call-index + 1) c.args.calls.now ≡ take c.loop-call.call-index c.args.calls.now ++ c.call-item.result ∷ [] =
    take_more c.args.calls.now c.loop-call.call-index c.call-item.result c.loop-call-test.true ∙ ap (λ (x : Call). take c.loop-call.call-index c.args.calls.now ++ x ∷ []) (sym c.call-item.is) in
    subst (λ (cs : List Call). IsTally cs c.note.new.self.patches.items c.note.new.self.out) (sym e)
    (one_more (take c.loop-call.call-index c.args.calls.now) c.call-item.result c.loop-call.noted.patches.items c.note.new.self.patches.items c.loop-call.noted.out c.note.new.self.out c.loop-call.invariant c.in_ok-note.ensures)
