use Rattle.std.proofs.Common.{◌≡◌, false, is_some, refl, sym, ap, ◌∙◌, subst}
use Rattle.sched_log.specs.declared.event.Event.TheVariants.{Snap}
use Rattle.recorder.specs.Marking.{due_of}
use Rattle.recorder.specs.declared.marks.Due.TheVariants as due
use Rattle.stop_gate.specs.Gates.{Gated}
use Rattle.run_book.specs.Sections.{IsAtRest, AreLast}
use Rattle.run_book.specs.Told.{told}
use Rattle.run_book.specs.Terms.{state_in}
use Rattle.run_book.proofs.Alike.{same_over}
use Rattle.run_book.proofs.Entries.{snap_run, snap_told}
use Rattle.run_book.proofs.Owed.{owed, not_owed}
use Rattle.run_book.proofs.Logs.{snap_rests, last_more}
use Rattle.run_book.proofs.settle.settle.Goals as goal

pub returns-in_ok-snap-in-Snap-clause-run : goal.returns-in_ok-snap-in-Snap-clause-run
returns-in_ok-snap-in-Snap-clause-run c t run =
    let on : is_some c.args.world.now.at.machine.outcome ≡ false = let a = c.outcome.ensures in let b = c.is_some.ensures in let d = c.if-is_some.false in let e = c.world.ensures in cc in
    snap_run t c.args.world.now c.snap.new.self run on c.snap.ensures.related c.snap.ensures.gate _ c.in_ok-snap-in-Snap.ensures.is c.in_ok-snap-in-Snap.ensures.journal c.in_ok-snap-in-Snap.ensures.marks

pub returns-in_ok-snap-in-Snap-clause-rests : goal.returns-in_ok-snap-in-Snap-clause-rests
returns-in_ok-snap-in-Snap-clause-rests c t every fair run amid =
    let w = c.args.world.now in
    let on : is_some w.at.machine.outcome ≡ false = let a = c.outcome.ensures in let b = c.is_some.ensures in let d = c.if-is_some.false in let e = c.world.ensures in cc in
    let is_due : due_of c.args.every w.at.counts.real w.marks ≡ due.Snap = sym c.due.ensures ∙ c.in-Snap.is in
    let due_now : due_of t.every w.at.counts.real w.marks ≡ due.Snap = ap (λ n. due_of n w.at.counts.real w.marks) (sym every) ∙ is_due in
    subst (λ (g : Gated). IsAtRest t g (told c.snap.new.self)) (sym c.snap.ensures.gate)
    (subst (IsAtRest t w.gate) (sym (snap_told t w c.snap.new.self run on c.snap.ensures.related c.snap.ensures.gate _ c.in_ok-snap-in-Snap.ensures.is c.in_ok-snap-in-Snap.ensures.journal c.in_ok-snap-in-Snap.ensures.marks))
    (snap_rests t w.gate (told w) fair.some_steps
    (owed t.every w.at.counts.real w.marks _ (state_in t (told w)) run.marked (sym (same_over w.at (state_in t (told w)) run.related) ∙ on) due_now) amid))

pub returns-in_ok-snap-in-Snap-clause-last : goal.returns-in_ok-snap-in-Snap-clause-last
returns-in_ok-snap-in-Snap-clause-last c t last run are =
    let w = c.args.world.now in
    let on : is_some w.at.machine.outcome ≡ false = let a = c.outcome.ensures in let b = c.is_some.ensures in let d = c.if-is_some.false in let e = c.world.ensures in cc in
    subst (AreLast t last) (sym (snap_told t w c.snap.new.self run on c.snap.ensures.related c.snap.ensures.gate _ c.in_ok-snap-in-Snap.ensures.is c.in_ok-snap-in-Snap.ensures.journal c.in_ok-snap-in-Snap.ensures.marks))
    (last_more t last (told w) Snap (λ worker. refl) are)

pub returns-in_ok-catch_up-in_default-clause-rests : goal.returns-in_ok-catch_up-in_default-clause-rests
returns-in_ok-catch_up-in_default-clause-rests c t every fair run amid =
    let w = c.args.world.now in
    let on : is_some w.at.machine.outcome ≡ false = let a = c.outcome.ensures in let b = c.is_some.ensures in let d = c.if-is_some.false in let e = c.world.ensures in cc in
    c.in_ok-catch_up-in_default.ensures.rests t 3 every fair run
    (not_owed t.every w.at.counts.real w.marks _ (state_in t (told w)) run.marked (sym (same_over w.at (state_in t (told w)) run.related) ∙ on)
    (λ is. c.in_default.not-Snap (c.due.ensures ∙ ap (λ n. due_of n w.at.counts.real w.marks) every ∙ is))) amid
