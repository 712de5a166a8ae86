-- Words, files and input ask for one thing.
use Rattle.std.proofs.Common.{◌≡◌, ℕ, List, Some, None, Result, Ok, Err, refl, ap, sym, subst, ◌∙◌}
use Rattle.oc_base.specs.Outside.{Disk}
use Rattle.top_call.specs.Call.{DecidesBy}
use Rattle.top_call.specs.Reading.{given_by}
use Rattle.image.specs.Picture.{Picture}
use Rattle.elf_make.specs.File.{elf_of}
use Rattle.guest_gen.proofs.OneDecision.{one_guest}
use Rattle.sched_log.specs.Script.{events_of, fault_of}
use Rattle.sched_log.specs.declared.fault.ScriptFault.{ScriptFault}
use Rattle.report.specs.declared.answer.Ended.{Ended}
use Rattle.report.specs.declared.answer.Ended.TheVariants.{Program, Script}
use Rattle.report.specs.declared.writing.Delivery.{Delivery}
use Rattle.world.specs.Worlds.{Replaced, started}
use Rattle.report.specs.Cause.{refusal_of}
use Rattle.play.specs.Decision.{Subject, HasBytes, as_read, as_generated, Asked, Given, given_with, reading_of, IsPlayed, Answers, Delivers, bad_program, bad_script, ran, play, Decides}
use Rattle.machine.specs.Start.{start_of}
use Rattle.machine.specs.declared.outcome.Outcome.TheVariants.{Unfinished}
use Rattle.delivered.specs.Building.{IsBuilt}
use Rattle.delivered.specs.Deliveries.{delivery_of}
use Rattle.delivered.proofs.Standing.{Laws, OneResult}
use Rattle.delivered.proofs.OneImage.{one_fault, no_fault, one_built}
use Rattle.delivered.proofs.OneRun.{one_end}

one_program : (subject : Subject) (p s q t : List ℕ) → HasBytes subject p s → HasBytes subject q t → p ≡ q
one_program _ _ _ _ _ (as_read p s) (as_read _ _) = refl
one_program _ _ _ _ _ (as_generated count p a) (as_generated _ q b) = a.is ∙ ap elf_of (one_guest count a.program b.program a.generated b.generated) ∙ sym b.is

one_text : (subject : Subject) (p s q t : List ℕ) → HasBytes subject p s → HasBytes subject q t → s ≡ t
one_text _ _ _ _ _ (as_read p s) (as_read _ _) = refl
one_text _ _ _ _ _ (as_generated count p a) (as_generated _ q b) = refl

module _ (laws : Laws) (one : OneResult) where
  -- an image, a script and an input have one world at the end
  one_world : (given : Given) (p q : Picture) (u v : Replaced) → IsBuilt given.program given.region p → IsBuilt given.program given.region q → IsPlayed p given.script given.input given.ring u → IsPlayed q given.script given.input given.ring v → u ≡ v
  one_world given p q u v built built' a b' =
      let b : IsPlayed p given.script given.input given.ring v = subst (λ x. IsPlayed x given.script given.input given.ring v) (sym (one_built given.program given.region p q built built')) b' in
      one_end laws one (events_of p given.script) a.played.0 b.played.0 (started p given.ring given.input) u v (start_of p given.input) (laws.start p given.ring given.input built.kept) a.played.1 b.played.1

  -- a script with a fault has one, and no run
  one_script : (given : Given) (p q : Picture) (f g : ScriptFault) → IsBuilt given.program given.region p → IsBuilt given.program given.region q → fault_of p given.script ≡ Some f → fault_of q given.script ≡ Some g → f ≡ g
  one_script given p q f g built built' a b = let e = one_built given.program given.region p q built built' in cc

  no_run : (given : Given) (p q : Picture) (f : ScriptFault) → IsBuilt given.program given.region p → IsBuilt given.program given.region q → fault_of p given.script ≡ Some f → fault_of q given.script ≡ None → ⊥
  no_run given p q f built built' a b = let e = one_built given.program given.region p q built built' in cc

  one_delivery : (given : Given) (d e : Result Delivery Ended) → Delivers given d → Delivers given e → d ≡ e
  one_delivery given _ _ (bad_program f a) (bad_program g b) = ap (λ x. Err (Program x)) (one_fault given.program given.region f g a b)
  one_delivery given _ _ (bad_program f a) (bad_script q g built b) = absurd (no_fault given.program given.region q f built a)
  one_delivery given _ _ (bad_program f a) (ran q v built b) = absurd (no_fault given.program given.region q f built a)
  one_delivery given _ _ (bad_script p f built a) (bad_program g b) = absurd (no_fault given.program given.region p g built b)
  one_delivery given _ _ (bad_script p f built a) (bad_script q g built' b) = ap (λ x. Err (Script x)) (one_script given p q f g built built' a b)
  one_delivery given _ _ (bad_script p f built a) (ran q v built' b) = absurd (no_run given p q f built built' a b.fine)
  one_delivery given _ _ (ran p u built a) (bad_program g b) = absurd (no_fault given.program given.region p g built b)
  one_delivery given _ _ (ran p u built a) (bad_script q g built' b) = absurd (no_run given q p g built' built b a.fine)
  one_delivery given _ _ (ran p u built a) (ran q v built' b) = ap (λ w. Ok (delivery_of Unfinished given.shown w)) (one_world given p q u v built built' a b)

  -- the bytes of a run are one
  one_answer : (asked : Asked) (d e : Result Delivery Ended) → Answers asked d → Answers asked e → d ≡ e
  one_answer asked d e a b =
      let program : b.program ≡ a.program = one_program asked.subject b.program b.script a.program a.script b.bytes a.bytes in
      let script : b.script ≡ a.script = one_text asked.subject b.program b.script a.program a.script b.bytes a.bytes in
      one_delivery (given_with asked.said a.program a.script asked.input) d e a.delivers
      (subst (λ p. Delivers (given_with asked.said p a.script asked.input) e) program (subst (λ s. Delivers (given_with asked.said b.program s asked.input) e) script b.delivers))

  from_one : (asked : Result Asked Ended) (d e : Result Delivery Ended) → DecidesBy play asked d → DecidesBy play asked e → d ≡ e
  from_one (Ok asked) d e a b = one_answer asked d e a b
  from_one (Err ended) d e a b = a ∙ sym b

  pub one_decision : (words : List (List ℕ)) (disk : Disk) (input : List ℕ) (d e : Result Delivery Ended) → Decides words disk input d → Decides words disk input e → d ≡ e
  one_decision words disk input d e a b = from_one (given_by refusal_of (reading_of words) disk input) d e a b
