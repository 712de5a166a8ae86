-- A retirement and a replacement, one after the other.
use Rattle.std.proofs.Common.{◌≡◌, ℕ, false, List, [], ◌∷◌, ◌++◌, refl, sym, ap, ◌∙◌, subst}
use Rattle.std.specs.Prelude.{is_some, Option, Result, Ok, Err, IfErr}
use Rattle.plans.specs.declared.plan.Moved.{Moved}
use Rattle.sched_log.specs.declared.event.Event.TheVariants.{Replace, Given, Retire}
use Rattle.sched_log.specs.declared.facts.Refusal.{Refusal}
use Rattle.sched_log.specs.declared.facts.Refusal.TheVariants as refusal
use Rattle.machine.specs.States.{State}
use Rattle.world.specs.Worlds.{Related}
use Rattle.world.specs.Replacing.{Attempts}
use Rattle.world.specs.Retiring.{RetiresAs}
use Rattle.recorder.specs.Marking.{attempted}
use Rattle.recorder.specs.Journals.{entered, is_left_out}
use Rattle.recorder.specs.Recording.{Recorded}
use Rattle.stop_gate.specs.Gates.{Gated}
use Rattle.run_book.specs.Terms.{Terms, AreFair}
use Rattle.run_book.specs.Told.{told}
use Rattle.run_book.specs.Sections.{IsRunOf, FitsNow, IsAmid, IsAtRest, AreLast}
use Rattle.run_book.proofs.Entries.{retire_run, retire_told, retire_on, retire_fits, replace_run, replace_told}
use Rattle.run_book.proofs.Logs.{attempt_rests, last_more}

module _ (w u v : Recorded) (plan : List Moved) (n : ℕ) (answer : Result Unit Refusal) (goes_on : is_some w.at.machine.outcome ≡ false) (fits : FitsNow plan w)
    (gone : RetiresAs w.at (is_some w.at.machine.outcome) (Ok n) u.at) (gone_log : u.journal ≡ entered (is_some w.at.machine.outcome) Retire w.journal) (gone_marks : u.marks ≡ w.marks)
    (gone_follows : (o : State) → Related w.at o → Related u.at o) (gone_gate : u.gate ≡ w.gate) where
  retired : (t : Terms) → IsRunOf t w → IsRunOf t u
  retired t run = retire_run t w u run goes_on gone_follows gone_gate n gone gone_log gone_marks

  -- nothing more where memory ran out
  module _ (is_answer : answer ≡ Err refusal.NoMemory) (err : IfErr answer (λ why. why ≡ refusal.NoMemory → v ≡ u)) where
    same : v ≡ u
    same = (subst (λ a. IfErr a (λ why. why ≡ refusal.NoMemory → v ≡ u)) is_answer err) refl

    pub cut_run : (t : Terms) → IsRunOf t w → IsRunOf t v
    cut_run t run = subst (IsRunOf t) (sym same) (retired t run)

    pub cut_last : (t : Terms) (last : List (Option ℕ)) → IsRunOf t w → AreLast t last (told w) → AreLast t last (told v)
    cut_last t last run are =
        subst (λ (x : Recorded). AreLast t last (told x)) (sym same)
        (subst (AreLast t last) (sym (retire_told t w u run goes_on gone_follows gone_gate n gone gone_log gone_marks)) (last_more t last (told w) Retire (λ worker. refl) are))

  module _ (is : Attempts plan u.at (is_some u.at.machine.outcome) answer v.at) (log : v.journal ≡ entered (is_left_out (is_some u.at.machine.outcome) answer) (Given plan) u.journal)
      (marks : v.marks ≡ attempted (is_left_out (is_some u.at.machine.outcome) answer) u.at.counts.real u.marks) (follows : (o : State) → Related u.at o → Related v.at o) (gate : v.gate ≡ u.gate)
      (in_time : is_left_out false answer ≡ false) where
    module _ (t : Terms) (run : IsRunOf t w) where
      on : is_some u.at.machine.outcome ≡ false
      on = retire_on t w u run goes_on gone_follows gone_gate n gone gone_log gone_marks

      fit : FitsNow plan u
      fit = retire_fits t w u run goes_on gone_follows gone_gate n gone gone_log gone_marks plan fits

      pub made_run : IsRunOf t v
      made_run = replace_run t u v (retired t run) on follows gate plan answer fit.is fit.given is log marks in_time

      made_told : told v ≡ (told w ++ Retire ∷ []) ++ Replace ∷ []
      made_told =
          replace_told t u v (retired t run) on follows gate plan answer fit.is fit.given is log marks in_time
          ∙ ap (λ es. es ++ Replace ∷ []) (retire_told t w u run goes_on gone_follows gone_gate n gone gone_log gone_marks)

      pub made_rests : (spare : ℕ) → w.gate.wanted ≡ false → AreFair t → IsAmid t spare w.gate (told w) → IsAtRest t v.gate (told v)
      made_rests spare calm fair a =
          subst (λ (g : Gated). IsAtRest t g (told v)) (sym (gate ∙ gone_gate))
          (subst (IsAtRest t w.gate) (sym made_told)
          (subst (λ b. IsAtRest t (record { away = w.gate.away; wanted = b }) ((told w ++ Retire ∷ []) ++ Replace ∷ [])) (sym calm)
          (attempt_rests t spare w.gate (told w) fair.some_steps (run.marked.pending ∙ fits.pending) a)))

      pub made_last : (last : List (Option ℕ)) → AreLast t last (told w) → AreLast t last (told v)
      made_last last are =
          subst (AreLast t last) (sym made_told)
          (last_more t last (told w ++ Retire ∷ []) Replace (λ worker. refl) (last_more t last (told w) Retire (λ worker. refl) are))
