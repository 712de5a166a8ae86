-- What a hart brought home, as the beginning of its visit.
use Rattle.std.proofs.Common.{◌≡◌, ℕ, zero, suc, ◌+◌, ◌^◌, ◌<◌, ◌≤◌, Bool, true, false, ◌∷◌, [], ◌++◌, replicate, refl, sym, ap, ◌∙◌, subst, arith}
use Rattle.std.specs.Prelude.{None}
use Rattle.ahead.specs.Flown.{Flown}
use Rattle.sched_log.specs.declared.event.Event.TheVariants.{Real}
use Rattle.image.specs.Picture.{Picture}
use Rattle.machine.specs.States.{State}
use Rattle.machine.specs.Steps.{can_step, step_with, original_step, original_run}
use Rattle.pacing.specs.Limits.{visit_limit}
use Rattle.pacing.specs.Pacing.{can_make}
use Rattle.recorder.specs.declared.journal.Asked.TheVariants.{RealStep}
use Rattle.recorder.specs.Journals.{noted_times, LengthensAs}
use Rattle.recorder.specs.Leaving.{with_home}
use Rattle.recorder.specs.Numbers.{raised}
use Rattle.recorder.specs.Recording.{Recorded}
use Rattle.recorder.proofs.Keeping.{reals_after}
use Rattle.recorder.proofs.Repeating.{in_new}
use Rattle.world.specs.Worlds.{Related}
use Rattle.world.specs.Runs.{a_real_step, IsRun}
use Rattle.run_book.specs.Visits.{IsPart}
use Rattle.run_book.proofs.Alike.{same_step}

-- ---- a hart that can step in the end could before each of its steps
idle : (p : Picture) (h : ℕ) (s : State) → can_step h s ≡ false → original_step p h s ≡ s
unfolding original_step step_with
idle p h s not_can = rw not_can refl

could : (p : Picture) (h : ℕ) (s : State) → can_step h (original_step p h s) ≡ true → can_step h s ≡ true
could p h s can = by_test (can_step h s) refl
  where
    by_test : (b : Bool) → can_step h s ≡ b → can_step h s ≡ true
    by_test true e = e
    by_test false e = let clash : true ≡ false = sym can ∙ ap (can_step h) (idle p h s e) ∙ e in absurd (cc)

could_first : (p : Picture) (n h : ℕ) (s : State) → can_step h (original_run p (replicate n h) s) ≡ true → can_step h s ≡ true
could_first p zero h s can = can
could_first p (suc n) h s can = could p h s (could_first p n h (original_step p h s) can)

can_by_end : (p : Picture) (n h : ℕ) (s : State) → can_step h (original_run p (replicate n h) s) ≡ true → can_make p n h s ≡ true
can_by_end p zero h s can = refl
can_by_end p (suc n) h s can = rw (could_first p (suc n) h s can) (can_by_end p n h (original_step p h s) can)

-- ---- the recorder that it came home to
not_raised : (k c n : ℕ) → n ≤ visit_limit → c + 64 < 2 ^ 64 → k ≡ raised n c → k ≡ c + n
not_raised k c n most room is = grind (arith, most, room, is)

module _ (a : Flown) (w v : Recorded) (is : v ≡ with_home a w) where
  same_image : v.at.image ≡ w.at.image
  same_image = ap (λ (x : Recorded). x.at.image) is ∙ (reals_after a.made a.hart w.at).later.image

  same_journal : a.made ≡ 0 → v.journal ≡ w.journal
  same_journal none = ap (λ (x : Recorded). x.journal) is ∙ ap (λ n. noted_times n (RealStep a.hart) w.journal) none

  module _ (ended : w.journal.is_open ≡ false) (most : a.made ≤ visit_limit) where
    one_entry : 0 < a.made → v.journal ≡ record { entries = w.journal.entries ++ Real a.hart a.made ∷ []; is_open = true }
    one_entry some =
        let new : LengthensAs (RealStep a.hart) w.journal.is_open w.journal.entries None = subst (λ b. LengthensAs (RealStep a.hart) b w.journal.entries None) (sym ended) refl in
        ap (λ (x : Recorded). x.journal) is ∙ sym (in_new (RealStep a.hart) a.made w.journal _ some (omega (arith, most)) new refl)

    -- its steps are the beginning of its visit
    pub home_part : IsRun (replicate a.made (a_real_step a.hart)) (replicate a.made a.hart) w.at v.at → w.at.counts.real + 64 < 2 ^ 64 → v.at.counts.real ≡ raised a.made w.at.counts.real
        → ((o : State) → Related w.at o → Related v.at (original_run w.at.image (replicate a.made a.hart) o)) → can_step a.hart v.at.machine ≡ true → IsPart true a.made a.hart w v
    home_part run room real follows still = record {
      run = run;
      image = same_image;
      real = not_raised v.at.counts.real w.at.counts.real a.made most room real;
      marks = ap (λ (x : Recorded). x.marks) is;
      none = same_journal;
      some = one_entry;
      goes = λ o r. record {
        related = follows o r;
        live = can_by_end w.at.image a.made a.hart o (sym (same_step v.at (original_run w.at.image (replicate a.made a.hart) o) a.hart (follows o r)) ∙ still);
      };
    }
