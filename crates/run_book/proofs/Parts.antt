-- A visit, step by step.
use Rattle.std.proofs.Common.{◌≡◌, ◌≢◌, ℕ, zero, suc, ◌+◌, ◌<◌, ◌^◌, Bool, true, false, List, [], ◌∷◌, ◌++◌, append_assoc, replicate, refl, sym, ap, ◌∙◌, subst, arith}
use Rattle.std.specs.Prelude.{◌&&◌, not, is_some}
use Rattle.std.proofs.lemmas.List.{replicate_more}
use Rattle.sched_log.specs.declared.event.Event.TheVariants.{Real}
use Rattle.image.specs.Picture.{Picture}
use Rattle.machine.specs.Harts.{is_live, hart_in}
use Rattle.machine.specs.States.{State}
use Rattle.machine.specs.Steps.{can_step, original_step, original_run}
use Rattle.machine.proofs.Stays.{run_append}
use Rattle.sim_laws.specs.declared.stepped.Stepped.{Stepped}
use Rattle.sim_laws.specs.declared.stepped.Stepped.TheVariants as kind
use Rattle.world.specs.Worlds.{Replaced, Related, more}
use Rattle.world.specs.Runs.{Atom, a_real_step, IsRun, harts_of, of_real, real_step_of, real_kind_of}
use Rattle.world.proofs.Stepping.{until_image}
use Rattle.pacing.specs.Limits.{visit_limit}
use Rattle.pacing.proofs.Visits.{makes_more}
use Rattle.recorder.specs.declared.journal.Asked.TheVariants.{RealStep}
use Rattle.recorder.specs.Journals.{noted, closed}
use Rattle.recorder.specs.Recording.{Recorded}
use Rattle.recorder.proofs.Counting.{first_noted, further_noted}
use Rattle.run_book.specs.Visits.{GoAlong, IsPart}
use Rattle.run_book.proofs.Alike.{same_step}

run_then : (first later : List Atom) (hs ks : List ℕ) (w u v : Replaced) → IsRun first hs w u → IsRun later ks u v → IsRun (first ++ later) (hs ++ ks) w v
run_then [] later hs ks w u v r s = rw (r.0) (subst (λ x. IsRun later ks x v) r.1 s)
run_then (a ∷ first) later hs ks w u v r s =
    (r.0, r.1 ++ ks, r.2, ap (λ x. x ++ ks) r.3 ∙ append_assoc (harts_of a w) r.1 ks, run_then first later r.1 ks r.0 u v r.4 s)

one_real : (h : ℕ) (w v : Replaced) → v ≡ real_step_of h w → real_kind_of h w ≡ kind.Real → IsRun (a_real_step h ∷ []) (h ∷ []) w v
one_real h w v is real = (v, [], is, sym (ap (λ k. of_real k h ++ []) real), (refl, refl))

steps_then : (n h : ℕ) (w u v : Replaced) → IsRun (replicate n (a_real_step h)) (replicate n h) w u → v ≡ real_step_of h u → real_kind_of h u ≡ kind.Real
    → IsRun (replicate (n + 1) (a_real_step h)) (replicate (n + 1) h) w v
steps_then n h w u v r is real =
    subst (λ hs. IsRun (replicate (n + 1) (a_real_step h)) hs w v) (replicate_more n h)
    (subst (λ xs. IsRun xs (replicate n h ++ h ∷ []) w v) (replicate_more n (a_real_step h))
    (run_then (replicate n (a_real_step h)) (a_real_step h ∷ []) (replicate n h) (h ∷ []) w u v r (one_real h u v is real)))

pub real_kind : (k : Stepped) → k ≢ kind.Layout → (k ≡ kind.Over → ⊥) → k ≡ kind.Real
real_kind kind.Real a b = refl
real_kind kind.Layout a b = absurd (a refl)
real_kind kind.Over a b = absurd (b refl)

-- one more step of the original machine
run_more : (p : Picture) (n h : ℕ) (o : State) → original_run p (replicate (n + 1) h) o ≡ original_step p h (original_run p (replicate n h) o)
run_more p n h o = ap (λ hs. original_run p hs o) (sym (replicate_more n h)) ∙ run_append p (replicate n h) (h ∷ []) o

goes_on : (can over : Bool) (live : Bool) → (not over && live) ≡ can → can ≡ true → over ≡ false
goes_on can over live is can_go = grind (arith, is, can_go)

pub not_over : (h : ℕ) (s : State) → can_step h s ≡ true → is_some s.outcome ≡ false
not_over h s can = goes_on true (is_some s.outcome) (is_live (hart_in s.harts h).status) can refl

pub none_made : (h : ℕ) (w : Recorded) → IsPart true 0 h w w
none_made h w = record {
  run = (refl, refl);
  image = refl;
  real = omega arith;
  marks = refl;
  none = λ _. refl;
  some = λ lt. absurd (omega (arith, lt));
  goes = λ o r. record { related = r; live = refl };
}

pub one_made : (n h : ℕ) (w u v : Recorded) → w.journal.is_open ≡ false → n < visit_limit → w.at.counts.real + 64 < 2 ^ 64 → IsPart true n h w u → can_step h u.at.machine ≡ true
    → v.at ≡ real_step_of h u.at → real_kind_of h u.at ≡ kind.Real → v.journal ≡ noted false (RealStep h) u.journal → v.marks ≡ u.marks → v.at.counts.real ≡ more u.at.counts.real
    → ((o : State) → Related u.at o → Related v.at (original_step u.at.image h o)) → IsPart true (n + 1) h w v
one_made n h w u v ended below room e can is real log stays counts follows = record {
  run = steps_then n h w.at u.at v.at e.run is real;
  image = ap (λ (x : Replaced). x.image) is ∙ until_image 3 h u.at ∙ e.image;
  real = more_real u.at.counts.real e.real counts;
  marks = stays ∙ e.marks;
  none = λ z. absurd (omega (arith, z));
  some = λ _. log ∙ by_count n below e;
  goes = λ o r. goes_more o (e.goes o r);
}
  where
    more_real : (k : ℕ) → k ≡ w.at.counts.real + n → v.at.counts.real ≡ more k → v.at.counts.real ≡ w.at.counts.real + (n + 1)
    more_real k is_k is_v = grind (arith, is_k, is_v, room, below)

    by_count : (n : ℕ) → n < visit_limit → IsPart true n h w u → noted false (RealStep h) u.journal ≡ record { entries = w.journal.entries ++ Real h (n + 1) ∷ []; is_open = true }
    by_count zero lt e =
        ap (noted false (RealStep h)) (e.none refl)
        ∙ subst (λ (b : Bool). noted false (RealStep h) (record { entries = w.journal.entries; is_open = b }) ≡ record { entries = w.journal.entries ++ Real h 1 ∷ []; is_open = true }) (sym ended)
        (first_noted (RealStep h) w.journal.entries)
    by_count (suc n) lt e = ap (noted false (RealStep h)) (e.some (omega arith)) ∙ further_noted (RealStep h) (suc n) w.journal.entries (omega (arith, lt))

    goes_more : (o : State) → GoAlong n h w u o → GoAlong (n + 1) h w v o
    goes_more o g =
        let s = original_run w.at.image (replicate n h) o in
        record {
          related = subst (Related v.at) (sym (run_more w.at.image n h o)) (subst (λ p. Related v.at (original_step p h s)) e.image (follows s g.related));
          live = makes_more w.at.image n h o g.live (sym (same_step u.at s h g.related) ∙ can);
        }

pub part_ended : (n h : ℕ) (w u v : Recorded) → w.journal.is_open ≡ false → IsPart true n h w u → v ≡ record u { journal = closed u.journal } → IsPart false n h w v
part_ended n h w u v ended e is = rw is (record {
  run = e.run;
  image = e.image;
  real = e.real;
  marks = e.marks;
  none = λ z. ap closed (e.none z) ∙ ap (λ (b : Bool). record w.journal { is_open = b }) (sym ended);
  some = λ lt. ap closed (e.some lt);
  goes = λ o r. (let g = e.goes o r in record { related = g.related; live = g.live });
})
