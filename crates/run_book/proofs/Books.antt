-- What a section keeps of the book.
use Rattle.std.proofs.Common.{◌≡◌, ℕ, zero, suc, ◌<◌, ◌≤◌, Bool, true, false, List, [], ◌∷◌, ◌++◌, replicate, refl, sym, ap, ◌∙◌, subst, arith}
use Rattle.std.specs.Prelude.{◌==◌, ◌||◌, ◌%◌, not, map, slice_get, slice_set, Option, Some, None, IfSome}
use Rattle.std.specs.Option.{option_map}
use Rattle.sched_log.specs.declared.event.Event.{Event}
use Rattle.sched_log.specs.declared.event.Event.TheVariants.{Real}
use Rattle.machine.specs.States.{State}
use Rattle.machine.specs.Steps.{can_step, original_run}
use Rattle.pacing.specs.Limits.{visit_limit}
use Rattle.pacing.specs.Clocks.{clock_of}
use Rattle.pacing.specs.Bounds.{IsLimited}
use Rattle.pacing.specs.Pacing.{can_make, IsVisit}
use Rattle.pacing.specs.Serving.{Turn, NoneBefore, IsNext, Serves}
use Rattle.pacing.proofs.Serves.{next_in_turn}
use Rattle.pacing.proofs.Visits.{makes_some}
use Rattle.recorder.specs.Journals.{Journal}
use Rattle.recorder.specs.declared.marks.Marks.{Marks}
use Rattle.recorder.specs.Recording.{Recorded}
use Rattle.world.specs.Worlds.{Replaced, Related, started}
use Rattle.stop_gate.specs.Gates.{aways}
use Rattle.world.specs.Runs.{a_real_step, IsRun}
use Rattle.run_book.specs.Terms.{Terms, start_in, state_in}
use Rattle.run_book.specs.Told.{as_told, told, MakesAll}
use Rattle.run_book.specs.Visits.{GoAlong, IsPart}
use Rattle.run_book.specs.Sections.{IsMarked, IsRunOf, turn_of, AreLive, IsAmid, AreLast, ComesNext, IsChosen}
use Rattle.run_book.proofs.Alike.{same_live, same_step}
use Rattle.run_book.proofs.Entries.{told_more, run_grows, mark_visit}
use Rattle.run_book.proofs.Logs.{last_visited}

-- a recorder in which nothing changed but who is away
pub regated : (t : Terms) (w v : Recorded) → v.at ≡ w.at → v.marks ≡ w.marks → v.journal ≡ w.journal → IsLimited t.image (start_in t) t.limit (aways v.gate) (told w) → IsRunOf t w → IsRunOf t v
regated t w v at marks journal limited run =
    let same : told v ≡ told w = ap (λ (j : Journal). map as_told j.entries) journal in
    record {
      made = subst (λ es. MakesAll es (started t.image t.ring t.input) v.at) (sym same) (subst (MakesAll (told w) (started t.image t.ring t.input)) (sym at) run.made);
      begins = (run.begins.0, same ∙ run.begins.1);
      related = subst (λ es. Related v.at (state_in t es)) (sym same) (subst (λ (x : Replaced). Related x (state_in t (told w))) (sym at) run.related);
      image = ap (λ (x : Replaced). x.image) at ∙ run.image;
      marked = subst (λ es. IsMarked (clock_of es) v.at.counts.real v.marks) (sym same)
          (subst (λ (m : Marks). IsMarked (clock_of (told w)) v.at.counts.real m) (sym marks)
          (subst (λ (x : Replaced). IsMarked (clock_of (told w)) x.counts.real w.marks) (sym at) run.marked));
      closed = ap (λ (j : Journal). j.is_open) journal ∙ run.closed;
      limited = subst (IsLimited t.image (start_in t) t.limit (aways v.gate)) (sym same) limited;
    }

-- ---- a visit of hart h, of n steps, after which these harts are away
module _ (t : Terms) (w v : Recorded) (h n : ℕ) (run : IsRunOf t w) (part : IsPart false n h w v) (most : n ≤ visit_limit)
    (idle : IsLimited t.image (start_in t) t.limit (aways v.gate) (told w)) (busy : IsLimited t.image (start_in t) t.limit (aways v.gate) (told w ++ Real h n ∷ [])) where
  abbrev pub log : List Event
  log = told w

  abbrev pub before : State
  before = state_in t log

  goes : GoAlong n h w v before
  goes = part.goes before run.related

  pub visit_told : 0 < n → told v ≡ told w ++ Real h n ∷ []
  visit_told lt = told_more w v (Real h n) false (part.some lt)

  -- the run is kept, also where the visit is cut short
  pub visit_run : IsRunOf t v
  visit_run = by_count n refl
    where
      none_there : v.journal ≡ w.journal → n ≡ 0 → IsRunOf t v
      none_there same zero_now =
          let at : v.at ≡ w.at = let r = subst (λ k. IsRun (replicate k (a_real_step h)) (replicate k h) w.at v.at) zero_now part.run in r.1 in
          regated t w v at part.marks same idle run

      made_some : 0 < n → IsRunOf t v
      made_some lt =
          run_grows t w v (Real h n) run (part.some lt) part.run (subst (λ p. Related v.at (original_run p (replicate n h) before)) run.image goes.related) part.image
          (mark_visit (clock_of log) v.at.counts.real w.at.counts.real h n w.marks v.marks run.marked part.real part.marks) busy

      by_count : (k : ℕ) → n ≡ k → IsRunOf t v
      by_count zero e = none_there (part.none e) e
      by_count (suc k) e = made_some (omega (arith, e))

  -- ---- a whole visit
  module _ (full : (n == visit_limit || not (can_step h v.at.machine)) ≡ true) (can_now : can_step h w.at.machine ≡ true) where
    abbrev pub after : State
    after = original_run t.image (replicate n h) before

    related_after : Related v.at after
    related_after = subst (λ p. Related v.at (original_run p (replicate n h) before)) run.image goes.related

    is_full : (n == visit_limit || not (can_step h after)) ≡ true
    is_full = subst (λ b. (n == visit_limit || not b) ≡ true) (same_step v.at after h related_after) full

    can_before : can_step h before ≡ true
    can_before = sym (same_step w.at before h run.related) ∙ can_now

    made_some : 0 < n
    made_some = by_end (can_step h after) refl
      where
        by_end : (b : Bool) → can_step h after ≡ b → 0 < n
        by_end false e = makes_some t.image n h before can_before e
        by_end true e = grind (arith, is_full, e)

    visit : IsVisit t.image before h n
    visit = record { some = made_some; most = most; live = subst (λ p. can_make p n h before ≡ true) run.image goes.live }

    pub visit_keeps : IsNext t.workers (h % t.workers) (turn_of t (h % t.workers) log) h
        → (IsVisit t.image before h n → Serves t.image (start_in t) t.workers log h n → IsAmid t 3 v.gate (log ++ Real h n ∷ [])) → IsAmid t 3 v.gate (told v)
    visit_keeps next amid = subst (IsAmid t 3 v.gate) (sym (visit_told made_some)) (amid visit (record { full = is_full; next = next }))

    pub visit_last : (last : List (Option ℕ)) → h % t.workers < t.workers → AreLast t last log → AreLast t (slice_set last (h % t.workers) (Some h)) (told v)
    visit_last last lt are = subst (AreLast t (slice_set last (h % t.workers) (Some h))) (sym (visit_told made_some)) (last_visited t last log (h % t.workers) h n lt refl are)

-- ---- which hart is next
same_some : (x y : Option ℕ) → Some x ≡ Some y → x ≡ y
same_some x y e = cc

module _ (t : Terms) (w : Recorded) (h worker : ℕ) (last : List (Option ℕ)) (served : Option ℕ) (run : IsRunOf t w) (chosen : IsChosen t.workers worker served h w.at.machine)
    (below : worker < t.workers) (live : AreLive t (told w)) (are : AreLast t last (told w)) (is_served : slice_get last worker ≡ Some served) where
  none_before : (u : Option Turn) → served ≡ option_map (λ (x : Turn). x.hart) u → IfSome u (λ x. NoneBefore t.workers worker x.hart h (state_in t (told w)))
  none_before None is = tt
  none_before (Some u) is = λ k own comes. sym (same_live w.at (state_in t (told w)) k run.related)
      ∙ subst (λ g. ComesNext t.workers worker g h w.at.machine) is chosen.next k own comes

  pub is_next : IsNext t.workers (h % t.workers) (turn_of t (h % t.workers) (told w)) h
  is_next =
      let is : served ≡ option_map (λ (x : Turn). x.hart) (turn_of t worker (told w)) = same_some served _ (sym is_served ∙ are worker below) in
      subst (λ k. IsNext t.workers k (turn_of t k (told w)) h) (sym chosen.own)
      (next_in_turn t.workers worker h (turn_of t worker (told w)) (state_in t (told w)) (live worker) (none_before (turn_of t worker (told w)) is))
