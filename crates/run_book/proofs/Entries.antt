-- A run whose log grows by an entry.
use Rattle.std.proofs.Common.{◌≡◌, ℕ, ◌+◌, Bool, false, List, [], ◌∷◌, ◌++◌, refl, sym, ap, ◌∙◌, subst, append_assoc}
use Rattle.std.specs.Prelude.{is_some, map, None, Result, Ok}
use Rattle.std.proofs.lemmas.List.{map-append}
use Rattle.placer.specs.Planned.{IsPlanFor}
use Rattle.plans.specs.declared.plan.Moved.{Moved}
use Rattle.plans.specs.Given.{plan_fault}
use Rattle.sched_log.specs.declared.event.Event.{Event}
use Rattle.sched_log.specs.declared.event.Event.TheVariants.{Real, Snap, Replace, Given, Retire}
use Rattle.sched_log.specs.declared.facts.Refusal.{Refusal}
use Rattle.machine.specs.States.{State}
use Rattle.machine.specs.Steps.{original_run}
use Rattle.world.specs.Worlds.{Replaced, Related, started}
use Rattle.world.specs.Runs.{Atom, a_snap, a_retirement, a_replacement, IsRun}
use Rattle.world.specs.Replacing.{Attempts}
use Rattle.world.specs.Retiring.{RetiresAs, IsRetired}
use Rattle.world.specs.Records.{SnapsAs}
use Rattle.world.proofs.Running.{made_image}
use Rattle.pacing.specs.Logs.{steps_in}
use Rattle.pacing.specs.Clocks.{Clock, tick, zero_clock, clock_of}
use Rattle.pacing.specs.Bounds.{IsLimited}
use Rattle.pacing.proofs.Growing.{state-snoc, clock-snoc}
use Rattle.recorder.specs.declared.marks.Marks.{Marks}
use Rattle.recorder.specs.Marking.{snapped, attempted}
use Rattle.recorder.specs.Journals.{Journal, entered, is_left_out}
use Rattle.recorder.specs.Recording.{Recorded}
use Rattle.recorder.proofs.Adding.{Adds, snap_adds, retirement_adds, attempt_adds}
use Rattle.recorder.proofs.Reaching.{snap_real, retirement_real, attempt_real}
use Rattle.run_book.specs.Terms.{Terms, start_in, state_in}
use Rattle.stop_gate.specs.Gates.{Gated, aways}
use Rattle.run_book.specs.Told.{as_told, told, Makes, MakesAll}
use Rattle.run_book.specs.Sections.{IsMarked, IsRunOf, FitsNow}
use Rattle.run_book.proofs.Logs.{limit_retires, limit_replaces, limit_snapped}

makes_more : (es : List Event) (e : Event) (w u v : Replaced) → MakesAll es w u → Makes e u v → MakesAll (es ++ e ∷ []) w v
makes_more [] e w u v r m = (v, subst (λ x. Makes e x v) r m, refl)
makes_more (d ∷ es) e w u v r m = (r.0, r.1, makes_more es e r.0 u v r.2 m)

-- an entry of the journal is told as one
pub told_more : (w v : Recorded) (d : Event) (b : Bool) → v.journal ≡ record { entries = w.journal.entries ++ d ∷ []; is_open = b } → told v ≡ told w ++ as_told d ∷ []
told_more w v d b is = ap (λ (j : Journal). map as_told j.entries) is ∙ map-append as_told w.journal.entries (d ∷ [])

module _ (t : Terms) (w v : Recorded) (d : Event) (run : IsRunOf t w) (log : v.journal ≡ record { entries = w.journal.entries ++ d ∷ []; is_open = false }) where
  pub run_grows : Makes (as_told d) w.at v.at → Related v.at (original_run t.image (steps_in (as_told d)) (state_in t (told w))) → v.at.image ≡ w.at.image
      → IsMarked (tick (clock_of (told w)) (as_told d)) v.at.counts.real v.marks → IsLimited t.image (start_in t) t.limit (aways v.gate) (told w ++ as_told d ∷ []) → IsRunOf t v
  run_grows makes related image marked limited =
      let same : told v ≡ told w ++ as_told d ∷ [] = told_more w v d false log in
      record {
        made = subst (λ es. MakesAll es (started t.image t.ring t.input) v.at) (sym same) (makes_more (told w) (as_told d) (started t.image t.ring t.input) w.at v.at run.made makes);
        begins = (run.begins.0 ++ as_told d ∷ [], same ∙ ap (λ es. es ++ as_told d ∷ []) run.begins.1 ∙ append_assoc t.begins run.begins.0 (as_told d ∷ []));
        related = subst (λ es. Related v.at (state_in t es)) (sym same)
            (subst (Related v.at) (sym (state-snoc t.image (start_in t) (told w) (as_told d))) related);
        image = image ∙ run.image;
        marked = subst (λ es. IsMarked (clock_of es) v.at.counts.real v.marks) (sym same)
            (subst (λ (c : Clock). IsMarked c v.at.counts.real v.marks) (sym (clock-snoc zero_clock (told w) (as_told d))) marked);
        closed = ap (λ (j : Journal). j.is_open) log;
        limited = subst (λ es. IsLimited t.image (start_in t) t.limit (aways v.gate) es) (sym same) limited;
      }

-- ---- the clock
mark_snap : (c : Clock) (k real : ℕ) (m n : Marks) → IsMarked c real m → k ≡ real → n ≡ snapped false real m → IsMarked (tick c Snap) k n
mark_snap c k real m n is same marks = rw (same, marks) (record { real_is = is.real_is; attempted_at = is.attempted_at; snapped_at = is.real_is; pending = refl })

mark_replace : (c : Clock) (k real : ℕ) (m n : Marks) → IsMarked c real m → k ≡ real → n ≡ attempted false real m → IsMarked (tick c Replace) k n
mark_replace c k real m n is same marks = rw (same, marks) (record { real_is = is.real_is; attempted_at = is.real_is; snapped_at = is.snapped_at; pending = refl })

mark_retire : (c : Clock) (k real : ℕ) (m n : Marks) → IsMarked c real m → k ≡ real → n ≡ m → IsMarked (tick c Retire) k n
mark_retire c k real m n is same marks = rw (same, marks) (record { real_is = is.real_is; attempted_at = is.attempted_at; snapped_at = is.snapped_at; pending = is.pending })

pub mark_visit : (c : Clock) (k real h n : ℕ) (m o : Marks) → IsMarked c real m → k ≡ real + n → o ≡ m → IsMarked (tick c (Real h n)) k o
mark_visit c k real h n m o is same marks =
    rw (same, marks) (record { real_is = ap (λ x. x + n) is.real_is; attempted_at = is.attempted_at; snapped_at = is.snapped_at; pending = is.pending })

-- ---- one atom, with no real step
one_atom : (a : Atom) (w v : Replaced) → Adds false a [] w v → IsRun (a ∷ []) [] w v
one_atom a w v adds = (v, [], adds.1, ap (λ hs. hs ++ []) adds.0, (refl, refl))

module _ (t : Terms) (w v : Recorded) (run : IsRunOf t w) (goes_on : is_some w.at.machine.outcome ≡ false) (follows : (o : State) → Related w.at o → Related v.at o) (gate : v.gate ≡ w.gate) where
  as_many_away : (log : List Event) → IsLimited t.image (start_in t) t.limit (aways w.gate) log → IsLimited t.image (start_in t) t.limit (aways v.gate) log
  as_many_away log l = subst (λ (g : Gated). IsLimited t.image (start_in t) t.limit (aways g) log) (sym gate) l

  -- ---- a snapshot
  module _ (u : Unit {0}) (is : SnapsAs w.at (is_some w.at.machine.outcome) (Ok u) v.at) (log : v.journal ≡ entered (is_some w.at.machine.outcome) Snap w.journal)
      (marks : v.marks ≡ snapped (is_some w.at.machine.outcome) w.at.counts.real w.marks) where
    snap_entry : v.journal ≡ record { entries = w.journal.entries ++ Snap ∷ []; is_open = false }
    snap_entry = subst (λ b. v.journal ≡ entered b Snap w.journal) goes_on log

    snap_made : Adds false a_snap [] w.at v.at
    snap_made = subst (λ b. Adds b a_snap [] w.at v.at) goes_on (snap_adds w.at v.at u is)

    pub snap_told : told v ≡ told w ++ Snap ∷ []
    snap_told = told_more w v Snap false snap_entry

    pub snap_run : IsRunOf t v
    snap_run =
        run_grows t w v Snap run snap_entry (one_atom a_snap w.at v.at snap_made) (follows (state_in t (told w)) run.related) (made_image a_snap w.at v.at snap_made.1)
        (mark_snap (clock_of (told w)) v.at.counts.real w.at.counts.real w.marks v.marks run.marked (snap_real w.at v.at (is_some w.at.machine.outcome) (Ok u) is)
        (subst (λ b. v.marks ≡ snapped b w.at.counts.real w.marks) goes_on marks))
        (as_many_away (told w ++ Snap ∷ []) (limit_snapped t (aways w.gate) (told w) run.limited))

  -- ---- a retirement
  module _ (n : ℕ) (is : RetiresAs w.at (is_some w.at.machine.outcome) (Ok n) v.at) (log : v.journal ≡ entered (is_some w.at.machine.outcome) Retire w.journal)
      (marks : v.marks ≡ w.marks) where
    retire_entry : v.journal ≡ record { entries = w.journal.entries ++ Retire ∷ []; is_open = false }
    retire_entry = subst (λ b. v.journal ≡ entered b Retire w.journal) goes_on log

    retire_made : Adds false a_retirement [] w.at v.at
    retire_made = subst (λ b. Adds b a_retirement [] w.at v.at) goes_on (retirement_adds w.at v.at n is)

    pub retire_told : told v ≡ told w ++ Retire ∷ []
    retire_told = told_more w v Retire false retire_entry

    pub retire_run : IsRunOf t v
    retire_run =
        run_grows t w v Retire run retire_entry (one_atom a_retirement w.at v.at retire_made) (follows (state_in t (told w)) run.related) (made_image a_retirement w.at v.at retire_made.1)
        (mark_retire (clock_of (told w)) v.at.counts.real w.at.counts.real w.marks v.marks run.marked (retirement_real w.at v.at (is_some w.at.machine.outcome) (Ok n) is) marks)
        (as_many_away (told w ++ Retire ∷ []) (limit_retires t (aways w.gate) (told w) run.limited))

    retired_is : IsRetired w.at v.at n
    retired_is = subst (λ b. RetiresAs w.at b (Ok n) v.at) goes_on is

    pub retire_on : is_some v.at.machine.outcome ≡ false
    retire_on = ap (λ (x : Replaced). is_some x.machine.outcome) retired_is.is ∙ goes_on

    pub retire_fits : (plan : List Moved) → FitsNow plan w → FitsNow plan v
    retire_fits plan fits = record {
      is = subst (λ (x : Replaced). IsPlanFor x.image x.snapshot plan) (sym retired_is.is) fits.is;
      given = subst (λ (x : Replaced). plan_fault x.image plan ≡ None) (sym retired_is.is) fits.given;
      pending = ap (λ (m : Marks). m.pending) marks ∙ fits.pending;
    }

  -- ---- an attempt that isn't left out
  module _ (plan : List Moved) (answer : Result Unit Refusal) (right : IsPlanFor w.at.image w.at.snapshot plan) (given : plan_fault w.at.image plan ≡ None)
      (is : Attempts plan w.at (is_some w.at.machine.outcome) answer v.at) (log : v.journal ≡ entered (is_left_out (is_some w.at.machine.outcome) answer) (Given plan) w.journal)
      (marks : v.marks ≡ attempted (is_left_out (is_some w.at.machine.outcome) answer) w.at.counts.real w.marks) (in_time : is_left_out false answer ≡ false) where
    not_left : is_left_out (is_some w.at.machine.outcome) answer ≡ false
    not_left = ap (λ b. is_left_out b answer) goes_on ∙ in_time

    replace_entry : v.journal ≡ record { entries = w.journal.entries ++ Given plan ∷ []; is_open = false }
    replace_entry = subst (λ b. v.journal ≡ entered b (Given plan) w.journal) not_left log

    replace_made : Adds false (a_replacement plan) [] w.at v.at
    replace_made = subst (λ b. Adds b (a_replacement plan) [] w.at v.at) not_left (attempt_adds plan w.at v.at answer given is)

    pub replace_told : told v ≡ told w ++ Replace ∷ []
    replace_told = told_more w v (Given plan) false replace_entry

    pub replace_run : IsRunOf t v
    replace_run =
        run_grows t w v (Given plan) run replace_entry (plan, right, one_atom (a_replacement plan) w.at v.at replace_made) (follows (state_in t (told w)) run.related)
        (made_image (a_replacement plan) w.at v.at replace_made.1)
        (mark_replace (clock_of (told w)) v.at.counts.real w.at.counts.real w.marks v.marks run.marked (attempt_real plan w.at v.at (is_some w.at.machine.outcome) answer is)
        (subst (λ b. v.marks ≡ attempted b w.at.counts.real w.marks) not_left marks))
        (as_many_away (told w ++ Replace ∷ []) (limit_replaces t (aways w.gate) (told w) run.limited))
