-- A world that was the run of its log is so after each call.
use Rattle.std.proofs.Common.{◌≡◌, ℕ, Bool, true, false, List, [], ◌∷◌, ◌++◌, append_assoc, refl, sym, ap, ◌∙◌, subst}
use Rattle.std.specs.Prelude.{is_some, None, Result, Ok, Err, IfErr, OnOk, OnErr}
use Rattle.std.proofs.lemmas.List.{append-nil}
use Rattle.blocks.specs.declared.fault.Unreadable.{Unreadable}
use Rattle.oc_base.specs.declared.fault.NoMemory.{NoMemory}
use Rattle.plans.specs.declared.plan.Moved.{Moved}
use Rattle.plans.specs.Given.{plan_fault}
use Rattle.sched_log.specs.declared.event.Event.{Event}
use Rattle.sched_log.specs.declared.event.Event.TheVariants.{Given}
use Rattle.sched_log.specs.declared.facts.Refusal.{Refusal}
use Rattle.sched_log.specs.declared.facts.Refusal.TheVariants as refusal
use Rattle.sim_laws.specs.declared.stepped.Stepped.{Stepped}
use Rattle.sim_laws.specs.declared.stepped.Stepped.TheVariants as kind
use Rattle.world.specs.Worlds.{Replaced, kind_of, step_of}
use Rattle.world.specs.Runs.{Atom, a_step, a_real_step, a_replacement, a_retirement, a_snap, Makes, harts_of, IsRun, is_over, of_real, real_step_of, real_kind_of}
use Rattle.world.specs.Replacing.{Attempts}
use Rattle.world.specs.Replacing as replacing
use Rattle.world.specs.Retiring.{RetiresAs}
use Rattle.world.specs.Retiring as retiring
use Rattle.world.specs.Records.{SnapsAs}
use Rattle.world.specs.Records as records
use Rattle.world.proofs.Stepping.{ended_step, ended_real}
use Rattle.recorder.specs.Journals.{unfolded, entered, is_left_out, unless}
use Rattle.recorder.specs.Marking.{attempted}
use Rattle.recorder.specs.Numbers.{replaced_code}
use Rattle.recorder.specs.Recording.{Recorded, IsRunOfLog}

-- one more is asked for
run_more : (atoms : List Atom) (a : Atom) (hs : List ℕ) (u w v : Replaced) → IsRun atoms hs u w → Makes a w v → IsRun (atoms ++ a ∷ []) (hs ++ harts_of a w) u v
run_more [] a hs u w v r made =
    subst (λ x. IsRun (a ∷ []) (hs ++ harts_of a w) x v) r.1 (v, [], made, ap (λ x. x ++ harts_of a w) r.0 ∙ sym (append-nil (harts_of a w)), (refl, refl))
run_more (b ∷ atoms) a hs u w v r made =
    (r.0, r.1 ++ harts_of a w, r.2, ap (λ x. x ++ harts_of a w) r.3 ∙ append_assoc (harts_of b u) r.1 (harts_of a w), run_more atoms a r.1 r.0 w v r.4 made)

-- the world v is w after a call, with the harts of its real steps; a call that is left out changes nothing
abbrev pub Adds : (left_out : Bool) → Atom → List ℕ → Replaced → Replaced → Type 0
Adds true a ks w v = (ks ≡ []) × (v ≡ w)
Adds false a ks w v = (ks ≡ harts_of a w) × Makes a w v

pub run_of_log : (left_out : Bool) (a : Atom) (ks : List ℕ) (w : Recorded) (log : List Event) (v : Replaced) → unfolded log ≡ unfolded w.journal.entries ++ unless left_out a
    → Adds left_out a ks w.at v → (start : Replaced) (hs : List ℕ) → IsRunOfLog start hs w → IsRun (unfolded log) (hs ++ ks) start v
run_of_log true a ks w log v unfolds adds start hs r =
    let same : unfolded log ≡ unfolded w.journal.entries = unfolds ∙ append-nil (unfolded w.journal.entries) in
    let harts : hs ++ ks ≡ hs = ap (λ x. hs ++ x) adds.0 ∙ append-nil hs in
    subst (λ x. IsRun x (hs ++ ks) start v) (sym same) (subst (λ x. IsRun (unfolded w.journal.entries) x start v) (sym harts)
    (subst (λ x. IsRun (unfolded w.journal.entries) hs start x) (sym adds.1) r))
run_of_log false a ks w log v unfolds adds start hs r =
    subst (λ x. IsRun x (hs ++ ks) start v) (sym unfolds) (subst (λ x. IsRun (unfolded w.journal.entries ++ a ∷ []) (hs ++ x) start v) (sym adds.0)
    (run_more (unfolded w.journal.entries) a hs start w.at v r adds.1))

-- of a call with no real step
pub run_of_entry : (left_out : Bool) (a : Atom) (w v : Recorded) → unfolded v.journal.entries ≡ unfolded w.journal.entries ++ unless left_out a
    → Adds left_out a [] w.at v.at → (start : Replaced) (hs : List ℕ) → IsRunOfLog start hs w → IsRunOfLog start hs v
run_of_entry left_out a w v unfolds adds start hs r =
    subst (λ x. IsRun (unfolded v.journal.entries) x start v.at) (append-nil hs) (run_of_log left_out a [] w v.journal.entries v.at unfolds adds start hs r)

-- of a log that is empty
pub run_of_none : (log : List Event) (w : Replaced) → log ≡ [] → IsRun (unfolded log) [] w w
unfolding unfolded
run_of_none log w none = subst (λ x. IsRun (unfolded x) [] w w) (sym none) (refl, refl)

-- ---- steps
pub step_adds : (h : ℕ) (k : Stepped) (w v : Replaced) → k ≡ kind_of h w → v ≡ step_of h w → (k ≡ kind.Over → is_some w.machine.outcome ≡ true) → Adds (is_over k) (a_step h) (of_real k h) w v
step_adds h kind.Real w v e is over = (ap (λ x. of_real x h) e, is)
step_adds h kind.Layout w v e is over = (ap (λ x. of_real x h) e, is)
step_adds h kind.Over w v e is over = (refl, is ∙ ended_step h w (over refl))

pub real_step_adds : (h : ℕ) (k : Stepped) (w v : Replaced) → k ≡ real_kind_of h w → v ≡ real_step_of h w → (k ≡ kind.Over → is_some w.machine.outcome ≡ true)
    → Adds (is_over k) (a_real_step h) (of_real k h) w v
real_step_adds h kind.Real w v e is over = (ap (λ x. of_real x h) e, is)
real_step_adds h kind.Layout w v e is over = (ap (λ x. of_real x h) e, is)
real_step_adds h kind.Over w v e is over = (refl, is ∙ ended_real h w (over refl))

-- ---- a snapshot, an attempt, a retirement
pub snap_adds : (w v : Replaced) (u : Unit {0}) → SnapsAs w (is_some w.machine.outcome) (Ok u) v → Adds (is_some w.machine.outcome) a_snap [] w v
snap_adds w v u = by_end (is_some w.machine.outcome) refl
  where
    by_end : (b : Bool) → is_some w.machine.outcome ≡ b → SnapsAs w b (Ok u) v → Adds b a_snap [] w v
    by_end true e is = (refl, is)
    by_end false e is = (refl, records.done e is)

pub retirement_adds : (w v : Replaced) (n : ℕ) → RetiresAs w (is_some w.machine.outcome) (Ok n) v → Adds (is_some w.machine.outcome) a_retirement [] w v
retirement_adds w v n = by_end (is_some w.machine.outcome) refl
  where
    by_end : (b : Bool) → is_some w.machine.outcome ≡ b → RetiresAs w b (Ok n) v → Adds b a_retirement [] w v
    by_end true e is = (refl, is.1)
    by_end false e is = (refl, retiring.done n e is)

pub attempt_adds : (plan : List Moved) (w v : Replaced) (answer : Result Unit Refusal) → plan_fault w.image plan ≡ None → Attempts plan w (is_some w.machine.outcome) answer v
    → Adds (is_left_out (is_some w.machine.outcome) answer) (a_replacement plan) [] w v
attempt_adds plan w v answer given = by_end answer (is_some w.machine.outcome) refl
  where
    by_end : (answer : Result Unit Refusal) (b : Bool) → is_some w.machine.outcome ≡ b → Attempts plan w b answer v → Adds (is_left_out b answer) (a_replacement plan) [] w v
    by_end (Ok u) true e is = (refl, is)
    by_end (Err why) true e is = absurd is
    by_end (Ok u) false e is = (refl, (given, replacing.done e is))
    by_end (Err (refusal.RegionFull n m)) false e is = (refl, (given, replacing.refused (refusal.RegionFull n m) (λ x. cc) e is.0 is.1))
    by_end (Err (refusal.BranchReach at to)) false e is = (refl, (given, replacing.refused (refusal.BranchReach at to) (λ x. cc) e is.0 is.1))
    by_end (Err (refusal.Unreadable g y)) false e is = (refl, (given, replacing.refused (refusal.Unreadable g y) (λ x. cc) e is.0 is.1))
    by_end (Err refusal.NoMemory) false e is = (refl, is)

-- ---- by the answer
pub same_runs : (w v : Recorded) → v ≡ w → (start : Replaced) (hs : List ℕ) → IsRunOfLog start hs w → IsRunOfLog start hs v
same_runs w v is start hs r = subst (IsRunOfLog start hs) (sym is) r

pub snap_runs : (w v : Recorded) (answer : Result Unit NoMemory) → SnapsAs w.at (is_some w.at.machine.outcome) answer v.at
    → OnOk answer (unfolded v.journal.entries ≡ unfolded w.journal.entries ++ unless (is_some w.at.machine.outcome) a_snap) → OnErr answer (v ≡ w)
    → (start : Replaced) (hs : List ℕ) → IsRunOfLog start hs w → IsRunOfLog start hs v
snap_runs w v (Ok u) is log same = run_of_entry (is_some w.at.machine.outcome) a_snap w v log (snap_adds w.at v.at u is)
snap_runs w v (Err e) is log same = same_runs w v same

pub retirement_runs : (w v : Recorded) (answer : Result ℕ NoMemory) → RetiresAs w.at (is_some w.at.machine.outcome) answer v.at
    → OnOk answer (unfolded v.journal.entries ≡ unfolded w.journal.entries ++ unless (is_some w.at.machine.outcome) a_retirement) → OnErr answer (v ≡ w)
    → (start : Replaced) (hs : List ℕ) → IsRunOfLog start hs w → IsRunOfLog start hs v
retirement_runs w v (Ok n) is log same = run_of_entry (is_some w.at.machine.outcome) a_retirement w v log (retirement_adds w.at v.at n is)
retirement_runs w v (Err e) is log same = same_runs w v same

-- ---- an attempt that ran out of memory
region_isnt : (n m : ℕ) → refusal.RegionFull n m ≡ refusal.NoMemory → ⊥
region_isnt n m e = cc

reach_isnt : (at to : ℕ) → refusal.BranchReach at to ≡ refusal.NoMemory → ⊥
reach_isnt at to e = cc

unreadable_isnt : (g : ℕ) (why : Unreadable) → refusal.Unreadable g why ≡ refusal.NoMemory → ⊥
unreadable_isnt g why e = cc

pub attempt_none : (plan : List Moved) (w v : Recorded) (b : Bool) (real : ℕ) (answer : Result Unit Refusal) → Attempts plan w.at b answer v.at
    → v.journal ≡ entered (is_left_out b answer) (Given plan) w.journal → v.marks ≡ attempted (is_left_out b answer) real w.marks
    → v.gate ≡ w.gate → v.code ≡ replaced_code b answer w.code → v.steps ≡ w.steps → IfErr answer (λ why. why ≡ refusal.NoMemory → v ≡ w)
attempt_none plan w v b real (Ok u) is journal marks gate code steps = tt
attempt_none plan w v true real (Err why) is journal marks gate code steps = absurd is
attempt_none plan w v false real (Err (refusal.RegionFull n m)) is journal marks gate code steps = λ e. absurd (region_isnt n m e)
attempt_none plan w v false real (Err (refusal.BranchReach at to)) is journal marks gate code steps = λ e. absurd (reach_isnt at to e)
attempt_none plan w v false real (Err (refusal.Unreadable g why)) is journal marks gate code steps = λ e. absurd (unreadable_isnt g why e)
attempt_none plan w v false real (Err refusal.NoMemory) is journal marks gate code steps =
    λ e. (λ i. record { at = is i; journal = journal i; marks = marks i; gate = gate i; code = code i; steps = steps i })

pub on_ok : {A E P Q : Type 0} (answer : Result A E) → (P → Q) → OnOk answer P → OnOk answer Q
on_ok (Ok a) f p = f p
on_ok (Err e) f p = tt
