-- Runs of a world record the transfers of the original machine's run.
use Rattle.std.proofs.Common.{◌≡◌, ℕ, zero, suc, Bool, true, false, List, [], ◌∷◌, ◌++◌, replicate, refl, sym, ap, ◌∙◌, subst}
use Rattle.std.specs.Prelude.{None, Result, Ok, Err, ◌&&◌, not, is_some}
use Rattle.oc_base.specs.declared.fault.NoMemory.{NoMemory}
use Rattle.image.specs.Picture.{Picture}
use Rattle.image.specs.Texts.{word_at}
use Rattle.guest_sys.specs.State.{IsOrderly}
use Rattle.machine.specs.Harts.{is_live, hart_in}
use Rattle.machine.specs.States.{State}
use Rattle.machine.specs.Steps.{original_run}
use Rattle.machine.specs.Transfers.{original_transfer}
use Rattle.machine.proofs.Stays.{run_append}
use Rattle.plans.specs.declared.plan.Moved.{Moved}
use Rattle.sched_log.specs.declared.facts.Refusal.{Refusal}
use Rattle.sched_log.specs.declared.facts.Refusal.TheVariants as refusal
use Rattle.sim_laws.specs.declared.stepped.Stepped.{Stepped}
use Rattle.sim_laws.specs.declared.stepped.Stepped.TheVariants.{Real, Layout, Over}
use Rattle.world.specs.Worlds.{Replaced, Related, kind_of}
use Rattle.world.specs.Records.{Records}
use Rattle.world.specs.Replacing.{IsRefused, Attempts, Replaces, over, done, refused}
use Rattle.world.specs.Retiring.{RetiresAs, Retires}
use Rattle.world.specs.Retiring as retirement
use Rattle.world.specs.Runs.{Atom, a_step, a_real_step, a_replacement, a_retirement, a_snap, Makes, harts_of, IsRun, of_real, real_kind_of, real_step_of, real_steps_of}
use Rattle.world.proofs.Following.{never_layout, real_over, real_follows}
use Rattle.world.proofs.Noting.{idle_transfer}
use Rattle.world.proofs.Recording.{append_twice, no_step, rings_more, step_records, until_records}
use Rattle.world.proofs.Running.{made_follows, made_orderly, made_image}
use Rattle.world.proofs.Snapping.{same_records, snaps_records}
use Rattle.world.proofs.Stepping.{until_orderly, until_image}

-- ---- code that is moved or given up
replaces_records : (plan : List Moved) (w v : Replaced) → Replaces plan w v → (ring : ℕ) (o : State) (hs : List ℕ) → Records ring w o hs → Records ring v o hs
replaces_records plan w v (over b f) ring o hs s = same_records w v f ring o hs s
replaces_records plan w v (done b h) ring o hs s = subst (λ (x : Replaced). Records ring x o hs) (sym h.is) s
replaces_records plan w v (refused why n b h f) ring o hs s = subst (λ (x : Replaced). Records ring x o hs) (sym f) s

refusal_records : (plan : List Moved) (w v : Replaced) (why : Refusal) → IsRefused plan w why v → (ring : ℕ) (o : State) (hs : List ℕ) → Records ring w o hs → Records ring v o hs
refusal_records plan w v (refusal.RegionFull need most) h ring o hs s = subst (λ (x : Replaced). Records ring x o hs) (sym h.1) s
refusal_records plan w v (refusal.BranchReach at target) h ring o hs s = subst (λ (x : Replaced). Records ring x o hs) (sym h.1) s
refusal_records plan w v (refusal.Unreadable g why) h ring o hs s = subst (λ (x : Replaced). Records ring x o hs) (sym h.1) s
refusal_records plan w v refusal.NoMemory h ring o hs s = same_records w v h ring o hs s

pub attempt_records : (plan : List Moved) (w v : Replaced) (b : Bool) (answer : Result Unit Refusal) → Attempts plan w b answer v
    → (ring : ℕ) (o : State) (hs : List ℕ) → Records ring w o hs → Records ring v o hs
attempt_records plan w v true (Ok u) h = same_records w v h
attempt_records plan w v true (Err why) h = absurd h
attempt_records plan w v false (Ok u) h = λ ring o hs s. subst (λ (x : Replaced). Records ring x o hs) (sym h.is) s
attempt_records plan w v false (Err why) h = refusal_records plan w v why h

retires_records : (w v : Replaced) → Retires w v → (ring : ℕ) (o : State) (hs : List ℕ) → Records ring w o hs → Records ring v o hs
retires_records w v (retirement.over b f) ring o hs s = same_records w v f ring o hs s
retires_records w v (retirement.done n b h) ring o hs s = subst (λ (x : Replaced). Records ring x o hs) (sym h.is) s

pub retired_records : (w v : Replaced) (b : Bool) (answer : Result ℕ NoMemory) → RetiresAs w b answer v
    → (ring : ℕ) (o : State) (hs : List ℕ) → Records ring w o hs → Records ring v o hs
retired_records w v true (Ok n) h = same_records w v h.1
retired_records w v true (Err e) h = absurd h
retired_records w v false (Ok n) h = λ ring o hs s. subst (λ (x : Replaced). Records ring x o hs) (sym h.is) s
retired_records w v false (Err e) h = same_records w v h

-- ---- real steps, one after another
original_none : (p : Picture) (h : ℕ) (o : State) → is_some o.outcome ≡ true → original_transfer p h o ≡ None
unfolding original_transfer
original_none p h o e = idle_transfer (word_at p.texts) (λ a. a) p h o (ap (λ b. not b && is_live (hart_in o.harts h).status) e)

-- a hart of a run that has ended adds nothing
over_records : (v : Replaced) (p : Picture) → v.image ≡ p → (ring : ℕ) (o : State) (hs : List ℕ) (h : ℕ) → is_some (original_run p hs o).outcome ≡ true → Records ring v o (hs ++ [])
    → Records ring v o (hs ++ h ∷ [])
over_records v p same ring o hs h ended s =
    let none = subst (λ (q : Picture). original_transfer q h (original_run q hs o) ≡ None) (sym same) (original_none p h (original_run p hs o) ended) in
    s ∙ sym (no_step v.image ring hs o) ∙ rings_more v.image ring hs h o None none

always_records : (h : ℕ) (w : Replaced) → IsOrderly w.machine.system → (ring : ℕ) (o : State) (hs : List ℕ) → Related w (original_run w.image hs o) → Records ring w o hs
    → Records ring (real_step_of h w) o (hs ++ h ∷ [])
always_records h w q ring o hs r s = by_kind (real_kind_of h w) refl (until_records 3 h w q ring o hs r s)
  where
    by_kind : (k : Stepped) → real_kind_of h w ≡ k → Records ring (real_step_of h w) o (hs ++ of_real k h) → Records ring (real_step_of h w) o (hs ++ h ∷ [])
    by_kind Real e t = t
    by_kind Layout e t = absurd (never_layout w h (real_kind_of h w) r.sound refl e)
    by_kind Over e t =
        let ended = (real_over w h (real_kind_of h w) r.sound refl).0 e in
        over_records (real_step_of h w) w.image (until_image 3 h w) ring o hs h (ap is_some (sym r.states.outcome) ∙ ended) t

-- a world stands for what a longer run comes to
related_on : (u : Replaced) (p : Picture) → u.image ≡ p → (hs gs : List ℕ) (o : State) → Related u (original_run p gs (original_run p hs o)) → Related u (original_run u.image (hs ++ gs) o)
related_on u p same hs gs o r =
    subst (λ (q : Picture). Related u (original_run q (hs ++ gs) o)) (sym same) (subst (λ (x : State). Related u x) (sym (run_append p hs gs o)) r)

steps_records : (n h : ℕ) (w : Replaced) → IsOrderly w.machine.system → (ring : ℕ) (o : State) (hs : List ℕ) → Related w (original_run w.image hs o) → Records ring w o hs
    → Records ring (real_steps_of n h w) o (hs ++ replicate n h)
steps_records zero h w q ring o hs r s = s ∙ no_step w.image ring hs o
steps_records (suc n) h w q ring o hs r s =
    let u = real_step_of h w in
    let at = related_on u w.image (until_image 3 h w) hs (h ∷ []) o (real_follows w u h q refl (original_run w.image hs o) r) in
    let rest = steps_records n h u (until_orderly 3 h w q) ring o (hs ++ h ∷ []) at (always_records h w q ring o hs r s) in
    subst (λ (ks : List ℕ). Records ring (real_steps_of n h u) o ks) (append_twice hs (h ∷ []) (replicate n h)) rest

pub run_made_records : (n h : ℕ) (w new : Replaced) → IsOrderly w.machine.system → new ≡ real_steps_of n h w
    → (ring : ℕ) (o : State) (hs : List ℕ) → Related w (original_run w.image hs o) → Records ring w o hs → Records ring new o (hs ++ replicate n h)
run_made_records n h w new q e ring o hs r s = subst (λ (x : Replaced). Records ring x o (hs ++ replicate n h)) (sym e) (steps_records n h w q ring o hs r s)

-- ---- runs
nothing_done : (v : Replaced) (ring : ℕ) (o : State) (gs : List ℕ) → Records ring v o gs → Records ring v o (gs ++ [])
nothing_done v ring o gs s = s ∙ no_step v.image ring gs o

made_records : (a : Atom) (w v : Replaced) → IsOrderly w.machine.system → Makes a w v → (ring : ℕ) (o : State) (gs : List ℕ) → Related w (original_run w.image gs o) → Records ring w o gs
    → Records ring v o (gs ++ harts_of a w)
made_records (a_step h) w v q m ring o gs r s = subst (λ (x : Replaced). Records ring x o (gs ++ of_real (kind_of h w) h)) (sym m) (step_records h w q ring o gs r s)
made_records (a_real_step h) w v q m ring o gs r s = subst (λ (x : Replaced). Records ring x o (gs ++ of_real (real_kind_of h w) h)) (sym m) (until_records 3 h w q ring o gs r s)
made_records (a_replacement plan) w v q m ring o gs r s = nothing_done v ring o gs (replaces_records plan w v m.1 ring o gs s)
made_records a_retirement w v q m ring o gs r s = nothing_done v ring o gs (retires_records w v m ring o gs s)
made_records a_snap w v q m ring o gs r s = nothing_done v ring o gs (snaps_records w v m ring o gs s)

pub run_records : (atoms : List Atom) (hs gs : List ℕ) (ring : ℕ) (w v : Replaced) (o : State) → IsOrderly w.machine.system → IsRun atoms hs w v
    → Related w (original_run w.image gs o) → Records ring w o gs → Records ring v o (gs ++ hs)
run_records [] hs gs ring w v o q m r s =
    subst (λ (ks : List ℕ). Records ring v o (gs ++ ks)) (sym m.0) (nothing_done v ring o gs (same_records w v m.1 ring o gs s))
run_records (a ∷ atoms) hs gs ring w v o q m r s =
    let u = m.0 in
    let one = made_records a w u q m.2 ring o gs r s in
    let at = related_on u w.image (made_image a w u m.2) gs (harts_of a w) o (made_follows a w u (original_run w.image gs o) q m.2 r) in
    let rest = run_records atoms m.1 (gs ++ harts_of a w) ring u v o (made_orderly a w u m.2 q) m.4 at one in
    subst (λ (ks : List ℕ). Records ring v o ks) (append_twice gs (harts_of a w) m.1 ∙ ap (λ (ks : List ℕ). gs ++ ks) (sym m.3)) rest
