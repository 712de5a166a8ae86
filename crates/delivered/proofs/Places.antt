-- Events in their places among those of a run, and what stays from then on.
use Rattle.std.proofs.Common.{◌≡◌, ℕ, zero, suc, Bool, true, false, List, [], ◌∷◌, ◌++◌, append_assoc, replicate, refl, sym, ap, subst, ◌∙◌, arith}
use Rattle.std.specs.Prelude.{Contains, if◌then◌else◌}
use Rattle.std.proofs.lemmas.List.Elements.{Contains-append_left, Contains-append_right}
use Rattle.plans.specs.declared.plan.Moved.{Moved}
use Rattle.sched_log.specs.declared.event.Event.{Event}
use Rattle.sched_log.specs.declared.event.Event.TheVariants.{Steps, Real, Till, Snap, Replace, Given, Retire}
use Rattle.sched_log.specs.declared.facts.Refusal.{Refusal}
use Rattle.sched_log.specs.declared.facts.Refused.{Refused}
use Rattle.sim_laws.specs.Steps.{is_layout}
use Rattle.world.specs.Worlds.{Replaced, kind_of, step_of, more}
use Rattle.world.specs.Replacing.{Replaces, over, done, refused, refused_as}
use Rattle.world.specs.Retiring as retiring
use Rattle.world.specs.Records as records
use Rattle.world.specs.Runs.{Atom, a_step, a_real_step, a_snap, a_replacement, a_retirement, Makes, IsRun, until_real}
use Rattle.delivered.specs.Events.{turns, Obeys, Plays}
use Rattle.delivered.specs.Headline.{InPlace}

-- ---- places
split_plays : (before rest : List Event) (hs : List ℕ) (w v : Replaced) → Plays (before ++ rest) hs w v
    → (u : Replaced) × (first : List ℕ) × (later : List ℕ) × Plays before first w u × (hs ≡ first ++ later) × Plays rest later u v
split_plays [] rest hs w v p = (w, [], hs, (refl, refl), refl, p)
split_plays (e ∷ es) rest hs w v p =
    let s = split_plays es rest p.2 p.0 v p.5 in
    (s.0, p.1 ++ s.1, s.2, (p.0, p.1, s.1, p.3, refl, s.3), p.4 ∙ ap (λ t. p.1 ++ t) s.4 ∙ sym (append_assoc p.1 s.1 s.2), s.5)

pub in_place : (start world : Replaced) (hs : List ℕ) (events before : List Event) (e : Event) (after : List Event) → events ≡ before ++ e ∷ after → Plays events hs start world → InPlace start hs world before e after
in_place start world hs events before e after is plays =
    let s = split_plays before (e ∷ after) hs start world (subst (λ es. Plays es hs start world) is plays) in
    let r = s.5 in
    record {
      u = s.0;
      v = r.0;
      earlier = s.1;
      now = r.1;
      later = r.2;
      harts = s.4 ∙ ap (λ t. s.1 ++ t) r.4 ∙ sym (append_assoc s.1 r.1 r.2);
      comes = s.3;
      obeys = r.3;
      goes_on = r.5;
    }

-- ---- the atoms of an event
pub obeyed_run : (e : Event) (hs : List ℕ) (w v : Replaced) → Obeys e hs w v → (atoms : List Atom) × IsRun atoms hs w v
obeyed_run (Steps h n) hs w v r = (replicate n (a_step h), r)
obeyed_run (Real h n) hs w v r = (replicate n (a_real_step h), r)
obeyed_run (Till n) hs w v r = (turns n w, r)
obeyed_run Snap hs w v r = (a_snap ∷ [], r)
obeyed_run Replace hs w v r = (a_replacement r.0 ∷ [], r.2)
obeyed_run (Given plan) hs w v r = (a_replacement plan ∷ [], r)
obeyed_run Retire hs w v r = (a_retirement ∷ [], r)

-- ---- refusals stay
abbrev pub Keeps : (w v : Replaced) → Type 0
Keeps w v = (x : Refused) → Contains w.refusals x → Contains v.refusals x

same_keeps : (w v : Replaced) → v.refusals ≡ w.refusals → Keeps w v
same_keeps w v same = λ x has. subst (λ xs. Contains xs x) (sym same) has

step_refusals : (h : ℕ) (w : Replaced) → (step_of h w).refusals ≡ w.refusals
unfolding step_of
step_refusals h w = refl

until_refusals : (n h : ℕ) (w : Replaced) → (until_real n h w).refusals ≡ w.refusals
unfolding until_real
until_refusals zero h w = refl
until_refusals (suc n) h w = by_kind (is_layout (kind_of h w)) (until_refusals n h (step_of h w) ∙ step_refusals h w) (step_refusals h w)
  where
    by_kind : (b : Bool) → (until_real n h (step_of h w)).refusals ≡ w.refusals → (step_of h w).refusals ≡ w.refusals → (if b then until_real n h (step_of h w) else step_of h w).refusals ≡ w.refusals
    by_kind true later here = later
    by_kind false later here = here

replaced_keeps : (plan : List Moved) (w v : Replaced) → Replaces plan w v → Keeps w v
replaced_keeps plan w v (over ended is) = same_keeps w v (ap (λ (x : Replaced). x.refusals) is)
replaced_keeps plan w v (done goes is) = same_keeps w v (ap (λ (x : Replaced). x.refusals) is.is)
replaced_keeps plan w v (refused why room goes is_why is) = λ x has.
    subst (λ (u : Replaced). Contains u.refusals x) (sym is) (Contains-append_left w.refusals (record { attempt = more w.counts.attempts; refusal = why } ∷ []) x has)

retired_keeps : (w v : Replaced) → retiring.Retires w v → Keeps w v
retired_keeps w v (retiring.over ended is) = same_keeps w v (ap (λ (x : Replaced). x.refusals) is)
retired_keeps w v (retiring.done n goes is) = same_keeps w v (ap (λ (x : Replaced). x.refusals) is.is)

snapped_keeps : (w v : Replaced) → records.Snaps w v → Keeps w v
snapped_keeps w v (records.over ended is) = same_keeps w v (ap (λ (x : Replaced). x.refusals) is)
snapped_keeps w v (records.done goes is) = same_keeps w v (ap (λ (x : Replaced). x.refusals) is.is)

makes_keeps : (a : Atom) (w v : Replaced) → Makes a w v → Keeps w v
makes_keeps (a_step h) w v m = same_keeps w v (ap (λ (x : Replaced). x.refusals) m ∙ step_refusals h w)
makes_keeps (a_real_step h) w v m = same_keeps w v (ap (λ (x : Replaced). x.refusals) m ∙ until_refusals 3 h w)
makes_keeps a_snap w v m = snapped_keeps w v m
makes_keeps (a_replacement plan) w v m = replaced_keeps plan w v m.1
makes_keeps a_retirement w v m = retired_keeps w v m

run_keeps : (atoms : List Atom) (hs : List ℕ) (w v : Replaced) → IsRun atoms hs w v → Keeps w v
run_keeps [] hs w v r = same_keeps w v (ap (λ (x : Replaced). x.refusals) r.1)
run_keeps (a ∷ more) hs w v r = λ x has. run_keeps more r.1 r.0 v r.4 x (makes_keeps a w r.0 r.2 x has)

pub plays_keep : (es : List Event) (hs : List ℕ) (w v : Replaced) → Plays es hs w v → Keeps w v
plays_keep [] hs w v p = same_keeps w v (ap (λ (x : Replaced). x.refusals) p.1)
plays_keep (e ∷ es) hs w v p = λ x has.
    let run = obeyed_run e p.1 w p.0 p.3 in
    plays_keep es p.2 p.0 v p.5 x (run_keeps run.0 p.1 w p.0 run.1 x has)

-- a refused attempt is among them
pub refusal_kept : (why : Refusal) (w : Replaced) → Contains (refused_as why w).refusals (record { attempt = more w.counts.attempts; refusal = why })
refusal_kept why w =
    let one : Refused = record { attempt = more w.counts.attempts; refusal = why } in
    Contains-append_right w.refusals (one ∷ []) one (0, omega arith, refl)
