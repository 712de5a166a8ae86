-- Atoms and events, one after the other.
use Rattle.std.proofs.Common.{◌≡◌, ℕ, zero, suc, ◌+◌, ◌-◌, ◌<◌, true, List, [], ◌∷◌, ◌++◌, drop, get_or, length, replicate, is_some, ap, sym, refl, subst, ◌∙◌, arith}
use Rattle.std.specs.List.{range_with_len}
use Rattle.std.proofs.lemmas.List.{drop_more}
use Rattle.sim_laws.specs.Steps.{stepped}
use Rattle.sched_log.specs.declared.event.Event.{Event}
use Rattle.world.proofs.Stepping.{ended_step}
use Rattle.world.specs.Worlds.{Replaced, step_of}
use Rattle.world.specs.Runs.{Atom, a_step, a_real_step, Makes, IsRun, harts_of, until_real, real_step_of, real_steps_of}
use Rattle.delivered.specs.Events.{stretch, harts_in, stretched, turns, Runs, Obeyed, Played}

pub runs_none : (w : Replaced) → Runs [] w w
runs_none w = ([], (refl, refl))

pub runs_cons : (a : Atom) (more : List Atom) (w u v : Replaced) → Makes a w u → Runs more u v → Runs (a ∷ more) w v
runs_cons a more w u v makes r = (harts_of a w ++ r.0, (u, r.0, makes, refl, r.1))

-- two runs, one after the other
append_runs : (first later : List Atom) (hs : List ℕ) (w u v : Replaced) → IsRun first hs w u → Runs later u v → Runs (first ++ later) w v
append_runs [] later hs w u v r s = subst (λ x. Runs later x v) r.1 s
append_runs (a ∷ first) later hs w u v r s = runs_cons a (first ++ later) w r.0 v r.2 (append_runs first later r.1 r.0 u v r.4 s)

pub runs_append : (first later : List Atom) (w u v : Replaced) → Runs first w u → Runs later u v → Runs (first ++ later) w v
runs_append first later w u v r s = append_runs first later r.0 w u v r.1 s

-- n real steps
pub real_runs : (n h : ℕ) (w : Replaced) → Runs (replicate n (a_real_step h)) w (real_steps_of n h w)
real_runs zero h w = runs_none w
real_runs (suc n) h w = runs_cons (a_real_step h) (replicate n (a_real_step h)) w (real_step_of h w) (real_steps_of n h (real_step_of h w)) refl (real_runs n h (real_step_of h w))

-- a real step of each hart of a list
pub stretch_runs : (hs : List ℕ) (w : Replaced) → Runs (stretch hs) w (stretched hs w)
stretch_runs [] w = runs_none w
stretch_runs (h ∷ hs) w = runs_cons (a_real_step h) (stretch hs) w (real_step_of h w) (stretched hs (real_step_of h w)) refl (stretch_runs hs (real_step_of h w))

-- one turn, and then n
pub turn_runs : (n : ℕ) (w v : Replaced) → Runs (turns n (stretched (harts_in w) w)) (stretched (harts_in w) w) v → Runs (turns (suc n) w) w v
turn_runs n w v r = runs_append (stretch (harts_in w)) (turns n (stretched (harts_in w) w)) w (stretched (harts_in w) w) v (stretch_runs (harts_in w) w) r

-- ---- a run that has ended stays as it is
step_stays : (h : ℕ) (w : Replaced) → is_some w.machine.outcome ≡ true → step_of h w ≡ w
step_stays h w over = ended_step h w over

real_step_stays : (h : ℕ) (w : Replaced) → is_some w.machine.outcome ≡ true → real_step_of h w ≡ w
unfolding until_real stepped
real_step_stays h w over = rw (over) (step_stays h w over)

stretch_stays : (hs : List ℕ) (w : Replaced) → is_some w.machine.outcome ≡ true → stretched hs w ≡ w
stretch_stays [] w over = refl
stretch_stays (h ∷ hs) w over = ap (stretched hs) (real_step_stays h w over) ∙ stretch_stays hs w over

pub steps_stay : (n h : ℕ) (w : Replaced) → is_some w.machine.outcome ≡ true → Runs (replicate n (a_step h)) w w
steps_stay zero h w over = runs_none w
steps_stay (suc n) h w over = runs_cons (a_step h) (replicate n (a_step h)) w w w (sym (step_stays h w over)) (steps_stay n h w over)

pub turns_stay : (n : ℕ) (w : Replaced) → is_some w.machine.outcome ≡ true → Runs (turns n w) w w
turns_stay zero w over = runs_none w
turns_stay (suc n) w over = turn_runs n w w (subst (λ x. Runs (turns n x) x w) (sym (stretch_stays (harts_in w) w over)) (turns_stay n w over))

-- ---- what is left
-- of a number of steps
pub steps_left : (h n i : ℕ) (w w' v : Replaced) → i < n → w' ≡ step_of h w → Runs (replicate (n - (i + 1)) (a_step h)) w' v → Runs (replicate (n - i) (a_step h)) w v
steps_left h n i w w' v below made r =
    let e : n - i ≡ suc (n - (i + 1)) = omega arith in
    rw (e) (runs_cons (a_step h) (replicate (n - (i + 1)) (a_step h)) w w' v made r)

-- of a turn
pub turn_left : (h made : ℕ) (w : Replaced) → h < made → stretched (range_with_len h (made - h)) w ≡ stretched (range_with_len (h + 1) (made - (h + 1))) (real_step_of h w)
turn_left h made w below =
    let e : made - h ≡ suc (made - (h + 1)) = omega arith in
    rw (e) refl

-- of a number of turns
pub turns_left : (n i : ℕ) (w w' v : Replaced) → i < n → w' ≡ stretched (harts_in w) w → Runs (turns (n - (i + 1)) w') w' v → Runs (turns (n - i) w) w v
turns_left n i w w' v below made r =
    let e : n - i ≡ suc (n - (i + 1)) = omega arith in
    rw (e) (turn_runs (n - (i + 1)) w v (subst (λ x. Runs (turns (n - (i + 1)) x) x v) made r))

-- of the events
plays_more : (e : Event) (es : List Event) (w u v : Replaced) → Obeyed e w u → Played es u v → Played (e ∷ es) w v
plays_more e es w u v r p = (r.0 ++ p.0, (u, r.0, p.0, r.1, refl, p.1))

pub events_left : (es : List Event) (i : ℕ) (d : Event) (w u v : Replaced) → i < length es → Obeyed (get_or es i d) w u → Played (drop (i + 1) es) u v → Played (drop i es) w v
events_left es i d w u v below r p = rw (drop_more es i d below) (plays_more (get_or es i d) (drop (i + 1) es) w u v r p)
