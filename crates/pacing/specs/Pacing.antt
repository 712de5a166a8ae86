-- Which logs keep the pace: visits are short, a snapshot is taken every so many real steps, and none waits too long for its attempt. Each
-- rule of an entry looks at what stands before it. Source: this project.
use Rattle.std.specs.Prelude.{◌≡◌, ℕ, zero, suc, ◌+◌, ◌*◌, ◌<◌, ◌≤◌, nat_le, Bool, true, false, not, ◌&&◌, is_some, List, [], ◌∷◌, ◌++◌, length}
use Rattle.image.specs.Picture.{Picture}
use Rattle.sched_log.specs.declared.event.Event.{Event}
use Rattle.sched_log.specs.declared.event.Event.TheVariants.{Steps, Real, Till, Snap, Replace, Given, Retire}
use Rattle.machine.specs.States.{State}
use Rattle.machine.specs.Steps.{can_step, original_step}
use Rattle.pacing.specs.Limits.{visit_limit}
use Rattle.pacing.specs.Logs.{is_snap, is_retire, is_replace, state_at, Each}
use Rattle.pacing.specs.Clocks.{Clock, clock_of}

-- a snapshot is due: as many real steps as `every` since the last attempt or the start, no snapshot since, and the run goes on
abbrev pub owes_snap : (every : ℕ) → State → Clock → Bool
owes_snap every s c = not c.pending && nat_le (every + c.attempted_at) c.real && not (is_some s.outcome)

-- hart h is live before each of n steps, and the run goes on until then
abbrev pub can_make : Picture → (n h : ℕ) → State → Bool
can_make p zero h s = true
can_make p (suc n) h s = can_step h s && can_make p n h (original_step p h s)

-- a visit of hart h that makes n real steps
pub record IsVisit (p : Picture) (s : State) (h n : ℕ) : Type 0 where
  pub some : 0 < n
  pub most : n ≤ visit_limit
  pub live : can_make p n h s ≡ true

-- an entry is a visit, or of the other kinds that a threaded run has
abbrev pub VisitFits : Picture → State → Event → Type 0
VisitFits p s (Real h n) = IsVisit p s h n
VisitFits p s Snap = Unit {0}
VisitFits p s Retire = Unit {0}
VisitFits p s Replace = Unit {0}
VisitFits p s (Steps h n) = ⊥
VisitFits p s (Till n) = ⊥
VisitFits p s (Given plan) = ⊥

-- until its attempt, so many real steps may follow a snapshot: `every`, and a whole visit of each hart made by then
abbrev pub IsInTime : (every : ℕ) → State → Clock → Type 0
IsInTime every s c = c.pending ≡ true → c.real ≤ c.snapped_at + every + visit_limit * length s.harts

-- an entry fits the entries before it
pub record Fits (p : Picture) (start : State) (every : ℕ) (before : List Event) (e : Event) : Type 0 where
  pub visit : VisitFits p (state_at p start before) e
  -- a Snap stands where one is owed, and nowhere else
  pub snap : is_snap e ≡ owes_snap every (state_at p start before) (clock_of before)
  -- a Replace stands right after a Retire, and nowhere else
  pub replace : is_replace e ≡ (clock_of before).retired
  -- an attempt follows a snapshot that has none
  pub attempt : is_retire e ≡ true → (clock_of before).pending ≡ true
  pub in_time : IsInTime every (state_at p start (before ++ e ∷ [])) (clock_of (before ++ e ∷ []))

-- a whole log keeps the pace: its last entry, too, is followed by what it owes
pub record Paced (p : Picture) (start : State) (every : ℕ) (log : List Event) : Type 0 where
  pub each : Each (Fits p start every) log
  pub no_snap_owed : owes_snap every (state_at p start log) (clock_of log) ≡ false
  pub no_replace_owed : (clock_of log).retired ≡ false
