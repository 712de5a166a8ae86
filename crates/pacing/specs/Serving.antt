-- Which logs serve the harts in rotation, with whole visits. Of several workers the one with number w serves the harts with remainder w.
-- Source: this project.
use Rattle.std.specs.Prelude.{◌≡◌, ℕ, ◌%◌, ◌==◌, nat_lt, nat_le, Bool, true, false, not, ◌&&◌, ◌||◌, List, [], ◌∷◌, Option, Some, None, replicate, if◌then◌else◌}
use Rattle.image.specs.Picture.{Picture}
use Rattle.sched_log.specs.declared.event.Event.{Event}
use Rattle.sched_log.specs.declared.event.Event.TheVariants.{Real}
use Rattle.machine.specs.Harts.{is_live, hart_in}
use Rattle.machine.specs.States.{State}
use Rattle.machine.specs.Steps.{can_step, original_run}
use Rattle.pacing.specs.Limits.{visit_limit}
use Rattle.pacing.specs.Logs.{steps_in, state_at, Each}

-- an entry is a visit that this worker makes
abbrev pub visits : (workers worker : ℕ) → Event → Bool
visits workers worker (Real h n) = h % workers == worker
visits workers worker _ = false

-- a worker's last visit: its hart, and the state right after it
pub record Turn : Type 0 where
  pub hart : ℕ
  pub state : State

-- the worker's last visit after one more entry, which leaves this state
abbrev pub turned : (workers worker : ℕ) → (after : State) → Event → Option Turn → Option Turn
turned workers worker after (Real h n) t = if h % workers == worker then Some (record { hart = h; state = after }) else t
turned workers worker after _ t = t

unfoldable pub turn_from : Picture → (workers worker : ℕ) → State → Option Turn → List Event → Option Turn
turn_from p workers worker s t [] = t
turn_from p workers worker s t (e ∷ es) =
    let after = original_run p (steps_in e) s in
    turn_from p workers worker after (turned workers worker after e t) es

abbrev pub last_turn : Picture → (workers worker : ℕ) → (start : State) → List Event → Option Turn
last_turn p workers worker start log = turn_from p workers worker start None log

-- k comes before h in the rotation that begins after g: first the harts above g and then the rest, each by number, so that g is last
abbrev pub comes_before : (g k h : ℕ) → Bool
comes_before g k h = if nat_lt g k then nat_le h g || nat_lt k h else nat_le h g && nat_lt k h

-- none of the worker's harts that come before h is live
abbrev pub NoneBefore : (workers worker g h : ℕ) → State → Type 0
NoneBefore workers worker g h s = (k : ℕ) → k % workers ≡ worker → comes_before g k h ≡ true → is_live (hart_in s.harts k).status ≡ false

-- none of them was live right after the worker's last visit, if it made one
abbrev pub IsNext : (workers worker : ℕ) → Option Turn → (h : ℕ) → Type 0
IsNext workers worker None h = Unit {0}
IsNext workers worker (Some t) h = NoneBefore workers worker t.hart h t.state

-- a visit of hart h is in turn, and it ends early only where the hart can't go on
pub record Serves (p : Picture) (start : State) (workers : ℕ) (before : List Event) (h n : ℕ) : Type 0 where
  pub full : (n == visit_limit || not (can_step h (original_run p (replicate n h) (state_at p start before)))) ≡ true
  pub next : IsNext workers (h % workers) (last_turn p workers (h % workers) start before) h

abbrev pub TurnFits : Picture → State → (workers : ℕ) → List Event → Event → Type 0
TurnFits p start workers before (Real h n) = Serves p start workers before h n
TurnFits p start workers before _ = Unit {0}

abbrev pub Served : Picture → State → (workers : ℕ) → List Event → Type 0
Served p start workers log = Each (TurnFits p start workers) log
