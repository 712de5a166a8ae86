-- What is kept of a run, and of its log inside a lock section and between two, while harts may be away. Source: this project.
use Rattle.std.specs.Prelude.{◌≡◌, ℕ, ◌+◌, ◌-◌, ◌^◌, ◌%◌, ◌<◌, min, true, false, is_some, List, length, slice_get, Option, Some, None}
use Rattle.std.specs.Option.{option_map}
use Rattle.placer.specs.Planned.{IsPlanFor}
use Rattle.plans.specs.declared.plan.Moved.{Moved}
use Rattle.plans.specs.Given.{plan_fault}
use Rattle.sched_log.specs.declared.event.Event.{Event}
use Rattle.machine.specs.Harts.{is_live, hart_in}
use Rattle.machine.specs.States.{State}
use Rattle.pacing.specs.Limits.{entry_limit}
use Rattle.pacing.specs.Clocks.{Clock, clock_of}
use Rattle.pacing.specs.Serving.{Turn, last_turn, NoneBefore, IsNext, Served}
use Rattle.pacing.specs.Keeping.{IsOpen, IsSettled, StillLive}
use Rattle.pacing.specs.Bounds.{IsLimited, IsBounded}
use Rattle.recorder.specs.declared.marks.Marks.{Marks}
use Rattle.recorder.specs.Recording.{Recorded}
use Rattle.stop_gate.specs.Gates.{Gated, is_away, aways}
use Rattle.world.specs.Worlds.{Related, started}
use Rattle.run_book.specs.Terms.{Terms, start_in, state_in}
use Rattle.run_book.specs.Told.{told, MakesAll, BeginsWith}

-- the count and the marks of a recorder are those of its log's clock
pub record IsMarked (c : Clock) (real : ℕ) (m : Marks) : Type 0 where
  pub real_is : c.real ≡ real
  pub attempted_at : c.attempted_at ≡ m.attempted_at
  pub snapped_at : c.snapped_at ≡ m.snapped_at
  pub pending : c.pending ≡ m.pending

-- The run so far, which is kept even out of memory.
pub record IsRunOf (t : Terms) (r : Recorded) : Type 0 where
  -- the world is what its log makes of the start
  pub made : MakesAll (told r) (started t.image t.ring t.input) r.at
  pub begins : BeginsWith (told r) t.begins
  -- it stands for the state to which the original machine comes by the log's real steps
  pub related : Related r.at (state_in t (told r))
  pub image : r.at.image ≡ t.image
  pub marked : IsMarked (clock_of (told r)) r.at.counts.real r.marks
  pub closed : r.journal.is_open ≡ false
  -- a whole visit of each hart that is away is still within the limit
  pub limited : IsLimited t.image (start_in t) t.limit (aways r.gate) (told r)

abbrev pub turn_of : Terms → (worker : ℕ) → List Event → Option Turn
turn_of t worker log = last_turn t.image t.workers worker (start_in t) log

-- each worker's harts that were live right after its last visit are live now
abbrev pub AreLive : Terms → List Event → Type 0
AreLive t log = (worker : ℕ) → StillLive t.workers worker (turn_of t worker log) (state_in t log)

-- a hart that is away is the next of its worker, and the only one of it that is away
pub record AreChosen (t : Terms) (g : Gated) (log : List Event) : Type 0 where
  pub next : (h : ℕ) → is_away g h ≡ true → IsNext t.workers (h % t.workers) (turn_of t (h % t.workers) log) h
  pub one : (h k : ℕ) → is_away g h ≡ true → is_away g k ≡ true → h % t.workers ≡ k % t.workers → h ≡ k

-- the log inside a lock section, with so many entries to spare: a Snap or an attempt may be owed
pub record IsAmid (t : Terms) (spare : ℕ) (g : Gated) (log : List Event) : Type 0 where
  pub opened : IsOpen t.image (start_in t) t.every (aways g) log
  pub served : Served t.image (start_in t) t.workers log
  pub bounded : IsBounded t.image (start_in t) (aways g) spare log
  pub live : AreLive t log
  pub chosen : AreChosen t g log

-- the log between two of them: nothing is owed, or else a stop is wanted
pub record IsAtRest (t : Terms) (g : Gated) (log : List Event) : Type 0 where
  pub settled : IsSettled t.image (start_in t) t.every (aways g) g.wanted log
  pub served : Served t.image (start_in t) t.workers log
  pub bounded : IsBounded t.image (start_in t) (aways g) 0 log
  pub live : AreLive t log
  pub chosen : AreChosen t g log

-- each worker's last hart
abbrev pub AreLast : Terms → List (Option ℕ) → List Event → Type 0
AreLast t last log =
    (worker : ℕ) → worker < t.workers → slice_get last worker ≡ Some (option_map (λ (u : Turn). u.hart) (turn_of t worker log))

-- the run goes on: a visit may begin
pub record GoesOn (limit : ℕ) (r : Recorded) : Type 0 where
  pub outcome : is_some r.at.machine.outcome ≡ false
  pub steps : r.at.counts.real < limit
  pub entries : length r.journal.entries < entry_limit

-- the plan of the snapshot that is pending
pub record FitsNow (plan : List Moved) (r : Recorded) : Type 0 where
  pub is : IsPlanFor r.at.image r.at.snapshot plan
  pub given : plan_fault r.at.image plan ≡ None
  pub pending : r.marks.pending ≡ true

-- hart h is the next live one of a worker that served this one last
abbrev pub ComesNext : (workers worker : ℕ) → (served : Option ℕ) → (h : ℕ) → State → Type 0
ComesNext workers worker None h s = Unit {0}
ComesNext workers worker (Some g) h s = NoneBefore workers worker g h s

-- where the rotation after a hart begins, by numbers of 32 bits
abbrev pub begins_at : Option ℕ → ℕ
begins_at None = 0
begins_at (Some g) = min (g + 1) (2 ^ 32 - 1)

pub record IsChosen (workers worker : ℕ) (served : Option ℕ) (h : ℕ) (s : State) : Type 0 where
  pub live : is_live (hart_in s.harts h).status ≡ true
  pub own : h % workers ≡ worker
  pub next : ComesNext workers worker served h s
