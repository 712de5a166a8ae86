-- What the book behind the lock keeps, and how a run ends. Source: this project.
use Rattle.std.specs.Prelude.{◌≡◌, ◌≤◌, ◌<◌, ◌%◌, ℕ, ◌⊎◌, Bool, true, false, length, slice_get, Option, Some, None}
use Rattle.machine.specs.Harts.{is_live, hart_in}
use Rattle.machine.specs.States.{State}
use Rattle.pacing.specs.Limits.{entry_limit}
use Rattle.placer.specs.Placing.{Answer}
use Rattle.recorder.specs.Recording.{Recorded}
use Rattle.run_book.specs.declared.ended.Ended.{Ended}
use Rattle.run_book.specs.declared.ended.Ended.TheVariants as ended
use Rattle.run_book.specs.declared.running.Running.{Running}
use Rattle.run_book.specs.Terms.{Terms, AreFair}
use Rattle.run_book.specs.Told.{told}
use Rattle.run_book.specs.Sections.{IsRunOf, IsAmid, IsAtRest, AreLast, IsChosen}
use Rattle.stop_gate.specs.Gates.{Gated, is_away}

-- What a lock lets see of the book: the run so far, whether being out of memory has ended it, how many snapshots were taken, whether no
-- placer has taken the last one yet, the plan that has come, and how many harts came home as strangers.
pub record Booked : Type 0 where
  pub world : Recorded
  pub spent : Bool
  pub number : ℕ
  pub has_job : Bool
  pub plan : Option Answer
  pub strangers : ℕ

-- what a worker holds of the ledger: so many parts, and the real steps that it has counted
pub record Held : Type 0 where
  pub parts : ℕ
  pub made : ℕ

-- the numbers of the terms
pub record HasTerms (t : Terms) (r : Running) : Type 0 where
  pub fair : AreFair t
  pub workers : r.workers ≡ t.workers
  pub every : r.every ≡ t.every
  pub limit : r.limit ≡ t.limit

-- a run between two lock sections, of which the ledger has counted so many real steps
pub record IsBook (t : Terms) (total : ℕ) (r : Running) : Type 0 where
  pub terms : HasTerms t r
  pub run : IsRunOf t r.recorder
  pub sum : total ≡ r.recorder.at.counts.real
  pub rests : r.spent ≡ false → IsAtRest t r.recorder.gate (told r.recorder)
  pub last : r.spent ≡ false → AreLast t r.last.items (told r.recorder)

-- the same right after a visit
pub record IsVisited (t : Terms) (total : ℕ) (r : Running) : Type 0 where
  pub terms : HasTerms t r
  pub run : IsRunOf t r.recorder
  pub sum : total ≡ r.recorder.at.counts.real
  pub amid : r.spent ≡ false → IsAmid t 3 r.recorder.gate (told r.recorder)
  pub last : r.spent ≡ false → AreLast t r.last.items (told r.recorder)

-- none of a worker's harts is away
abbrev pub NoneOut : (workers worker : ℕ) → Gated → Type 0
NoneOut workers worker g = (h : ℕ) → h % workers ≡ worker → is_away g h ≡ false

-- hart h is the one that a worker serves next
pub record MayServe (worker h : ℕ) (r : Running) : Type 0 where
  pub is_worker : worker < r.workers
  pub has_last : worker < length r.last.items
  pub chosen : (g : Option ℕ) → slice_get r.last.items worker ≡ Some g → IsChosen r.workers worker g h r.recorder.at.machine

-- why a run has ended: with an outcome, or else at the limit of real steps or of entries
abbrev pub Ends : (limit : ℕ) → Recorded → Ended → Type 0
Ends limit r (ended.Outcome o) = r.at.machine.outcome ≡ Some o
Ends limit r ended.Limit = (r.at.machine.outcome ≡ None) × ((limit ≤ r.at.counts.real) ⊎ (entry_limit ≤ length r.journal.entries))

-- memory ran out, or the run has an outcome or has come to a limit
abbrev pub HasEnded : Running → Type 0
HasEnded r = (r.spent ≡ true) ⊎ ((e : Ended) × Ends r.limit r.recorder e)

-- nothing is left to do: memory ran out, or the run has ended
abbrev pub IsDone : (limit : ℕ) → Booked → Type 0
IsDone limit b = (b.spent ≡ true) ⊎ ((e : Ended) × Ends limit b.world e)

-- one of a worker's harts is live
abbrev pub HasLive : (workers worker : ℕ) → State → Type 0
HasLive workers worker s = (h : ℕ) × (h % workers ≡ worker) × (is_live (hart_in s.harts h).status ≡ true)
