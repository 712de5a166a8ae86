-- A hart that has left the lock, what its notes are good for, and the list of comparisons that lets it come home. Source: this project.
use Rattle.std.specs.Prelude.{◌≡◌, ℕ, ◌+◌, ◌≤◌, Bool, true, false, ◌&&◌, List, [], ◌∷◌, ◌++◌, length, filter, Option, Some, None, if◌then◌else◌}
use Rattle.std.specs.List.{flat_map}
use Rattle.link_tags.specs.declared.value.Value.{Value}
use Rattle.hart.specs.declared.hart.Hart.{Hart}
use Rattle.layout.specs.Points.{Code}
use Rattle.machine.specs.Harts.{is_live, hart_in}
use Rattle.sim_laws.specs.Origins.{origin, origin_of}
use Rattle.world.specs.Runs.{real_steps_of}
use Rattle.world.specs.Worlds.{Replaced, IsWorld, code_of}
use Rattle.world.specs.Adopting.{Flight, adopted, Goes, Shown, code_shown}
use Rattle.ahead.specs.declared.home.Stranger.{Stranger}
use Rattle.ahead.specs.declared.note.Note.{Note}
use Rattle.ahead.specs.declared.note.Sort.{Sort}
use Rattle.ahead.specs.declared.note.Sort.TheVariants.{Layout, Transfer}
use Rattle.ahead.specs.Notes.{yes_no, tag_number, first_apart, compared_notes}

-- registers and pc
pub record Place : Type 0 where
  pub regs : List Value
  pub pc : ℕ

abbrev pub place_of : Hart → Place
place_of k = record { regs = k.regs; pc = k.pc }

pub record Flown : Type 0 where
  pub hart : ℕ
  -- the number of the code, and that of the hart's events, at its leaving
  pub code : ℕ
  pub steps : ℕ
  pub from : Place
  pub now : Place
  -- the real steps since, and a note of each of its steps
  pub made : ℕ
  pub notes : List Note
  -- the code that it goes by
  pub shared : Shown

-- ---- what it did, by its notes
abbrev pub is_layout_sort : Sort → Bool
is_layout_sort Layout = true
is_layout_sort _ = false

abbrev pub is_transfer_sort : Sort → Bool
is_transfer_sort Transfer = true
is_transfer_sort _ = false

abbrev pub is_layout_note : Note → Bool
is_layout_note n = is_layout_sort n.sort

abbrev pub is_transfer_note : Note → Bool
is_transfer_note n = is_transfer_sort n.sort

abbrev pub original_place : Note → ℕ
original_place n = origin_of n.at (Some n.point)

-- the original place of the first note, or another where there is none
abbrev pub first_place : List Note → ℕ → ℕ
first_place [] last = last
first_place (n ∷ ns) last = original_place n

-- the transfers of its real steps, where the last of them leads to an original place
abbrev pub transfers_to : ℕ → List Note → List (ℕ × ℕ)
transfers_to last [] = []
transfers_to last (n ∷ ns) =
    (if is_transfer_note n then (original_place n, first_place ns last) ∷ [] else []) ++ transfers_to last ns

-- so many real steps to a place, by the code now
abbrev pub flight_to : Code → Place → (real : ℕ) → List Note → Flight
flight_to c to real notes = record {
  regs = to.regs;
  pc = to.pc;
  real = real;
  layout = length (filter is_layout_note notes);
  transfers = transfers_to (origin c to.pc) notes;
}

abbrev pub flight_of : Code → Flown → Flight
flight_of c a = flight_to c a.now a.made a.notes

-- ---- what its notes are good for
-- hart h goes on from a place
pub record IsAt (h : ℕ) (at : Place) (w : Replaced) : Type 0 where
  pub goes : Goes h w
  pub regs : (hart_in w.machine.harts h).regs ≡ at.regs
  pub pc : (hart_in w.machine.harts h).pc ≡ at.pc

-- what stands now is what the notes say
abbrev pub Agree : Replaced → List Note → Type 0
Agree w notes = first_apart (compared_notes w.image (code_of w) notes) ≡ None

-- In whatever world hart h is at the first place and the notes agree with what stands, so many real steps lead it to the second, and change nothing else but
-- the counts and its last transfers.
pub record Leads (h real : ℕ) (from to : Place) (notes : List Note) : Type 0 where
  pub leads : (w : Replaced) → IsWorld w → IsAt h from w → Agree w notes → real_steps_of real h w ≡ adopted h (flight_to (code_of w) to real notes) w

-- each note says what stands in this code
abbrev pub AreSeen : Shown → List Note → Type 0
AreSeen s notes = first_apart (compared_notes s.image (code_shown s) notes) ≡ None

-- what each hart that is away keeps
pub record IsFlight (a : Flown) : Type 0 where
  pub most : a.made ≤ 64
  -- the notes are those of the code that it goes by
  pub seen : AreSeen a.shared a.notes
  pub leads : Leads a.hart a.made a.from a.now a.notes

-- ---- what lets it come home
-- registers, of which there are as many in each hart
abbrev pub compared_values : List Value → List Value → List (ℕ × ℕ)
compared_values (v ∷ vs) (w ∷ ws) = (v.number, w.number) ∷ (tag_number v.tag, tag_number w.tag) ∷ compared_values vs ws
compared_values [] [] = []
compared_values [] (w ∷ ws) = (0, 1) ∷ []
compared_values (v ∷ vs) [] = (1, 0) ∷ []

-- What stands now, and what was brought: whether the hart is away and live, the number of the code, that of the hart's events, pc, its registers, and its notes. x0 is
-- compared by the place that is kept for it.
unfoldable pub compared : (is_away : Bool) → (code steps : ℕ) → Replaced → Flown → List (ℕ × ℕ)
compared is_away code steps w a =
    (yes_no (is_away && is_live (hart_in w.machine.harts a.hart).status), 1)
    ∷ (code, a.code)
    ∷ (steps, a.steps)
    ∷ ((hart_in w.machine.harts a.hart).pc, a.from.pc)
    ∷ compared_values (hart_in w.machine.harts a.hart).regs a.from.regs ++ compared_notes w.image (code_of w) a.notes

-- all that it rested on stands
abbrev pub MayComeHome : Replaced → Flown → Type 0
MayComeHome w a = first_apart (compared true a.code a.steps w a) ≡ None

-- two numbers that differ, as an error
abbrev pub stranger_of : ℕ × ℕ → Stranger
stranger_of c = record { kept = c.0; brought = c.1 }
