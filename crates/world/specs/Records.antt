-- What a world's rings record, and snapshots of them. Source: this project.
use Rattle.std.specs.Prelude.{◌≡◌, ℕ, Bool, true, false, List, map, is_some, Result, Ok, Err}
use Rattle.std.specs.List.{range_with_len}
use Rattle.oc_base.specs.declared.fault.NoMemory.{NoMemory}
use Rattle.image.specs.Picture.{Picture}
use Rattle.branch_ring.specs.declared.counted.Counted.{Counted}
use Rattle.branch_ring.specs.Rings.{Notes, last}
use Rattle.branch_ring.specs.Profiles.{IsProfile, all_pairs}
use Rattle.guest_sys.specs.Limits.{hart_limit}
use Rattle.machine.specs.States.{State}
use Rattle.machine.specs.Transfers.{original_transfers}
use Rattle.world.specs.Worlds.{Replaced, more}

-- for each hart the last transfers that it makes in the original machine's run from o by these harts
unfoldable pub rings_of : Picture → (ring : ℕ) → List ℕ → State → List Notes
rings_of p ring hs o = map (λ h. record { room = ring; pairs = last ring (original_transfers p h hs o) }) (range_with_len 0 hart_limit)

-- the world's rings are these
abbrev pub Records : (ring : ℕ) → Replaced → State → List ℕ → Type 0
Records ring w o hs = w.rings ≡ rings_of w.image ring hs o

-- a snapshot counts what all rings keep, and takes the place of the one before
pub record IsSnapped (w v : Replaced) : Type 0 where
  pub profile : List Counted
  pub counts : IsProfile (all_pairs w.rings) profile
  pub is : v ≡ record w { snapshot = profile; counts = record w.counts { snaps = more w.counts.snaps } }

-- A snapshot's answer, and the world then: out of memory, nothing is changed; a run that has ended changes no more.
abbrev pub SnapsAs : Replaced → (has_ended : Bool) → Result Unit NoMemory → Replaced → Type 0
SnapsAs w true (Ok u) v = v ≡ w
SnapsAs w true (Err e) v = ⊥
SnapsAs w false (Ok u) v = IsSnapped w v
SnapsAs w false (Err e) v = v ≡ w

-- what a snapshot that doesn't run out of memory makes of a world
pub data Snaps (w v : Replaced) : Type 0 where
  over : is_some w.machine.outcome ≡ true → v ≡ w → Snaps w v
  done : is_some w.machine.outcome ≡ false → IsSnapped w v → Snaps w v
