-- A snapshot changes no code and no machine.
use Rattle.std.proofs.Common.{◌≡◌, ℕ, Bool, true, false, List, sym, ap, subst}
use Rattle.std.specs.Prelude.{Result, Ok, Err, OnOk, is_some}
use Rattle.oc_base.specs.declared.fault.NoMemory.{NoMemory}
use Rattle.branch_ring.specs.Rings.{Notes}
use Rattle.branch_ring.specs.Profiles.{IsProfile, all_pairs}
use Rattle.guest_sys.specs.State.{IsOrderly}
use Rattle.machine.specs.States.{State}
use Rattle.world.specs.Worlds.{Replaced, IsWorld, Related}
use Rattle.world.specs.Records.{rings_of, Records, IsSnapped, SnapsAs, Snaps, over, done}

snapped_related : (w v : Replaced) → IsSnapped w v → (o : State) → Related w o → Related v o
snapped_related w v h o r = subst (λ (x : Replaced). Related x o) (sym h.is) (record { states = r.states; sound = r.sound })

snapped_records : (w v : Replaced) → IsSnapped w v → (ring : ℕ) (o : State) (hs : List ℕ) → Records ring w o hs → Records ring v o hs
snapped_records w v h ring o hs s = subst (λ (x : Replaced). Records ring x o hs) (sym h.is) s

same_related : (w v : Replaced) → v ≡ w → (o : State) → Related w o → Related v o
same_related w v e o r = subst (λ (x : Replaced). Related x o) (sym e) r

pub same_records : (w v : Replaced) → v ≡ w → (ring : ℕ) (o : State) (hs : List ℕ) → Records ring w o hs → Records ring v o hs
same_records w v e ring o hs s = subst (λ (x : Replaced). Records ring x o hs) (sym e) s

-- ---- a call's answer
pub answer_related : (w v : Replaced) (b : Bool) (answer : Result Unit NoMemory) → SnapsAs w b answer v → (o : State) → Related w o → Related v o
answer_related w v true (Ok u) a = same_related w v a
answer_related w v true (Err e) a = absurd a
answer_related w v false (Ok u) a = snapped_related w v a
answer_related w v false (Err e) a = same_related w v a

pub answer_records : (w v : Replaced) (b : Bool) (answer : Result Unit NoMemory) → SnapsAs w b answer v → (ring : ℕ) (o : State) (hs : List ℕ) → Records ring w o hs → Records ring v o hs
answer_records w v true (Ok u) a = same_records w v a
answer_records w v true (Err e) a = absurd a
answer_records w v false (Ok u) a = snapped_records w v a
answer_records w v false (Err e) a = same_records w v a

snapped_profile : (w v : Replaced) → IsSnapped w v → (ring : ℕ) (o : State) (hs : List ℕ) → Records ring w o hs → IsProfile (all_pairs (rings_of w.image ring hs o)) v.snapshot
snapped_profile w v h ring o hs s =
    subst (λ (x : Replaced). IsProfile (all_pairs (rings_of w.image ring hs o)) x.snapshot) (sym h.is)
    (subst (λ (rs : List Notes). IsProfile (all_pairs rs) h.profile) s h.counts)

pub answer_profile : (w v : Replaced) (b : Bool) (answer : Result Unit NoMemory) → SnapsAs w b answer v
    → OnOk answer (b ≡ false → (ring : ℕ) (o : State) (hs : List ℕ) → Records ring w o hs → IsProfile (all_pairs (rings_of w.image ring hs o)) v.snapshot)
answer_profile w v true (Ok u) a = λ e. absurd cc
answer_profile w v true (Err e) a = absurd a
answer_profile w v false (Ok u) a = λ e. snapped_profile w v a
answer_profile w v false (Err e) a = tt

-- ---- a snapshot in a run
pub snaps_sound : (w v : Replaced) → Snaps w v → IsWorld w → IsWorld v
snaps_sound w v (over b f) s = subst IsWorld (sym f) s
snaps_sound w v (done b h) s = subst IsWorld (sym h.is) s

pub snaps_related : (w v : Replaced) (o : State) → Snaps w v → Related w o → Related v o
snaps_related w v o (over b f) r = same_related w v f o r
snaps_related w v o (done b h) r = snapped_related w v h o r

pub snaps_records : (w v : Replaced) → Snaps w v → (ring : ℕ) (o : State) (hs : List ℕ) → Records ring w o hs → Records ring v o hs
snaps_records w v (over b f) = same_records w v f
snaps_records w v (done b h) = snapped_records w v h

pub snaps_orderly : (w v : Replaced) → Snaps w v → IsOrderly w.machine.system → IsOrderly v.machine.system
snaps_orderly w v (over b f) q = subst (λ (x : Replaced). IsOrderly x.machine.system) (sym f) q
snaps_orderly w v (done b h) q = subst (λ (x : Replaced). IsOrderly x.machine.system) (sym h.is) q

pub snaps_image : (w v : Replaced) → Snaps w v → v.image ≡ w.image
snaps_image w v (over b f) = ap (λ (x : Replaced). x.image) f
snaps_image w v (done b h) = ap (λ (x : Replaced). x.image) h.is

pub snaps_ended : (w v : Replaced) → Snaps w v → is_some w.machine.outcome ≡ true → v ≡ w
snaps_ended w v (over b f) e = f
snaps_ended w v (done b h) e = absurd (cc)
