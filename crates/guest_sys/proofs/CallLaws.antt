-- How calls end that leave memory alone.
use Rattle.std.proofs.Common.{◌≡◌, ℕ, [], Result, Ok, Err, refl, ap, sym}
use Rattle.oc_base.specs.declared.fault.NoMemory.{NoMemory}
use Rattle.guest_mem.specs.Memory.{Memory}
use Rattle.guest_sys.specs.declared.effect.Effect.{Effect}
use Rattle.guest_sys.specs.State.{State}
use Rattle.guest_sys.specs.Calls.{Done, Ends, Rests, all_changed}

pub rests_ends : (origin : ℕ → ℕ) (d : Done) (s s' : State) (m : Memory) (r : Result Effect NoMemory) → d.changes ≡ [] → Rests d s s' r → Ends origin d s s' m m r
rests_ends origin d s s' m (Ok effect) none h = (h.0, h.1, sym (ap (all_changed origin m) none))
rests_ends origin d s s' m (Err e) none h = (h, refl)
