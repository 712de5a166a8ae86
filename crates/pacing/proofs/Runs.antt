-- What the steps of one entry leave of the harts.
use Rattle.std.proofs.Common.{◌≢◌, ℕ, zero, suc, ◌≤◌, List, [], ◌∷◌, length, replicate, arith}
use Rattle.image.specs.Picture.{Picture}
use Rattle.machine.specs.States.{State}
use Rattle.machine.specs.Steps.{original_step, original_run}
use Rattle.pacing.specs.Waiters.{ListsNoLive}
use Rattle.pacing.proofs.Others.{IsLiveIn, step_leaves, off_list}

pub made_by_run : (p : Picture) (hs : List ℕ) (s : State) → length s.harts ≤ length (original_run p hs s).harts
made_by_run p [] s = omega arith
made_by_run p (h ∷ hs) s =
    let step = (step_leaves p h s).made in
    let rest = made_by_run p hs (original_step p h s) in
    omega (arith, step, rest)

pub listed_by_run : (p : Picture) (hs : List ℕ) (s : State) → ListsNoLive s → ListsNoLive (original_run p hs s)
listed_by_run p [] s none = none
listed_by_run p (h ∷ hs) s none = listed_by_run p hs (original_step p h s) ((step_leaves p h s).listed none)

pub live_by_visit : (p : Picture) (h n k : ℕ) (s : State) → ListsNoLive s → h ≢ k → IsLiveIn s.harts k → IsLiveIn (original_run p (replicate n h) s).harts k
live_by_visit p h zero k s none apart live = live
live_by_visit p h (suc n) k s none apart live =
    let step = step_leaves p h s in
    live_by_visit p h n k (original_step p h s) (step.listed none) apart (step.live k apart (off_list k s none live) live)
