-- What a worker's next hart tells.
use Rattle.std.proofs.Common.{◌≡◌, ℕ, zero, suc, ◌<◌, true, List, [], ◌∷◌, length, refl, arith}
use Rattle.std.specs.Prelude.{◌%◌, is_some, slice_get, Option, Some, None, IfSome}
use Rattle.run_book.specs.declared.running.Running.{Running}
use Rattle.run_book.specs.Sections.{IsChosen}
use Rattle.run_book.specs.Booked.{MayServe, HasLive}

got : (xs : List (Option ℕ)) (k : ℕ) → k < length xs → (g : Option ℕ) × slice_get xs k ≡ Some g
got [] k lt = absurd (omega (arith, lt))
got (x ∷ xs) zero lt = (x, refl)
got (x ∷ xs) (suc k) lt = got xs k (omega (arith, lt))

may_live : (worker h : ℕ) (r : Running) → MayServe worker h r → HasLive r.workers worker r.recorder.at.machine
may_live worker h r may =
    let served = got r.last.items worker may.has_last in
    let chosen : IsChosen r.workers worker served.0 h r.recorder.at.machine = may.chosen served.0 served.1 in
    (h, chosen.own, chosen.live)

pub next_live : (worker : ℕ) (next : Option ℕ) (r : Running) → IfSome next (λ h. MayServe worker h r) → is_some next ≡ true → HasLive r.workers worker r.recorder.at.machine
next_live worker None r may some = absurd (cc)
next_live worker (Some h) r may some = may_live worker h r may

pub may_own : (worker h : ℕ) (r : Running) → MayServe worker h r → h % r.workers ≡ worker
may_own worker h r may =
    let served = got r.last.items worker may.has_last in
    let chosen : IsChosen r.workers worker served.0 h r.recorder.at.machine = may.chosen served.0 served.1 in
    chosen.own
