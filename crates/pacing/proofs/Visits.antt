-- A visit, step by step.
use Rattle.std.proofs.Common.{◌≡◌, ℕ, zero, suc, ◌+◌, ◌<◌, Bool, true, false, replicate, refl, sym, ◌∙◌, add-one, arith}
use Rattle.std.specs.Prelude.{not, ◌&&◌, is_some, length}
use Rattle.image.specs.Picture.{Picture}
use Rattle.machine.specs.Harts.{is_live, hart_in}
use Rattle.machine.specs.States.{State}
use Rattle.machine.specs.Steps.{can_step, original_step, original_run}
use Rattle.machine.proofs.HartLists.{live_made}
use Rattle.pacing.specs.Pacing.{can_make, IsVisit}

both : (a b : Bool) → (a && b) ≡ true → (a ≡ true) × (b ≡ true)
both a b e = (grind (arith, e), grind (arith, e))

one_more : (p : Picture) (n h : ℕ) (s : State) → can_make p n h s ≡ true → can_step h (original_run p (replicate n h) s) ≡ true → can_make p (suc n) h s ≡ true
one_more p zero h s made can = rw can refl
one_more p (suc n) h s made can =
    let parts = both (can_step h s) (can_make p n h (original_step p h s)) made in
    rw (parts.0) (one_more p n h (original_step p h s) parts.1 can)

pub makes_more : (p : Picture) (n h : ℕ) (s : State) → can_make p n h s ≡ true → can_step h (original_run p (replicate n h) s) ≡ true → can_make p (n + 1) h s ≡ true
makes_more p n h s made can = rw (add-one n) (one_more p n h s made can)

pub makes_some : (p : Picture) (n h : ℕ) (s : State) → can_step h s ≡ true → can_step h (original_run p (replicate n h) s) ≡ false → 0 < n
makes_some p zero h s can stopped = let clash : true ≡ false = sym can ∙ stopped in absurd (cc)
makes_some p (suc n) h s can stopped = omega arith

-- a visit makes a step, so its hart was live, and the run not over
first_step : (p : Picture) (s : State) (h n : ℕ) → 0 < n → can_make p n h s ≡ true → can_step h s ≡ true
first_step p s h zero some made = absurd (omega (arith, some))
first_step p s h (suc n) some made = (both (can_step h s) (can_make p n h (original_step p h s)) made).0

goes_on : (over live : Bool) → (not over && live) ≡ true → (over ≡ false) × (live ≡ true)
goes_on true live can = absurd (cc)
goes_on false live can = (refl, can)

pub not_over : (p : Picture) (s : State) (h n : ℕ) → IsVisit p s h n → is_some s.outcome ≡ false
not_over p s h n visit = (goes_on (is_some s.outcome) (is_live (hart_in s.harts h).status) (first_step p s h n visit.some visit.live)).0

pub was_made : (p : Picture) (s : State) (h n : ℕ) → IsVisit p s h n → h < length s.harts
was_made p s h n visit = live_made s.harts h (goes_on (is_some s.outcome) (is_live (hart_in s.harts h).status) (first_step p s h n visit.some visit.live)).1
