-- The definitions, on small logs by hand.
use Rattle.std.proofs.Common.{◌≡◌, ℕ, ◌+◌, ◌<◌, ◌≤◌, Bool, true, false, [], ◌∷◌, length, refl, arith}
use Rattle.std.specs.Prelude.{not, ◌&&◌, nat_le, is_some}
use Rattle.image.specs.Picture.{Picture}
use Rattle.sched_log.specs.declared.event.Event.TheVariants.{Real, Snap, Replace, Retire}
use Rattle.machine.specs.States.{State}
use Rattle.pacing.specs.Clocks.{clock_from, reals}
use Rattle.pacing.specs.Logs.{state_at}
use Rattle.pacing.specs.Pacing.{IsVisit, Paced}
use Rattle.pacing.specs.Serving.{comes_before}
use Rattle.pacing.proofs.Kept.{begun, left, landed, snapped, attempted, paced}

-- a visit of 65 steps is too long
long_visit : (p : Picture) (start : State) (every h : ℕ) → Paced p start every (Real h 65 ∷ []) → ⊥
long_visit p start every h k = let visit = (k.each [] (Real h 65) [] refl).visit in let most = visit.most in absurd (omega (arith, most))

-- a Replace without a Retire
lone_replace : (p : Picture) (start : State) (every : ℕ) → Paced p start every (Replace ∷ []) → ⊥
unfolding clock_from
lone_replace p start every k = let owed : true ≡ false = (k.each [] Replace [] refl).replace in cc

-- a Retire without a snapshot
lone_retire : (p : Picture) (start : State) (every : ℕ) → Paced p start every (Retire ∷ Replace ∷ []) → ⊥
unfolding clock_from
lone_retire p start every k = let pending : false ≡ true = (k.each [] Retire (Replace ∷ []) refl).attempt refl in cc

-- real steps are added up
sums : reals (Real 0 64 ∷ Snap ∷ Real 1 3 ∷ []) ≡ 67
unfolding clock_from
sums = refl

-- after hart 5 comes 6, and so on, then 0, and hart 5 last
above_first : comes_before 5 6 0 ≡ true
above_first = refl

by_number : comes_before 5 6 7 ≡ true
by_number = refl

itself_last : comes_before 5 4 5 ≡ true
itself_last = refl

not_above : comes_before 5 0 6 ≡ false
not_above = refl

not_itself : comes_before 5 5 4 ≡ false
not_itself = refl

enough : (every n : ℕ) (over : Bool) → every ≤ n → over ≡ false → (not false && nat_le (every + 0) (0 + n) && not over) ≡ true
enough every n over long goes_on = grind (arith, long, goes_on)

-- a visit with enough real steps, a Snap, and its attempt
whole_round : (p : Picture) (start : State) (every h n : ℕ) → 0 < every → every ≤ n → IsVisit p start h n → 0 < length start.harts
    → is_some start.outcome ≡ false → is_some (state_at p start (Real h n ∷ [])).outcome ≡ false
    → Paced p start every (Real h n ∷ Snap ∷ Retire ∷ Replace ∷ [])
unfolding clock_from
whole_round p start every h n some long visit room goes_on still =
    let away = left p start every 0 [] (begun p start every some) goes_on (omega (arith, room)) in
    let home = landed p start every 0 false [] h n away visit in
    let owed = enough every n (is_some (state_at p start (Real h n ∷ [])).outcome) long still in
    let taken = snapped p start every 0 false (Real h n ∷ []) some owed home in
    let used = attempted p start every 0 false (Real h n ∷ Snap ∷ []) some refl taken.opened in
    paced p start every 0 false (Real h n ∷ Snap ∷ Retire ∷ Replace ∷ []) used
