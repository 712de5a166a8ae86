-- How long the text of such a log is, and that it reads back.
use Rattle.std.proofs.Common.{ℕ, ◌+◌, ◌*◌, ◌≤◌, List, [], ◌∷◌, ◌++◌, length, refl, arith}
use Rattle.std.specs.Prelude.{decimal, flat_map}
use Rattle.std.specs.List.{AllByRecursion}
use Rattle.std.proofs.lemmas.Fmt.{length-decimal-le}
use Rattle.std.proofs.lemmas.List.{length-append}
use Rattle.image.specs.Picture.{Picture, IsKept}
use Rattle.machine.specs.States.{State}
use Rattle.sched_log.specs.declared.event.Event.{Event}
use Rattle.sched_log.specs.declared.event.Event.TheVariants.{Steps, Real, Till, Snap, Replace, Given, Retire}
use Rattle.sched_log.specs.Printed.{line_text, terminated, printed, ReadsAs}
use Rattle.sched_log.proofs.RoundTrip.{reads_back}
use Rattle.pacing.specs.Logs.{state_at}
use Rattle.pacing.specs.Clocks.{reals}
use Rattle.pacing.specs.Pacing.{Paced}
use Rattle.record_laws.proofs.Ranging.{IsOwn, all_own, all_short, ranged}

two_digits : (n : ℕ) → n ≤ 64 → length (decimal n) ≤ 2
two_digits n le = length-decimal-le 2 n (omega arith) (omega (arith, le)) (omega (arith, le))

line_length : (e : Event) → IsOwn e → length (terminated (line_text e)) ≤ 11
line_length (Real h n) o =
    let hart = two_digits h (omega (arith, o.0)) in
    let steps = two_digits n o.1 in
    let whole = length-append (decimal h) (32 ∷ decimal n) in
    let all = length-append (decimal h ++ 32 ∷ decimal n) (10 ∷ []) in
    omega (arith, hart, steps, whole, all)
line_length Snap o = omega arith
line_length Replace o = omega arith
line_length Retire o = omega arith
line_length (Steps h n) o = absurd o
line_length (Till n) o = absurd o
line_length (Given plan) o = absurd o

lines_length : (log : List Event) → AllByRecursion IsOwn log → length (flat_map (λ e. terminated (line_text e)) log) ≤ 11 * length log
lines_length [] o = omega arith
lines_length (e ∷ es) o =
    let one = line_length e o.0 in
    let rest = lines_length es o.1 in
    let all = length-append (terminated (line_text e)) (flat_map (λ e. terminated (line_text e)) es) in
    omega (arith, one, rest, all)

pub text_length : (p : Picture) (start : State) (every : ℕ) (log : List Event) → Paced p start every log → length (state_at p start log).harts ≤ 64 → length (printed log) ≤ 11 * length log + 4
unfolding printed
text_length p start every log paced few =
    let lines = lines_length log (all_own p start every log paced few) in
    let all = length-append (flat_map (λ e. terminated (line_text e)) log) (101 ∷ 110 ∷ 100 ∷ 10 ∷ []) in
    omega (arith, lines, all)

pub text_back : (p : Picture) (start : State) (every : ℕ) (log : List Event) → IsKept p → Paced p start every log → length (state_at p start log).harts ≤ 64 → reals log ≤ 2000000000
    → ReadsAs p log (printed log)
text_back p start every log kept paced few steps =
    reads_back p log (printed log) refl kept (all_short log (all_own p start every log paced few)) (ranged p start every log paced few steps)
