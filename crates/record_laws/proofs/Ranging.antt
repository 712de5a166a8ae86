-- A log that keeps the pace asks for what a script can ask for.
use Rattle.std.proofs.Common.{◌≡◌, ℕ, ◌+◌, ◌<◌, ◌≤◌, List, [], ◌∷◌, ◌++◌, length, refl, sym, ap, ◌∙◌, arith}
use Rattle.std.specs.Prelude.{⊤, sum_by}
use Rattle.std.specs.List.{AllByRecursion}
use Rattle.std.proofs.lemmas.Grind.{flat_map-append}
use Rattle.std.proofs.lemmas.List.{length-append, length-replicate}
use Rattle.std.proofs.lemmas.List.Sums.{sum_by-cons}
use Rattle.image.specs.Picture.{Picture}
use Rattle.machine.specs.States.{State}
use Rattle.machine.specs.Steps.{original_run}
use Rattle.machine.proofs.Stays.{run_append}
use Rattle.sched_log.specs.declared.event.Event.{Event}
use Rattle.sched_log.specs.declared.event.Event.TheVariants.{Steps, Real, Till, Snap, Replace, Given, Retire}
use Rattle.sched_log.specs.Script.{count}
use Rattle.sched_log.specs.Ranges.{IsInRange, AreInRange, IsShort}
use Rattle.pacing.specs.Logs.{steps_in, steps_of, state_at}
use Rattle.pacing.specs.Clocks.{reals}
use Rattle.pacing.specs.Pacing.{Paced, IsVisit}
use Rattle.pacing.proofs.Clocked.{real_is}
use Rattle.pacing.proofs.Runs.{made_by_run}
use Rattle.pacing.proofs.Visits.{was_made}

-- what an entry of such a log is: a visit of a hart that there can be, or of another kind that a threaded run has
abbrev pub IsOwn : Event → Type 0
IsOwn (Real h n) = (h < 64) × (n ≤ 64)
IsOwn Snap = ⊤
IsOwn Replace = ⊤
IsOwn Retire = ⊤
IsOwn (Steps h n) = ⊥
IsOwn (Till n) = ⊥
IsOwn (Given plan) = ⊥

append_assoc : (before : List Event) (e : Event) (es : List Event) → before ++ e ∷ es ≡ (before ++ e ∷ []) ++ es
append_assoc [] e es = refl
append_assoc (x ∷ xs) e es = ap (λ ys. x ∷ ys) (append_assoc xs e es)

module _ (p : Picture) (start : State) (every : ℕ) (log : List Event) (paced : Paced p start every log) (few : length (state_at p start log).harts ≤ 64) where
  few_before : (before rest : List Event) → log ≡ before ++ rest → length (state_at p start before).harts ≤ 64
  few_before before rest is =
      let split : state_at p start log ≡ original_run p (steps_of rest) (state_at p start before) =
      ap (state_at p start) is ∙ ap (λ hs. original_run p hs start) (flat_map-append steps_in before rest) ∙ run_append p (steps_of before) (steps_of rest) start in
      let same : length (state_at p start log).harts ≡ length (original_run p (steps_of rest) (state_at p start before)).harts = ap (λ (s : State). length s.harts) split in
      let more = made_by_run p (steps_of rest) (state_at p start before) in
      omega (arith, few, same, more)

  own : (before : List Event) (e : Event) (rest : List Event) → log ≡ before ++ e ∷ rest → IsOwn e
  own before (Real h n) rest is =
      let visit : IsVisit p (state_at p start before) h n = (paced.each before (Real h n) rest is).visit in
      let made = was_made p (state_at p start before) h n visit in
      let most = visit.most in
      let there = few_before before (Real h n ∷ rest) is in
      (omega (arith, made, there), omega (arith, most))
  own before Snap rest is = tt
  own before Replace rest is = tt
  own before Retire rest is = tt
  own before (Steps h n) rest is = absurd ((paced.each before (Steps h n) rest is).visit)
  own before (Till n) rest is = absurd ((paced.each before (Till n) rest is).visit)
  own before (Given plan) rest is = absurd ((paced.each before (Given plan) rest is).visit)

  own_from : (before rest : List Event) → log ≡ before ++ rest → AllByRecursion IsOwn rest
  own_from before [] is = tt
  own_from before (e ∷ es) is = (own before e es is, own_from (before ++ e ∷ []) es (is ∙ append_assoc before e es))

  pub all_own : AllByRecursion IsOwn log
  all_own = own_from [] log refl

in_range : (p : Picture) (e : Event) → IsOwn e → IsInRange p e
in_range p (Real h n) o = (omega (arith, o.0), omega (arith, o.1))
in_range p Snap o = tt
in_range p Replace o = tt
in_range p Retire o = tt
in_range p (Steps h n) o = absurd o
in_range p (Till n) o = absurd o
in_range p (Given plan) o = absurd o

all_in_range : (p : Picture) (log : List Event) → AllByRecursion IsOwn log → AllByRecursion (IsInRange p) log
all_in_range p [] o = tt
all_in_range p (e ∷ es) o = (in_range p e o.0, all_in_range p es o.1)

is_short : (e : Event) → IsOwn e → IsShort e
is_short (Real h n) o = tt
is_short Snap o = tt
is_short Replace o = tt
is_short Retire o = tt
is_short (Steps h n) o = absurd o
is_short (Till n) o = absurd o
is_short (Given plan) o = absurd o

pub all_short : (log : List Event) → AllByRecursion IsOwn log → AllByRecursion IsShort log
all_short [] o = tt
all_short (e ∷ es) o = (is_short e o.0, all_short es o.1)

counted : (e : Event) → IsOwn e → count e ≡ length (steps_in e)
counted (Real h n) o = sym (length-replicate n h)
counted Snap o = refl
counted Replace o = refl
counted Retire o = refl
counted (Steps h n) o = absurd o
counted (Till n) o = absurd o
counted (Given plan) o = absurd o

all_counted : (log : List Event) → AllByRecursion IsOwn log → sum_by count log ≡ length (steps_of log)
all_counted [] o = refl
all_counted (e ∷ es) o =
    let sum = sum_by-cons count e es in
    let one = counted e o.0 in
    let rest = all_counted es o.1 in
    let long : length (steps_in e ++ steps_of es) ≡ length (steps_in e) + length (steps_of es) = length-append (steps_in e) (steps_of es) in
    omega (arith, sum, one, rest, long)

pub ranged : (p : Picture) (start : State) (every : ℕ) (log : List Event) → Paced p start every log → length (state_at p start log).harts ≤ 64 → reals log ≤ 2000000000 → AreInRange p log
ranged p start every log paced few steps =
    let own = all_own p start every log paced few in
    let sum = all_counted log own in
    let real = real_is log in
    record { each = all_in_range p log own; sum = omega (arith, sum, real, steps) }
