-- Events in range, one line more.
use Rattle.std.proofs.Common.{◌≡◌, ℕ, ◌+◌, ◌≤◌, List, [], ◌∷◌, ◌++◌, ap, sym, arith, ◌∙◌, subst}
use Rattle.std.specs.Prelude.{sum_by}
use Rattle.std.specs.List.{AllByRecursion}
use Rattle.std.proofs.lemmas.List.Sums.{sum_by-append}
use Rattle.image.specs.Picture.{Picture}
use Rattle.sched_log.specs.Ranges.{IsInRange, HasRange, AreInRange}
use Rattle.sched_log.specs.Script.{count, count_of, event_of}
use Rattle.sched_log.specs.Limits.{count_limit}
use Rattle.sched_log.specs.declared.line.Line.{Line}
use Rattle.sched_log.specs.declared.line.Line.TheVariants.{Passed, Does, End, Wrong}
use Rattle.sched_log.specs.declared.event.Event.{Event}

each_more : (p : Picture) (events : List Event) (line : Line) → AllByRecursion (IsInRange p) events → HasRange p line → AllByRecursion (IsInRange p) (events ++ event_of line)
each_more p [] (Does e) each has = (has, tt)
each_more p [] Passed each has = tt
each_more p [] End each has = tt
each_more p [] (Wrong kind) each has = tt
each_more p (e ∷ es) line each has = (each.0, each_more p es line each.1 has)

pub ranges_later : (p : Picture) (events more : List Event) (line : Line) → AllByRecursion (IsInRange p) events → HasRange p line → more ≡ events ++ event_of line → AllByRecursion (IsInRange p) more
ranges_later p events more line each has pushed = subst (λ es. AllByRecursion (IsInRange p) es) (sym pushed) (each_more p events line each has)

one_sum : (line : Line) → sum_by count (event_of line) ≡ count_of line
one_sum (Does e) = omega arith
one_sum Passed = omega arith
one_sum End = omega arith
one_sum (Wrong kind) = omega arith

pub sums_later : (events more : List Event) (line : Line) (sum : ℕ) → sum_by count events ≡ sum → more ≡ events ++ event_of line → sum_by count more ≡ sum + count_of line
sums_later events more line sum is pushed = ap (sum_by count) pushed ∙ omega (arith, sum_by-append count events (event_of line), one_sum line, is)

pub in_range : (p : Picture) (events : List Event) (sum : ℕ) → AllByRecursion (IsInRange p) events → sum_by count events ≡ sum → sum ≤ count_limit → AreInRange p events
in_range p events sum each is small = record { each = each; sum = omega (arith, is, small) }
