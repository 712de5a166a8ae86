-- What a told log has of the log that was kept.
use Rattle.std.proofs.Common.{◌≡◌, List, [], ◌∷◌, ◌++◌, length, refl, sym, ap, ◌∙◌}
use Rattle.std.specs.Prelude.{map}
use Rattle.sched_log.specs.declared.event.Event.{Event}
use Rattle.sched_log.specs.declared.event.Event.TheVariants.{Steps, Real, Till, Snap, Replace, Given, Retire}
use Rattle.pacing.specs.Clocks.{reals}
use Rattle.pacing.specs.Logs.{steps_in, steps_of}
use Rattle.pacing.proofs.Clocked.{real_is}
use Rattle.run_book.specs.Told.{as_told}

same_in : (e : Event) → steps_in (as_told e) ≡ steps_in e
same_in (Real h n) = refl
same_in (Steps h n) = refl
same_in (Till n) = refl
same_in Snap = refl
same_in Replace = refl
same_in (Given plan) = refl
same_in Retire = refl

pub same_steps : (es : List Event) → steps_of (map as_told es) ≡ steps_of es
same_steps [] = refl
same_steps (e ∷ es) = λ i. same_in e i ++ same_steps es i

pub same_reals : (es : List Event) → reals (map as_told es) ≡ reals es
same_reals es = sym (real_is (map as_told es)) ∙ ap length (same_steps es) ∙ real_is es
