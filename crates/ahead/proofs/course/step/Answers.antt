use Rattle.ahead.proofs.Stopping.{no_word_stops}
use Rattle.ahead.proofs.course.step.Goals as goal

pub returns-in_default-clause-stops : goal.returns-in_default-clause-stops
returns-in_default-clause-stops c e h w sound same at = no_word_stops c.args.code.now c.args.course.now.hart h w sound same at 2 c.in_default.ensures.none

pub returns-clause-stops : goal.returns-clause-stops
returns-clause-stops c e = c.make_real.ensures.stops e 2
