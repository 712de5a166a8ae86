use Rattle.run_book.proofs.Attempts.{cut_run, cut_last, made_run, made_rests, made_last}
use Rattle.run_book.proofs.attempt.attempt_stopped.Goals as goal

pub returns-in_err-made-clause-run : goal.returns-in_err-made-clause-run
returns-in_err-made-clause-run c t run =
    cut_run c.args.world.now.world.now c.retire.new.self.world.now c.replace-answer.new.self.world.now c.args.plan.now _ c.replace-answer.result c.requires.goes_on c.requires.fits c.in_ok-retire.ensures.is
    c.in_ok-retire.ensures.journal c.retire.ensures.marks c.retire.ensures.related c.retire.ensures.gate c.in_err-made.ensures.err c.replace-answer.ensures.err t run

pub returns-in_err-made-clause-last : goal.returns-in_err-made-clause-last
returns-in_err-made-clause-last c t last run are =
    cut_last c.args.world.now.world.now c.retire.new.self.world.now c.replace-answer.new.self.world.now c.args.plan.now _ c.replace-answer.result c.requires.goes_on c.requires.fits c.in_ok-retire.ensures.is
    c.in_ok-retire.ensures.journal c.retire.ensures.marks c.retire.ensures.related c.retire.ensures.gate c.in_err-made.ensures.err c.replace-answer.ensures.err t last run are

pub returns-clause-run : goal.returns-clause-run
returns-clause-run c t run =
    made_run c.args.world.now.world.now c.retire.new.self.world.now c.replace-answer.new.self.world.now c.args.plan.now _ c.replace-answer.result c.requires.goes_on c.requires.fits c.in_ok-retire.ensures.is
    c.in_ok-retire.ensures.journal c.retire.ensures.marks c.retire.ensures.related c.retire.ensures.gate c.replace-answer.ensures.is c.replace-answer.ensures.journal c.replace-answer.ensures.marks
    c.replace-answer.ensures.related c.replace-answer.ensures.gate c.in_ok-made.ensures.ok t run

pub returns-clause-rests : goal.returns-clause-rests
returns-clause-rests c t spare calm fair run amid =
    made_rests c.args.world.now.world.now c.retire.new.self.world.now c.replace-answer.new.self.world.now c.args.plan.now _ c.replace-answer.result c.requires.goes_on c.requires.fits c.in_ok-retire.ensures.is
    c.in_ok-retire.ensures.journal c.retire.ensures.marks c.retire.ensures.related c.retire.ensures.gate c.replace-answer.ensures.is c.replace-answer.ensures.journal c.replace-answer.ensures.marks
    c.replace-answer.ensures.related c.replace-answer.ensures.gate c.in_ok-made.ensures.ok t run spare calm fair amid

pub returns-clause-last : goal.returns-clause-last
returns-clause-last c t last run are =
    made_last c.args.world.now.world.now c.retire.new.self.world.now c.replace-answer.new.self.world.now c.args.plan.now _ c.replace-answer.result c.requires.goes_on c.requires.fits c.in_ok-retire.ensures.is
    c.in_ok-retire.ensures.journal c.retire.ensures.marks c.retire.ensures.related c.retire.ensures.gate c.replace-answer.ensures.is c.replace-answer.ensures.journal c.replace-answer.ensures.marks
    c.replace-answer.ensures.related c.replace-answer.ensures.gate c.in_ok-made.ensures.ok t run last are
