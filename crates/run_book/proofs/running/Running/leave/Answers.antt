use Rattle.run_book.proofs.Nexts.{may_own}
use Rattle.run_book.proofs.Runnings.{left_book}
use Rattle.run_book.proofs.running.Running.leave.Goals as goal

pub take_away-requires : goal.take_away-requires
take_away-requires c = record { here = c.requires.none c.args.h (may_own c.args.worker c.args.h c.args.self.now c.requires.serves) }

pub returns-in-Ok : goal.returns-in-Ok
returns-in-Ok c t total b =
    left_book t total c.args.self.now c.args.h c.args.worker b c.requires.spent c.requires.goes_on c.requires.calm c.requires.none c.requires.serves c.kept.ensures.made
    c.take_away.new.self c.in-Ok.ensures.ok.1 c.in-Ok.ensures.more
