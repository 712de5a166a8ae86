use Rattle.std.proofs.Common.{refl}
use Rattle.run_book.proofs.Parts.{none_made}
use Rattle.run_book.proofs.Runnings.{visited_book}
use Rattle.run_book.proofs.running.Running.visit.Goals as goal

pub returns : goal.returns
returns c t total b =
    visited_book t total c.args.self.now c.args.h c.args.worker b c.requires.spent c.requires.goes_on c.requires.calm c.requires.none c.requires.serves c.kept.ensures.made
    c.turn-turned.new.world c.turn-turned.result.made c.turn-turned.result.whole _ c.turn-turned.ensures.gate
    (λ closed room. c.turn-turned.ensures.part c.args.self.now.recorder closed room (none_made c.args.h c.args.self.now.recorder)) c.turn-turned.ensures.most c.turn-turned.ensures.full refl
