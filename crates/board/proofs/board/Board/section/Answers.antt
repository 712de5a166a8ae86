use Rattle.run_book.specs.Told.{told}
use Rattle.board.proofs.Showing.{still_each}
use Rattle.board.proofs.board.Board.section.Goals as goal

pub show-requires-clause-each : goal.show-requires-clause-each
show-requires-clause-each g c =
    still_each g.J.Run.terms (told c.section.new.self.world) (told c.self.inside.book.world) c.self.inside.pass.shown c.section.ensures.grows c.self.invariant.1.each
