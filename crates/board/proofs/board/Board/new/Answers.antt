use Rattle.std.proofs.Common.{sym, subst}
use Rattle.std.specs.Prelude.{All}
use Rattle.watch.specs.Shown.{Seen}
use Rattle.run_book.specs.Told.{told}
use Rattle.board.specs.Boarded.{AreOfBeginning}
use Rattle.board.proofs.Showing.{first_counts}
use Rattle.board.proofs.board.Board.new.Goals as goal

pub show-requires-clause-each : goal.show-requires-clause-each
show-requires-clause-each g c =
    subst (λ (s : Seen). All (AreOfBeginning g.J.Run.terms (told c.args.book.world)) s.shown) (sym c.requires.writer)
    (first_counts g.J.Run.terms (told c.args.book.world))
