use Rattle.std.proofs.Common.{sym, ◌∙◌}
use Rattle.run_book.proofs.Rows.{same_rows}
use Rattle.run_book.proofs.book.same_rows.Goals as goal

pub returns : goal.returns
returns c e = same_rows c.args.one.now c.args.other.now (sym c.eq.ensures ∙ e)
