use Rattle.std.proofs.Common.{sym, arith}
use Rattle.layout.proofs.TextWords.{text_high}
use Rattle.layout.proofs.rows.Alone.is_start.Goals as goal

pub is_row-requires-clause-x : goal.is_row-requires-clause-x
is_row-requires-clause-x c = omega (arith, text_high c.args.self.now.image.now c.kept.ensures c.args.x c.in-Some.word (sym c.in-Some.ensures))
