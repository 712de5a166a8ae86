use Rattle.std.proofs.Common.{arith, ap, length}
use Rattle.std.proofs.lemmas.List.{length-map}
use Rattle.asm_text.proofs.Weights.{lines_le}
use Rattle.asm_text.proofs.statement.statements_of.Goals as goal

pub statements_of_lines-requires : goal.statements_of_lines-requires
statements_of_lines-requires c =
    let lines = c.in_ok-lines.lines.items in
    let same = ap length c.in_ok-lines.ensures in
    let seen = ap length c.deref.ensures.value in
    omega (arith, c.requires, same, seen, length-map lines (λ l. l.now), lines_le c.args.text.now)
