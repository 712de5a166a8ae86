use Rattle.std.proofs.Common.{◌∙◌, sym, ap, ◌+◌, ◌++◌, Bor, List, [], ℕ, map, drop}
use Rattle.asm_text.specs.Statements.{statements_from}
use Rattle.asm_text.proofs.Parts.{line_more}
use Rattle.asm_text.proofs.statement.statements_of_lines.Goals as goal

pub loop-i-preserved : goal.loop-i-preserved
loop-i-preserved c =
    let d : Bor (List ℕ) = record { ref_ptr = (0, 0); now = [] } in
    let more = line_more (λ l. l.now) c.args.lines.now c.loop-i.i (c.loop-i.i + 1) d c.loop-i.all.items c.loop-i-test.true in
    ap (λ all. all ++ statements_from (c.loop-i.i + 1 + 1) (drop (c.loop-i.i + 1) (map (λ l. l.now) c.args.lines.now))) c.in_ok-push_line.ensures ∙ sym more ∙ c.loop-i.invariant
