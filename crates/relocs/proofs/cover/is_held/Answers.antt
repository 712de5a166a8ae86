use Rattle.std.proofs.Common.{◌≡◌, ◌+◌, ◌-◌, ◌∙◌, sym, ap, leb, arith}
use Rattle.std.proofs.lemmas.Bool.{lt-leb}
use Rattle.relocs.specs.Cover.{greatest_end}
use Rattle.relocs.proofs.CoverLemmas.{held_by_top, greatest_end_none}
use Rattle.relocs.proofs.cover.is_held.Goals as goal

pub returns-then-n-eq0 : goal.returns-then-n-eq0
returns-then-n-eq0 c =
    let whole = held_by_top c.args.ranges.now c.args.from c.args.to c.starts_up_to-n.result c.starts_up_to-n.ensures.within c.starts_up_to-n.ensures.before c.starts_up_to-n.ensures.past c.requires.some in
    let zero : greatest_end c.args.ranges.now c.starts_up_to-n.result ≡ 0 = ap (greatest_end c.args.ranges.now) (omega arith) ∙ greatest_end_none c.args.ranges.now in
    sym (whole ∙ ap (leb c.args.to) zero ∙ lt-leb c.args.to 0 c.requires.some)

pub returns : goal.returns
returns c =
    let n = c.starts_up_to-n.result in
    let whole = held_by_top c.args.ranges.now c.args.from c.args.to n c.starts_up_to-n.ensures.within c.starts_up_to-n.ensures.before c.starts_up_to-n.ensures.past c.requires.some in
    let one : n - 1 + 1 ≡ n = omega arith in
    let top = c.requires.tops (n - 1) (omega arith) in
    ap (leb c.args.to) (top ∙ ap (greatest_end c.args.ranges.now) one) ∙ sym whole
