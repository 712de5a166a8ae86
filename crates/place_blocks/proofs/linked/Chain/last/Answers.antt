use Rattle.std.proofs.Common.{◌∙◌, ◌-◌, get_or, ap, sym, arith}
use Rattle.place_blocks.proofs.Ended.{ends_itself}
use Rattle.place_blocks.proofs.linked.Chain.last.Goals as goal

pub returns : goal.returns
returns c = ends_itself c.at.result c.args.self.now (omega (arith, c.len-count.ensures, c.if-count-eq0.false)) (sym (c.at.ensures ∙ ap (λ n. get_or c.args.self.now (n - 1) 0) c.len-count.ensures))
