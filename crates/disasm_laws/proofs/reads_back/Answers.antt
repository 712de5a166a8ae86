use Rattle.std.proofs.Common.{IfSome, subst}
use Rattle.disasm_laws.specs.Back.{HasRanges}
use Rattle.disasm_laws.proofs.Backwards.{shown_back}
use Rattle.disasm_laws.proofs.reads_back.Goals as goal

pub returns-in-Some : goal.returns-in-Some
returns-in-Some c = shown_back c.args.word c.args.at c.ranges.word.fits (subst (λ o. IfSome o HasRanges) c.in-Some.ensures.is c.has_ranges.ensures)

pub returns-in-None : goal.returns-in-None
returns-in-None c = shown_back c.args.word c.args.at c.ranges.word.fits (subst (λ o. IfSome o HasRanges) c.in-None.ensures.is tt)
