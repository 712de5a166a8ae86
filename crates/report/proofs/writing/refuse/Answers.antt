use Rattle.std.proofs.Common.{inl, inr, refl}
use Rattle.top_call.specs.Outside.{with_err}
use Rattle.report.proofs.writing.refuse.Goals as goal

pub returns-in_default : goal.returns-in_default
returns-in_default g c = λ rest. inr (inl (c.in_default.ensures rest), c.refused.ensures)

pub returns : goal.returns
returns g c = λ rest. inl ((with_err g.E.Sink c.write_err.new.err rest, c.in-Ok.ensures rest, refl), c.refused-2.ensures)
