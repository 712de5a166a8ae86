use Rattle.std.proofs.Common.{inl, inr, refl}
use Rattle.top_call.specs.Outside.{with_out}
use Rattle.look.proofs.about.tell.Goals as goal

pub returns-in_default : goal.returns-in_default
returns-in_default g c = λ rest. inr (inl (rw (← c.text.ensures) (c.in_default.ensures rest)), c.answered.ensures)

pub returns : goal.returns
returns g c = λ rest. inl ((with_out g.O.Sink c.write_out.new.out rest, rw (← c.text.ensures) (c.in-Ok.ensures rest), refl), c.answered-2.ensures)
