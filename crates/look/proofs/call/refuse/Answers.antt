use Rattle.std.proofs.Common.{inl, inr, ◌∙◌}
use Rattle.look.proofs.Promised.{refusal_unwritten, refusal_written}
use Rattle.look.proofs.call.refuse.Goals as goal

pub returns-in_default : goal.returns-in_default
returns-in_default g c = λ rest. inr (c.give_up.ensures rest)

pub returns-in_default-write_err : goal.returns-in_default-write_err
returns-in_default-write_err g c = λ rest.
    inl (refusal_unwritten _ _ _ _ _ (c.as_slice.ensures ∙ c.in-Ok.ensures.lines) c.in-Ok.ensures.memory c.answered.ensures (c.in_default-write_err.ensures rest))

pub returns : goal.returns
returns g c = λ rest.
    inl (refusal_written _ _ _ _ _ _ (c.as_slice.ensures ∙ c.in-Ok.ensures.lines) c.what.ensures c.answered-2.ensures (c.in-Ok-write_err.ensures rest))
