use Rattle.std.proofs.Common.{sym, ◌∙◌}
use Rattle.place_funcs.proofs.Callees.{callee_none, callee_out, callee_self, callee_some}
use Rattle.place_funcs.proofs.start.callee.Goals as goal

pub returns-in_default : goal.returns-in_default
returns-in_default c = callee_none c.args.funcs.now c.args.at c.args.chosen.now c.args.f (sym c.func_from.ensures ∙ c.in_default.is)

pub returns-then-g-f : goal.returns-then-g-f
returns-then-g-f c = callee_self c.args.funcs.now c.args.at c.args.chosen.now c.args.f c.in-Some.g c.requires.rise (sym c.func_from.ensures ∙ c.in-Some.is) c.if-g-f.true

pub returns-then-is_one_of : goal.returns-then-is_one_of
returns-then-is_one_of c = callee_some c.args.funcs.now c.args.at c.args.chosen.now c.args.f c.in-Some.g c.requires.rise (sym c.func_from.ensures ∙ c.in-Some.is) c.if-g-f.false (sym c.is_one_of.ensures ∙ c.if-is_one_of.true)

pub returns-else-is_one_of : goal.returns-else-is_one_of
returns-else-is_one_of c = callee_out c.args.funcs.now c.args.at c.args.chosen.now c.args.f c.in-Some.g c.requires.rise (sym c.func_from.ensures ∙ c.in-Some.is) (sym c.is_one_of.ensures ∙ c.if-is_one_of.false)
