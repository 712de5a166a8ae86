use Rattle.std.proofs.Common.{◌-◌, ◌∙◌, sym, ap, Bool, cond}
use Rattle.std.specs.Prelude.{Some}
use Rattle.func_names.specs.Firsts.{first_of}
use Rattle.func_names.proofs.Noted.{at_func}
use Rattle.func_names.proofs.note.Goals as goal

pub returns : goal.returns
returns c = λ f within.
    c.in_ok-insert.ensures.updates.0 (f.from, f.to - f.from)
    ∙ ap (λ (b : Bool). cond b (Some c.args.s) (first_of c.args.firsts.now f)) (at_func c.args.s f (sym c.is_code.ensures ∙ c.if-not-is_code.false) within)
