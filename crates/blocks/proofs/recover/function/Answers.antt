use Rattle.std.proofs.Common.{List, get_or, sym, subst}
use Rattle.image.specs.declared.ranges.Func.{Func}
use Rattle.image.specs.Picture.{IsFunc}
use Rattle.blocks.proofs.recover.function.Goals as goal

pub returns-clause-fits : goal.returns-clause-fits
returns-clause-fits c =
    let none : Func = record { from = 0; to = 0 } in
    subst (λ (fs : List Func). IsFunc c.args.image.now.texts (get_or fs c.args.f none)) (sym c.funcs.ensures) (c.kept.ensures.funcs_fit c.args.f none c.requires)
