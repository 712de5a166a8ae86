use Rattle.std.proofs.Common.{◌∙◌, ◌∷◌, ◌++◌, [], true, ap, sym, subst}
use Rattle.watch.specs.Shown.{seen}
use Rattle.board.specs.Boarded.{counts_of, IsShowing}
use Rattle.board.proofs.Showing.{showing}
use Rattle.board.proofs.board.show.Goals as goal

pub returns-clause-showing : goal.returns-clause-showing
returns-clause-showing g c =
    let r = c.args.book.now.world in
    let shown = c.args.pass.now.shown in
    let now = c.counts.result.real ∷ c.counts.result.done ∷ c.counts.result.retired ∷ [] in
    subst (IsShowing g.J.Watched.cell g.J.Run.terms r) (sym (c.show.ensures ∙ ap (λ cell. seen cell (shown ++ now ∷ []) true) c.requires.own))
    (showing g.J.Watched.cell g.J.Run.terms r shown now c.kept.ensures (c.counts.ensures ∙ ap counts_of c.world.ensures) c.requires.each)
