use Rattle.std.proofs.Common.{rules, sym, subst}
use Rattle.std.specs.Prelude.{IsSome}
use Rattle.layout.specs.Laid.{Laid, item_at}
use Rattle.layout.proofs.Places.{item_within}
use Rattle.layout.proofs.layout.Layout.set_word.Goals as goal

pub overflow_sub-i : goal.overflow_sub-i
overflow_sub-i c =
    (item_within c.self.inside.base c.self.inside.words.items c.args.at (subst (λ (l : Laid). IsSome (item_at l.base l.words c.args.at)) (sym c.self.view_is) c.requires)).0

pub index_mut-requires : goal.index_mut-requires
index_mut-requires c =
    let within = (item_within c.self.inside.base c.self.inside.words.items c.args.at (subst (λ (l : Laid). IsSome (item_at l.base l.words c.args.at)) (sym c.self.view_is) c.requires)).1 in
    search (rules, within)
