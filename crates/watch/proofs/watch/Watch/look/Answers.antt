use Rattle.std.proofs.Common.{rules, ap, sym, ◌∙◌}
use Rattle.watch.specs.Shown.{Seen}
use Rattle.watch.proofs.Rule.{looks}
use Rattle.watch.proofs.watch.Watch.look.Goals as goal

pub load_as-words-requires : goal.load_as-words-requires
load_as-words-requires g c =
    let own = ap (λ (v : Seen). v.cell) c.pass.view_is ∙ c.requires.own ∙ sym c.self.view_is in
    (search rules, (search rules, (own, looks _ _)))
