use Rattle.std.proofs.Common.{rules, ap, sym, ◌∙◌}
use Rattle.watch.specs.Shown.{Seen}
use Rattle.watch.proofs.Rule.{shows}
use Rattle.watch.proofs.watch.Watch.show.Goals as goal

pub swap_as-requires : goal.swap_as-requires
swap_as-requires g c =
    let own = ap (λ (v : Seen). v.cell) c.pass.view_is ∙ c.requires.own ∙ sym c.self.view_is in
    let writer = ap (λ (v : Seen). v.writes) c.pass.view_is ∙ c.requires.writer in
    (search rules, (search rules, (own, shows _ _ _ writer)))
