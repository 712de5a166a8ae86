use Rattle.std.proofs.Common.{rules, ap, sym, ◌∙◌}
use Rattle.watch.specs.Shown.{Seen}
use Rattle.watch.proofs.Rule.{forks, merges}
use Rattle.watch.proofs.watch.Watch.join.Goals as goal

pub split_pass-part-requires : goal.split_pass-part-requires
split_pass-part-requires g c =
    let own = ap (λ (v : Seen). v.cell) c.other.view_is ∙ c.requires.other ∙ sym c.self.view_is in
    (search rules, (search rules, (own, forks _ _)))

pub join_pass-requires : goal.join_pass-requires
join_pass-requires g c =
    let own = ap (λ (v : Seen). v.cell) c.pass.view_is ∙ c.requires.own ∙ sym c.self.view_is in
    let other = ap (λ (v : Seen). v.cell) c.other.view_is ∙ c.requires.other ∙ sym c.self.view_is in
    let part = c.split_pass-part.ensures.given in
    (search rules, (search rules, ((own, part.0 ∙ other ∙ sym own, part.2), merges _ _ _ _)))
