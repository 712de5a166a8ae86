use Rattle.std.proofs.Common.{rules, ap, sym, ◌∙◌}
use Rattle.watch.specs.Shown.{Seen}
use Rattle.watch.proofs.Rule.{forks}
use Rattle.watch.proofs.watch.Watch.split.Goals as goal

pub split_pass-seat-requires : goal.split_pass-seat-requires
split_pass-seat-requires g c =
    let own = ap (λ (v : Seen). v.cell) c.pass.view_is ∙ c.requires.own ∙ sym c.self.view_is in
    (search rules, (search rules, (own, forks _ _)))
