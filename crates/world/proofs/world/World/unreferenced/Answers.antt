use Rattle.std.proofs.Common.{◌++◌, ap, ◌∙◌}
use Rattle.world.specs.Worlds.{Replaced}
use Rattle.world.specs.Retiring.{pcs_of, links_held, text_aims, held_by}
use Rattle.world.proofs.Spread.{few}
use Rattle.world.proofs.Retirement.{spread_of, same_unreferenced, few_gone}
use Rattle.world.proofs.world.World.unreferenced.Goals as goal

pub unreferenced-requires-clause-few : goal.unreferenced-requires-clause-few
unreferenced-requires-clause-few c =
    let i = c.self.inside in
    rw c.deref.ensures.value (few i.image.region i.lives.layouts.items i.region.free (spread_of i.image i.text i.lives.layouts.items i.numbers.items i.region.free c.self.invariant.1))

pub unreferenced-requires-clause-apart : goal.unreferenced-requires-clause-apart
unreferenced-requires-clause-apart c = rw c.deref.ensures.value c.self.invariant.1.apart

pub returns-clause-are : goal.returns-clause-are
returns-clause-are c =
    let w = c.args.self.now in
    let lives = c.deref.ensures.value ∙ ap (λ (x : Replaced). x.lives) c.self.view_is in
    let pcs = c.deref-2.ensures.value ∙ c.in_ok-pcs.ensures ∙ ap (λ (x : Replaced). pcs_of x.machine.harts) c.self.view_is in
    let links = c.deref-3.ensures.value ∙ c.in_ok-links.ensures ∙ ap (λ (x : Replaced). links_held x.machine) c.self.view_is in
    let aims = c.deref-4.ensures.value ∙ c.in_ok-aims.ensures ∙ ap (λ (x : Replaced). text_aims x.image x.text) c.self.view_is in
    same_unreferenced w.lives c.deref.result.now (held_by w) (c.deref-2.result.now ++ c.deref-3.result.now ++ c.deref-4.result.now) c.in_ok-gone.gone.items lives
    (λ j. pcs j ++ links j ++ aims j) c.in_ok-gone.ensures

pub returns-clause-few : goal.returns-clause-few
returns-clause-few c = few_gone c.args.self.now c.in_ok-gone.gone.items (returns-clause-are c) c.kept.ensures.code
