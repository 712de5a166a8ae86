use Rattle.std.proofs.Common.{sym, ap, ◌∙◌}
use Rattle.std.specs.Arc.{arc_value}
use Rattle.world.specs.Worlds.{Replaced}
use Rattle.world.proofs.Found.{found}
use Rattle.world.proofs.Shown.{shown_by}
use Rattle.world.proofs.world.World.code.Goals as goal

pub of-requires-clause-shown : goal.of-requires-clause-shown
of-requires-clause-shown c =
    shown_by (arc_value c.args.image.now) c.self.inside.image c.self.inside.text c.self.inside.lives.layouts.items c.self.inside.numbers.items c.self.inside.region.free
    (c.requires ∙ sym (ap (λ (x : Replaced). x.image) c.self.view_is)) c.self.invariant.1

pub of-requires-clause-found : goal.of-requires-clause-found
of-requires-clause-found c = found c.self.inside.lives c.self.invariant.1.apart c.self.invariant.2
