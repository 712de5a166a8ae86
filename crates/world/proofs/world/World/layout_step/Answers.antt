use Rattle.std.proofs.Common.{◌<◌, length, refl, sym, subst}
use Rattle.world.specs.Worlds.{Replaced}
use Rattle.world.proofs.Found.{found}
use Rattle.world.proofs.Moving.{layout_made, layout_made_is, taken_is}
use Rattle.world.proofs.world.World.layout_step.Goals as goal

pub hart-hart-requires : goal.hart-hart-requires
hart-hart-requires c = subst (λ (x : Replaced). c.args.h < length x.machine.harts) (sym c.self.view_is) (layout_made c.args.h c.args.self.now c.requires)

pub lead-requires : goal.lead-requires
lead-requires c = subst (λ (x : Replaced). c.args.h < length x.machine.harts) (sym c.self.view_is) (layout_made c.args.h c.args.self.now c.requires)

pub live_word-requires : goal.live_word-requires
live_word-requires c = found c.self.inside.lives c.self.invariant.1.apart c.self.invariant.2

pub returns-clause-step : goal.returns-clause-step
returns-clause-step c =
    layout_made_is c.args.h _ c.args.self.now c.self.view_is c.hart-hart.result.now c.self.inside.lives.layouts.items c.live_word.result c.led_by-led.result c.lead.new.self c.count.new.self
    c.kept.ensures.code c.requires c.hart-hart.ensures refl c.live_word.ensures c.led_by-led.ensures c.lead.ensures c.count.ensures

pub returns-clause-back : goal.returns-clause-back
returns-clause-back c =
    taken_is c.args.h _ c.args.self.now c.self.view_is c.hart-hart.result.now c.led_by-led.result c.reg.result c.lead.new.self c.count.new.self
    (subst (λ (x : Replaced). c.args.h < length x.machine.harts) (sym c.self.view_is) (layout_made c.args.h c.args.self.now c.requires))
    c.hart-hart.ensures c.reg.ensures c.lead.ensures c.count.ensures
