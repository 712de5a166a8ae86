use Rattle.std.proofs.Common.{subst}
use Rattle.world.specs.Worlds.{started}
use Rattle.delivered.specs.Events.{Played}
use Rattle.play.proofs.Decided.{is_run}
use Rattle.play.proofs.run.run_image.Goals as goal

pub returns : goal.returns
returns c =
    is_run c.args.image c.args.script.now c.args.input.items c.args.said.now.ring c.args.said.now.report c.in-Ok.events c.in-Ok-perform.world c.in-Ok-deliver.delivery
    c.in-Ok.ensures.none c.in-Ok.ensures.events c.in-Ok.ensures.range
    (subst (λ es. Played es (started c.args.image c.args.said.now.ring c.args.input.items) c.in-Ok-perform.world) c.as_slice.ensures c.in-Ok-perform.ensures) c.in-Ok-deliver.ensures
