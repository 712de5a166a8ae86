use Rattle.std.proofs.Common.{subst}
use Rattle.world.specs.Worlds.{started}
use Rattle.delivered.specs.Events.{Played}
use Rattle.look.proofs.Decided.{run_seen}
use Rattle.look.proofs.run.show_image.Goals as goal

pub returns : goal.returns
returns c =
    run_seen c.args.image c.args.names.now c.args.run.now c.args.script.now c.args.input.items c.in-Ok.events c.in-Ok-perform.world c.in-Ok-see.seen
    c.in-Ok.ensures.none c.in-Ok.ensures.events c.in-Ok.ensures.range
    (subst (λ es. Played es (started c.args.image c.args.run.now.ring c.args.input.items) c.in-Ok-perform.world) c.as_slice.ensures c.in-Ok-perform.ensures) c.in-Ok-see.ensures
