use Rattle.std.proofs.Common.{[], sym, subst}
use Rattle.std.proofs.lemmas.Result.{IfOk-weaker}
use Rattle.machine.specs.Start.{start_of}
use Rattle.world.specs.Worlds.{Replaced, Related}
use Rattle.world.specs.Records.{Records}
use Rattle.world.proofs.Recording.{start_records}
use Rattle.world.proofs.Starting.{started_related}
use Rattle.world.proofs.world.World.start.Goals as goal

pub returns-clause-related : goal.returns-clause-related
returns-clause-related c =
    IfOk-weaker c.make_start.result _ _
    (λ w e. subst (λ (v : Replaced). Related v (start_of c.args.image c.args.input.items)) (sym e) (started_related c.args.image c.args.ring c.args.input.items c.kept.ensures))
    c.make_start.ensures

pub returns-clause-records : goal.returns-clause-records
returns-clause-records c =
    IfOk-weaker c.make_start.result _ _
    (λ w e. subst (λ (v : Replaced). Records c.args.ring v (start_of c.args.image c.args.input.items) []) (sym e)
    (start_records c.args.image c.args.ring c.args.input.items (start_of c.args.image c.args.input.items)))
    c.make_start.ensures
