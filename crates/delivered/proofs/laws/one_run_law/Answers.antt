use Rattle.machine.specs.Start.{start_of}
use Rattle.world.specs.Worlds.{started}
use Rattle.delivered.proofs.OneRun.{one_end, one_schedule}
use Rattle.delivered.proofs.WorldLaws.{laws, one_result}
use Rattle.delivered.proofs.laws.one_run_law.Goals as goal

pub returns-clause-world : goal.returns-clause-world
returns-clause-world c = λ image events ring input hs gs u v kept a b.
    one_end laws (one_result c.one_plan.ensures) events hs gs (started image ring input) u v (start_of image input) (laws.start image ring input kept) a b

pub returns-clause-harts : goal.returns-clause-harts
returns-clause-harts c = λ image events ring input hs gs u v kept a b.
    one_schedule laws (one_result c.one_plan.ensures) events hs gs (started image ring input) u v (start_of image input) (laws.start image ring input kept) a b
