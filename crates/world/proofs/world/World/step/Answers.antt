use Rattle.world.specs.Worlds.{code_of}
use Rattle.world.proofs.Following.{over_is, step_follows}
use Rattle.world.proofs.Recording.{stepped_records}
use Rattle.world.proofs.world.World.step.Goals as goal

pub returns-clause-over : goal.returns-clause-over
returns-clause-over c = over_is (code_of c.args.self.now) c.args.h c.args.self.now.machine c.in-Ok.kind c.in-Ok.ensures.kind

pub returns-clause-follows : goal.returns-clause-follows
returns-clause-follows c = step_follows c.args.self.now c.one_step.new.self c.args.h c.in-Ok.kind c.kept.ensures.system c.in-Ok.ensures.kind c.in-Ok.ensures.step

pub returns-clause-records : goal.returns-clause-records
returns-clause-records c = stepped_records c.args.self.now c.one_step.new.self c.args.h c.in-Ok.kind c.kept.ensures.system c.in-Ok.ensures.kind c.in-Ok.ensures.step
