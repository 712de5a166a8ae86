use Rattle.world.proofs.Following.{real_over, never_layout, real_follows}
use Rattle.world.proofs.Counting.{one_real, two_before, none_before}
use Rattle.world.proofs.Recording.{real_records}
use Rattle.world.proofs.world.World.real_step.Goals as goal

pub returns-clause-over : goal.returns-clause-over
returns-clause-over c = real_over c.args.self.now c.args.h c.in-Ok.kind c.kept.ensures.code c.in-Ok.ensures.kind

pub returns-clause-real : goal.returns-clause-real
returns-clause-real c = never_layout c.args.self.now c.args.h c.in-Ok.kind c.kept.ensures.code c.in-Ok.ensures.kind

pub returns-clause-follows : goal.returns-clause-follows
returns-clause-follows c = real_follows c.args.self.now c.make_real_step.new.self c.args.h c.kept.ensures.system c.in-Ok.ensures.step

pub returns-clause-one : goal.returns-clause-one
returns-clause-one c = one_real c.args.self.now c.make_real_step.new.self c.args.h c.in-Ok.kind c.kept.ensures.code c.in-Ok.ensures.kind c.in-Ok.ensures.step

pub returns-clause-two : goal.returns-clause-two
returns-clause-two c = two_before c.args.self.now c.make_real_step.new.self c.args.h c.kept.ensures.code c.in-Ok.ensures.step

pub returns-in_default-clause-two : goal.returns-in_default-clause-two
returns-in_default-clause-two c = none_before c.args.self.now c.make_real_step.new.self c.in_default.ensures.err

pub returns-clause-records : goal.returns-clause-records
returns-clause-records c = real_records c.args.self.now c.make_real_step.new.self c.args.h c.in-Ok.kind c.kept.ensures.system c.in-Ok.ensures.kind c.in-Ok.ensures.step
