use Rattle.world.proofs.Snapping.{answer_related, answer_records, answer_profile}
use Rattle.world.proofs.world.World.snap.Goals as goal

pub returns-clause-related : goal.returns-clause-related
returns-clause-related c = answer_related c.args.self.now c.make_snap.new.self _ c.make_snap.result c.make_snap.ensures

pub returns-clause-records : goal.returns-clause-records
returns-clause-records c = answer_records c.args.self.now c.make_snap.new.self _ c.make_snap.result c.make_snap.ensures

pub returns-clause-profile : goal.returns-clause-profile
returns-clause-profile c = answer_profile c.args.self.now c.make_snap.new.self _ c.make_snap.result c.make_snap.ensures
