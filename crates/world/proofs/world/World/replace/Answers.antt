use Rattle.world.proofs.RelatedAgain.{attempt_related}
use Rattle.world.proofs.RecordedRuns.{attempt_records}
use Rattle.world.proofs.world.World.replace.Goals as goal

pub returns-clause-related : goal.returns-clause-related
returns-clause-related c = attempt_related c.args.plan.now c.args.self.now c.make_replace-result.new.self _ c.make_replace-result.result c.requires.plan c.make_replace-result.ensures

pub returns-clause-records : goal.returns-clause-records
returns-clause-records c = attempt_records c.args.plan.now c.args.self.now c.make_replace-result.new.self _ c.make_replace-result.result c.make_replace-result.ensures
