use Rattle.world.proofs.Retirement.{answer_related, related_leads}
use Rattle.world.proofs.RecordedRuns.{retired_records}
use Rattle.world.proofs.world.World.retire.Goals as goal

pub returns-clause-related : goal.returns-clause-related
returns-clause-related c = answer_related c.args.self.now c.make_retire.new.self _ c.make_retire.result c.make_retire.ensures

pub returns-clause-leads : goal.returns-clause-leads
returns-clause-leads c = λ o r. related_leads c.make_retire.new.self o (answer_related c.args.self.now c.make_retire.new.self _ c.make_retire.result c.make_retire.ensures o r)

pub returns-clause-records : goal.returns-clause-records
returns-clause-records c = retired_records c.args.self.now c.make_retire.new.self _ c.make_retire.result c.make_retire.ensures
