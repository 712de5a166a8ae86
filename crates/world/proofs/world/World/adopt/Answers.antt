use Rattle.std.proofs.Common.{sym, ◌∙◌}
use Rattle.world.proofs.RecordedRuns.{run_made_records}
use Rattle.world.proofs.Stepping.{run_follows}
use Rattle.world.proofs.world.World.adopt.Goals as goal

pub returns-clause-follows : goal.returns-clause-follows
returns-clause-follows c = run_follows c.args.real c.args.h c.args.self.now c.take_in.new.self c.kept.ensures.system (c.take_in.ensures ∙ sym c.requires.leads)

pub returns-clause-records : goal.returns-clause-records
returns-clause-records c = run_made_records c.args.real c.args.h c.args.self.now c.take_in.new.self c.kept.ensures.system (c.take_in.ensures ∙ sym c.requires.leads)
