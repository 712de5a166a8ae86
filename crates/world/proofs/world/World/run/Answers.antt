use Rattle.world.proofs.Stepping.{run_follows}
use Rattle.std.proofs.lemmas.Result.{on_ok_weaker}
use Rattle.world.proofs.RecordedRuns.{run_made_records}
use Rattle.world.proofs.world.World.run.Goals as goal

pub returns-clause-follows : goal.returns-clause-follows
returns-clause-follows c = on_ok_weaker c.make_run.result (λ e. run_follows c.args.steps c.args.h c.args.self.now c.make_run.new.self c.kept.ensures.system e) c.make_run.ensures.ok

pub returns-clause-records : goal.returns-clause-records
returns-clause-records c = on_ok_weaker c.make_run.result (λ e. run_made_records c.args.steps c.args.h c.args.self.now c.make_run.new.self c.kept.ensures.system e) c.make_run.ensures.ok
