use Rattle.std.proofs.Common.{sym, subst}
use Rattle.std.proofs.lemmas.Result.{IfOk-weaker}
use Rattle.machine.specs.Loaded.{IsLoaded}
use Rattle.machine.proofs.LoadedStack.{loaded}
use Rattle.machine.proofs.start.start_memory.Goals as goal

pub returns-clause-loaded : goal.returns-clause-loaded
returns-clause-loaded c = IfOk-weaker c.memory_of.result _ _ (λ m is. subst (IsLoaded c.args.image.now) (sym is) (loaded c.args.image.now c.kept.ensures)) c.memory_of.ensures
