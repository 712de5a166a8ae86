use Rattle.std.proofs.Common.{rules}
use Rattle.watch.proofs.Rule.{begins}
use Rattle.watch.proofs.watch.Watch.new.Goals as goal

pub ruled-requires : goal.ruled-requires
ruled-requires c = (search rules, (search rules, begins _))
