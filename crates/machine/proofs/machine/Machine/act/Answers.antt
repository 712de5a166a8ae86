use Rattle.std.proofs.Common.{◌∙◌}
use Rattle.machine.proofs.Called.{call_undone}
use Rattle.machine.proofs.machine.Machine.act.Goals as goal

pub returns-in_default-clause-err : goal.returns-in_default-clause-err
returns-in_default-clause-err g c =
    call_undone _ _ c.args.h (record { harts = c.self.inside.harts; memory = c.self.inside.memory.contents; system = c.self.inside.system; outcome = c.self.inside.outcome }) _ _ _ c.in-Call.ensures c.in_default.ensures.err
    ∙ c.self.view_is
