use Rattle.std.proofs.Common.{sym, ◌∙◌}
use Rattle.machine.proofs.Still.{instr_settled}
use Rattle.machine.proofs.Transferring.{transfer_made}
use Rattle.machine.proofs.machine.Machine.obey.Goals as goal

pub transfer-requires : goal.transfer-requires
transfer-requires g c =
    let reads = sym c.decode.ensures.is ∙ c.in-Some-decode.is in
    transfer_made _ c.args.image.now c.args.h c.args.word c.in-Some.word c.in-Some-decode.i c.args.self.now c.act.new.self c.requires.live c.in-Some.is reads
    (c.in-Ok.ensures.ok ∙ instr_settled _ c.args.image.now c.args.h c.args.word c.in-Some.word c.in-Some-decode.i c.args.self.now c.requires.live c.in-Some.is reads)

pub returns-clause-ok : goal.returns-clause-ok
returns-clause-ok g c =
    let reads = sym c.decode.ensures.is ∙ c.in-Some-decode.is in
    c.in-Ok.ensures.ok ∙ instr_settled _ c.args.image.now c.args.h c.args.word c.in-Some.word c.in-Some-decode.i c.args.self.now c.requires.live c.in-Some.is reads
