use Rattle.sim_laws.specs.Origins.{origin}
use Rattle.world.specs.Adopting.{code_shown}
use Rattle.ahead.proofs.Acting.{direct_some, direct_none}
use Rattle.ahead.proofs.going.jump.Goals as goal

pub returns-clause-some : goal.returns-clause-some
returns-clause-some c =
    direct_some (origin (code_shown c.args.code.now)) c.args.code.now.image c.args.indirect c.args.to c.args.by c.args.link c.args.hart.now c.jump_direct.new.hart c.jump_direct.result
    c.if-indirect.false c.jump_direct.ensures.some

pub returns-clause-none : goal.returns-clause-none
returns-clause-none c =
    direct_none (origin (code_shown c.args.code.now)) c.args.code.now.image c.args.indirect c.args.to c.args.by c.args.link c.args.hart.now c.jump_direct.result
    c.if-indirect.false c.jump_direct.ensures.none
