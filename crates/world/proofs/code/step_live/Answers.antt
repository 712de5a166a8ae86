use Rattle.world.specs.Worlds.{code_in}
use Rattle.world.proofs.Following.{stepped_on}
use Rattle.world.proofs.Noting.{moved_on}
use Rattle.world.proofs.code.step_live.Goals as goal

pub returns-clause-ok : goal.returns-clause-ok
returns-clause-ok c =
    let code = code_in c.args.image.now c.args.text.now c.args.lives.now.layouts.items in
    stepped_on c.args.image.now c.args.text.now c.args.lives.now.layouts.items c.region.result c.args.h c.args.machine.now c.step_fetched.new.self c.args.word
    c.requires.can c.region.ensures c.requires.word c.in-Ok.ensures.step

pub returns-clause-transfer : goal.returns-clause-transfer
returns-clause-transfer c =
    moved_on c.args.image.now c.args.text.now c.args.lives.now.layouts.items c.region.result c.args.h c.args.machine.now c.step_fetched.new.self c.args.word _
    c.requires.can c.region.ensures c.requires.word c.in-Ok.ensures.step c.in-Ok.ensures.transfer
