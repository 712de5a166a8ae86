use Rattle.ahead.proofs.Leading.{written_back}
use Rattle.ahead.proofs.course.write.Goals as goal

pub returns-clause-back : goal.returns-clause-back
returns-clause-back c = written_back c.args.hart.now c.set_reg.new.self c.args.rd c.args.pc c.args.value c.reg.result c.reg.ensures c.set_reg.ensures
