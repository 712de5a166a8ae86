use Rattle.world.proofs.Flights.{taken_in}
use Rattle.world.proofs.world.World.take_in.Goals as goal

pub returns : goal.returns
returns c =
    taken_in c.args.h (record { regs = c.args.regs; pc = c.args.pc; real = c.args.real; layout = c.args.layout; transfers = c.args.transfers.now }) _ c.args.self.now c.self.view_is
    c.set_hart.new.self c.more_by-self-inside.result c.more_by-self-inside-2.result c.note_all.new.rings
    c.set_hart.ensures c.more_by-self-inside.ensures c.more_by-self-inside-2.ensures c.note_all.ensures
