use Rattle.std.proofs.Common.{List, length, ap, ◌∙◌}
use Rattle.hart.specs.declared.hart.Hart.{Hart}
use Rattle.guest_mem.specs.Access.{seen}
use Rattle.machine.proofs.Made.{call_makes, has_room, replied_length, shared_length}
use Rattle.machine.proofs.machine.Machine.call.Goals as goal

pub finish_call-self-inside-requires-clause-room :
    goal.finish_call-self-inside-requires-clause-room
finish_call-self-inside-requires-clause-room g c =
    let origin = g.O.Origins.origin c.args.origins.now in
    let m = c.self.inside.memory.contents in
    let s = c.self.inside.system in
    let made = call_makes origin (seen origin m) m.readable m.writable s c.syscall.new.sys m c.syscall.new.mem.contents c.args.h c.at.result.now.clear c.arguments_of-arguments.result c.in-Ok.effect c.in-Ok.ensures in
    has_room c.in-Ok.effect.reply s.made c.syscall.new.sys.made (length c.self.inside.harts) made c.orderly.ensures.few_made c.self.invariant

pub invariant_of-self-2 : goal.invariant_of-self-2
invariant_of-self-2 g c =
    let origin = g.O.Origins.origin c.args.origins.now in
    let m = c.self.inside.memory.contents in
    let s = c.self.inside.system in
    let effect = c.in-Ok.effect in
    let made = call_makes origin (seen origin m) m.readable m.writable s c.syscall.new.sys m c.syscall.new.mem.contents c.args.h c.at.result.now.clear c.arguments_of-arguments.result effect c.in-Ok.ensures in
    c.set_waiting.ensures.made ∙ ap (λ (hs : List Hart). length hs) c.finish_call-self-inside.ensures.harts
    ∙ replied_length c.args.h effect.reply _ s.made c.syscall.new.sys.made made (shared_length effect.woken effect.written c.self.inside.harts ∙ c.self.invariant)
