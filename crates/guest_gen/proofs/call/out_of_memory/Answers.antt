use Rattle.guest_gen.proofs.call.out_of_memory.Goals as goal

pub returns : goal.returns
returns g c = λ rest. rw (c.made.ensures) (c.give_up.ensures rest)
