use Rattle.guest_mem.specs.declared.words.Right.TheVariants.{Read, Write}
use Rattle.guest_mem.proofs.paged.PagedMemGuestStore.may_write.Goals as goal

pub returns-clause-below : goal.returns-clause-below
returns-clause-below c = (c.bounded.ensures.rights Read, c.bounded.ensures.rights Write)
