use Rattle.guest_mem.specs.declared.words.Right.TheVariants.{Read}
use Rattle.guest_mem.proofs.paged.PagedMemGuestStore.may_read.Goals as goal

pub returns-clause-below : goal.returns-clause-below
returns-clause-below c = c.bounded.ensures.rights Read
