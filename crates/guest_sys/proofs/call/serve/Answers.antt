use Rattle.guest_sys.proofs.call.serve.Goals as goal

-- the calls that read no link are as they are for each original number of links
pub returns-in-Brk : goal.returns-in-Brk
returns-in-Brk g c = rw c.in-Brk.is (c.brk.ensures (g.O.Origins.origin c.args.o.now))

pub returns-in-Munmap : goal.returns-in-Munmap
returns-in-Munmap g c = rw c.in-Munmap.is (c.munmap.ensures (g.O.Origins.origin c.args.o.now))

pub returns-in-Mmap : goal.returns-in-Mmap
returns-in-Mmap g c = rw c.in-Mmap.is (c.mmap.ensures (g.O.Origins.origin c.args.o.now))

pub returns-in-Mprotect : goal.returns-in-Mprotect
returns-in-Mprotect g c = rw c.in-Mprotect.is (c.mprotect.ensures (g.O.Origins.origin c.args.o.now))
