use Rattle.std.proofs.Common.{sym}
use Rattle.finite.proofs.MapLaws.{all-none, all-more, all-cut}
use Rattle.guest_mem.proofs.flat.have_rights.Goals as goal

pub loop-k-init : goal.loop-k-init
loop-k-init c = all-none _ _

pub returns-then-not-has_right : goal.returns-then-not-has_right
returns-then-not-has_right c = sym (all-cut _ _ c.loop-k.k _ c.loop-k-test.true (cc c.has_right.ensures))

pub loop-k-preserved : goal.loop-k-preserved
loop-k-preserved c = all-more _ _ c.loop-k.k c.loop-k.invariant (cc c.has_right.ensures)
