use Rattle.std.proofs.Common.{◌∙◌}
use Rattle.guest_sys.proofs.Links.{not_link, registers_step}
use Rattle.guest_sys.proofs.service.first_link.Goals as goal

pub loop-k-preserved : goal.loop-k-preserved
loop-k-preserved c = c.loop-k.invariant ∙ registers_step _ _ _ c.loop-k-test.true (not_link _ c.in_default.not-Link)
