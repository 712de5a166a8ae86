use Rattle.std.proofs.Common.{◌≤◌, take}
use Rattle.near_region.specs.Pages.{AreNearPages}
use Rattle.near_region.proofs.region.near_pages.Given as goal

abbrev pub invariant-loop-t : goal.invariant-loop-t
invariant-loop-t l = (l.last ≤ 32768) × AreNearPages (take l.t-index l.texts) l.first l.last
