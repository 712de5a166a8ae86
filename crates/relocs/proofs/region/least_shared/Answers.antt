use Rattle.std.proofs.Common.{◌<◌, ◌≤◌, ◌+◌, ℕ, get_or, take}
use Rattle.oc_base.specs.declared.range.Range.{Range}
use Rattle.relocs.specs.Regions.{Shares}
use Rattle.relocs.proofs.Regional.{least_of_two, one_more}
use Rattle.relocs.proofs.region.least_shared.Goals as goal

pub loop-r-preserved : goal.loop-r-preserved
loop-r-preserved c =
    let rs = c.args.ranges.now in
    let i = c.loop-r.r-index in
    let region = c.args.region in
    let none : Range = record { from = 0; to = 0 } in
    rw c.lesser-least.ensures (least_of_two (Shares (take i rs) region) (λ (a : ℕ). (region.from ≤ a) × (a < region.to) × ((get_or rs i none).from ≤ a) × (a < (get_or rs i none).to)) (Shares (take (i + 1) rs) region) c.loop-r.least c.shared.result (one_more rs region i none c.loop-r-test.true) c.loop-r.invariant c.shared.ensures)
