use Rattle.std.proofs.Common.{◌+◌, ◌-◌, ap}
use Rattle.relocs.specs.Holders.{last_of}
use Rattle.relocs.proofs.HolderLemmas.{index_more}
use Rattle.relocs.proofs.holders.places.Goals as goal

pub loop-i-preserved : goal.loop-i-preserved
loop-i-preserved c =
    let g = c.index-segments-i.result in
    let updates = c.in_ok-insert.ensures.updates in
    index_more c.args.segments.now c.loop-i.i (g.at + (g.memsize - 1)) g c.loop-i.places c.insert.new.self c.requires.each c.requires.apart c.loop-i-test.true c.loop-i.invariant (ap last_of c.index-segments-i.is) updates.0 updates.1 updates.2
