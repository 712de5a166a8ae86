use Rattle.std.proofs.Common.{◌∙◌, subst}
use Rattle.image.specs.Picture.{Picture}
use Rattle.emit.specs.Emitted.{IsFault}
use Rattle.emit.specs.Entries.{calls_of}
use Rattle.emit.proofs.Parts.{parts_more, fault_more, fault_explains, none_left}
use Rattle.emit.proofs.plan.entries_of.Goals as goal

pub returns-in-Err-clause-fault : goal.returns-in-Err-clause-fault
returns-in-Err-clause-fault c = fault_explains c.args.image.now c.args.parts.now c.loop-i.i c.index-parts-i.result c.in-Err.e c.loop-i-test.true c.index-parts-i.is (subst (λ (p : Picture). IsFault p c.index-parts-i.result.func c.in-Err.e) c.in-Ok.ensures.image c.in-Err.ensures.fault) c.loop-i.invariant.fault

pub loop-i-preserved : goal.loop-i-preserved
loop-i-preserved c = record {
  entries = parts_more c.args.image.now (calls_of c.args.image.now c.args.parts.now) c.args.parts.now c.loop-i.i c.index-parts-i.result c.loop-i.out.items c.push_part.new.out.items _ c.loop-i-test.true c.index-parts-i.is (rw (c.in-Ok.ensures.image, c.in-Ok.ensures.parts) at c.in-Ok-push_part.ensures.is) c.loop-i.invariant.entries;
  fault = fault_more c.args.image.now c.args.parts.now c.loop-i.i c.index-parts-i.result c.loop-i-test.true c.index-parts-i.is (rw c.in-Ok.ensures.image at c.in-Ok-push_part.ensures.none) c.loop-i.invariant.fault;
}

pub returns-clause-none : goal.returns-clause-none
returns-clause-none c = c.loop-i.invariant.fault ∙ none_left c.args.image.now c.args.parts.now c.loop-i.i c.loop-i-test.false
