use Rattle.std.proofs.Common.{◌<◌, length, refl, ◌∙◌, rules}
use Rattle.std.proofs.lemmas.Option.{slice_get_read}
use Rattle.retire.proofs.Closing.{follows, ends, waits_within, shrinks}
use Rattle.retire.proofs.unreferenced.referred.Goals as goal

pub bounds-index-k : goal.bounds-index-k
bounds-index-k c = waits_within c.args.index.now.lives.now _ c.loop-k.marks _ c.in-Some.k c.loop-k.invariant c.in-Some.ensures.items

pub offset_bounds-index-k : goal.offset_bounds-index-k
offset_bounds-index-k c =
    let lt : c.in-Some.k < length c.args.index.now.lives.now = waits_within c.args.index.now.lives.now _ c.loop-k.marks _ c.in-Some.k c.loop-k.invariant c.in-Some.ensures.items in
    search rules

pub loop-k-preserved : goal.loop-k-preserved
loop-k-preserved c =
    let lives = c.args.index.now.lives.now in
    let within = waits_within lives _ c.loop-k.marks _ c.in-Some.k c.loop-k.invariant c.in-Some.ensures.items in
    follows lives _ c.loop-k.marks _ c.mark_holders.new.self c.in-Some.k _ _ c.loop-k.invariant c.in-Some.ensures.items refl
    (slice_get_read lives _ c.in-Some.k c.index-index-k.result refl within c.index-index-k.is) (c.deref.ensures.value ∙ c.in_ok-aims.ensures) c.in_ok-mark_holders.ensures

pub loop-k-smaller : goal.loop-k-smaller
loop-k-smaller c = shrinks _ c.loop-k.marks _ c.mark_holders.new.self c.in-Some.k c.in-Some.ensures.items refl c.in_ok-mark_holders.ensures

pub returns : goal.returns
returns c = ends _ _ c.loop-k.marks c.loop-k.invariant (search rules)
