use Rattle.std.specs.List.{All}
use Rattle.std.proofs.lemmas.List.Sorted.{All-permutation}
use Rattle.finite.proofs.Arranged.{clash, distinct_apart, rise_sorted}
use Rattle.image.specs.Aims.{part_start, part_end}
use Rattle.image.specs.Picture.{IsPart, LiesApart}
use Rattle.relocs.proofs.PartLemmas.{parts_fit, parts_apart, all_clear, some_parts}
use Rattle.relocs.proofs.parts.sorted_parts.Goals as goal

pub returns-clause-same : goal.returns-clause-same
returns-clause-same c = rw (← c.in_ok-parts.ensures) c.sort_parts.ensures.same

pub returns-clause-fit : goal.returns-clause-fit
returns-clause-fit c = All-permutation IsPart c.in_ok-parts.parts.items c.sort_parts.new.parts.items c.sort_parts.ensures.same (rw c.in_ok-parts.ensures (parts_fit c.args.texts.now c.args.segments.now c.requires.segments))

pub returns-clause-rise : goal.returns-clause-rise
returns-clause-rise c =
    let fit : All IsPart c.sort_parts.new.parts.items = All-permutation IsPart c.in_ok-parts.parts.items c.sort_parts.new.parts.items c.sort_parts.ensures.same (rw c.in_ok-parts.ensures (parts_fit c.args.texts.now c.args.segments.now c.requires.segments)) in
    rise_sorted part_start part_end c.in_ok-parts.parts.items c.sort_parts.new.parts.items (rw c.in_ok-parts.ensures (distinct_apart (clash part_start part_end) _ (parts_apart c.args.texts.now c.args.segments.now c.requires.segments_apart))) c.sort_parts.ensures.same c.sort_parts.ensures.sorted (some_parts c.sort_parts.new.parts.items fit)

pub returns-clause-apart : goal.returns-clause-apart
returns-clause-apart c = All-permutation (λ p. All (LiesApart p) c.args.texts.now) c.in_ok-parts.parts.items c.sort_parts.new.parts.items c.sort_parts.ensures.same (rw c.in_ok-parts.ensures (all_clear c.args.texts.now c.args.segments.now c.requires.rise c.requires.cuts))
