use Rattle.std.proofs.Common.{◌+◌, ap, sym, ◌∙◌}
use Rattle.std.proofs.lemmas.List.Sorted.{list_any-IsPermutation}
use Rattle.relocs.specs.Cover.{is_held, is_held_by}
use Rattle.relocs.proofs.SlotLemmas.{tabled_by_ranges}
use Rattle.relocs.proofs.slots.tables_of.Goals as goal

pub invariant_of-result : goal.invariant_of-result
invariant_of-result c = record {
  sorted = c.sort_by_start.ensures.sorted;
  len = rw c.deref.ensures.value at c.in_ok-tops.ensures.len;
  tops_are = rw c.deref.ensures.value at c.in_ok-tops.ensures.tops;
  same = λ a lt. tabled_by_ranges c.args.symbols.now a lt ∙ ap (λ ranges. is_held ranges a (a + 8)) (sym c.in_ok-ranges.ensures) ∙ list_any-IsPermutation (is_held_by a (a + 8)) c.in_ok-ranges.ranges.items c.sort_by_start.new.ranges.items c.sort_by_start.ensures.same;
}
