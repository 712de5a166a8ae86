use Rattle.std.proofs.Common.{◌≡◌, ◌∷◌, ◌++◌, take}
use Rattle.std.specs.Prelude.{string_bytes}
use Rattle.std.specs.List.{flat_map, AllByRecursion}
use Rattle.sched_log.specs.Ranges.{HasShortBlocks}
use Rattle.sched_log.specs.Printed.{part_text}
use Rattle.sched_log.proofs.write.push_plan.Given as goal

abbrev pub invariant-loop-part : goal.invariant-loop-part
invariant-loop-part l = record {
  text : string_bytes l.text ≡ string_bytes l.initial.text ++ flat_map (λ m. 59 ∷ 32 ∷ part_text m) (take l.part-index l.others);
  short : AllByRecursion HasShortBlocks (take l.part-index l.others);
}
