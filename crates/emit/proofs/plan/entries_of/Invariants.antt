use Rattle.std.proofs.Common.{◌≡◌, ◌++◌, drop}
use Rattle.std.specs.List.{flat_map}
use Rattle.emit.specs.Entries.{calls_of, part_entries}
use Rattle.emit.specs.Emitted.{plan_unreadable}
use Rattle.emit.proofs.plan.entries_of.Given as goal

abbrev pub invariant-loop-i : goal.invariant-loop-i
invariant-loop-i l = record {
  entries : l.out.items ++ flat_map (part_entries l.image (calls_of l.image l.parts)) (drop l.i l.parts) ≡ flat_map (part_entries l.image (calls_of l.image l.parts)) l.parts;
  fault : plan_unreadable l.image l.parts ≡ plan_unreadable l.image (drop l.i l.parts);
}
