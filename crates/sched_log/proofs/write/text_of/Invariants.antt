use Rattle.std.proofs.Common.{◌≡◌, take}
use Rattle.std.specs.Prelude.{string_bytes}
use Rattle.std.specs.List.{flat_map, AllByRecursion}
use Rattle.sched_log.specs.Ranges.{IsShort}
use Rattle.sched_log.specs.Printed.{line_text, terminated}
use Rattle.sched_log.proofs.write.text_of.Given as goal

abbrev pub invariant-loop-event : goal.invariant-loop-event
invariant-loop-event l = record {
  text : string_bytes l.text ≡ flat_map (λ e. terminated (line_text e)) (take l.event-index l.events);
  short : AllByRecursion IsShort (take l.event-index l.events);
}
