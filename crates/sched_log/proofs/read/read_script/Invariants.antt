use Rattle.std.proofs.Common.{◌≡◌, ◌+◌, ◌≤◌, ◌++◌, length}
use Rattle.std.specs.Prelude.{sum_by}
use Rattle.std.specs.List.{AllByRecursion}
use Rattle.sched_log.specs.Ranges.{IsInRange}
use Rattle.sched_log.specs.Script.{count, fault_of, events_of, script}
use Rattle.sched_log.proofs.Steps.{faults_from}
use Rattle.sched_log.proofs.read.read_script.Given as goal

abbrev pub invariant-lines : goal.invariant-lines
invariant-lines l = record {
  fault : faults_from l.number l.ended l.sum (script l.image l.rest) ≡ fault_of l.image l.fn.bytes;
  events : l.events ++ events_of l.image l.rest ≡ events_of l.image l.fn.bytes;
  small : l.sum ≤ 2000000000;
  ranges : AllByRecursion (IsInRange l.image) l.events;
  sums : sum_by count l.events ≡ l.sum;
  few : l.number + length l.rest ≤ length l.fn.bytes + 1;
}

abbrev pub decreases-lines : goal.decreases-lines
decreases-lines l = length l.rest
