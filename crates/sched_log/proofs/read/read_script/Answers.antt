use Rattle.std.proofs.Common.{rules, sym, ◌∙◌}
use Rattle.sched_log.proofs.Ranges.{ranges_later, sums_later}
use Rattle.sched_log.proofs.Steps.{fault_later, event_later}
use Rattle.sched_log.proofs.read.read_script.Goals as goal

pub lines-preserved : goal.lines-preserved
lines-preserved c = record {
  fault = rw (c.is_end-ended.ensures, c.count_of-sum.ensures) (sym (fault_later c.args.image.now c.lines.rest.now c.first_line.result.0.now c.first_line.result.1.now c.in_ok-line.line c.lines.number c.lines.ended c.lines.sum c.first_line.ensures.lines c.in_ok-line.ensures.is (search rules)) ∙ c.lines.invariant.fault);
  events = event_later c.args.image.now c.lines.rest.now c.first_line.result.0.now c.first_line.result.1.now c.in_ok-line.line c.lines.events c.push_event.new.events _ c.first_line.ensures.lines c.in_ok-line.ensures.is c.lines.invariant.events (search rules);
  ranges = ranges_later c.args.image.now c.lines.events c.push_event.new.events c.in_ok-line.line c.lines.invariant.ranges c.in_ok-line.ensures.range (search rules);
  sums = rw (c.count_of-sum.ensures) (sums_later c.lines.events c.push_event.new.events c.in_ok-line.line c.lines.sum c.lines.invariant.sums (search rules));
  small = search rules;
  few = search rules;
}
