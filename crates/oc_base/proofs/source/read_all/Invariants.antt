use Rattle.std.proofs.Common.{◌≡◌, ◌+◌, ◌-◌, ◌≤◌, length, take}
use Rattle.std.specs.Option.{ForSome}
use Rattle.oc_base.specs.Outside.{dropped}
use Rattle.oc_base.proofs.source.read_all.Given as goal

-- what was read is the first part of what was there, and each turn brought a byte
abbrev pub invariant-loop-count : goal.invariant-loop-count
invariant-loop-count g l =
    let source = g.S.Source in
    record {
      within : length l.all.items ≤ l.limit;
      left : source.left l.source ≡ dropped (length l.all.items) (source.left l.fn.source);
      bytes : ForSome (source.left l.fn.source) (λ bytes. l.all.items ≡ take (length l.all.items) bytes);
      reads : source.reads l.source ≤ source.reads l.fn.source + length l.all.items;
      faults : source.faults l.source ≡ source.faults l.fn.source;
    }

abbrev pub decreases-loop-count : goal.decreases-loop-count
decreases-loop-count g l = l.limit - length l.all.items
