use Rattle.std.proofs.Common.{◌≡◌, ◌++◌, drop}
use Rattle.emit.specs.Entries.{calls_of, runs_entries, in_order}
use Rattle.emit.proofs.unplaced.push_runs.Given as goal

abbrev pub invariant-loop-i : goal.invariant-loop-i
invariant-loop-i g l = l.out.items ++ runs_entries (calls_of l.c.image.now l.c.parts.now) l.m.func (g.F.Far.far l.far) (in_order l.runs (drop l.i l.order))
    ≡ l.initial.out.items ++ runs_entries (calls_of l.c.image.now l.c.parts.now) l.m.func (g.F.Far.far l.far) (in_order l.runs l.order)
