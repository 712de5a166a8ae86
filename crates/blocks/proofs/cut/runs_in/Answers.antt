use Rattle.std.proofs.Common.{◌∙◌}
use Rattle.std.specs.Ordering.{nat_cmp}
use Rattle.std.specs.BTreeSet.{contains}
use Rattle.blocks.proofs.Cutting.{runs_cut}
use Rattle.blocks.proofs.cut.runs_in.Goals as goal

pub returns : goal.returns
returns c = c.in_ok-runs.ensures ∙ runs_cut c.args.f.now c.args.words.now (contains nat_cmp c.in_ok-starts.starts) c.in_ok-starts.ensures
