use Rattle.std.proofs.Common.{ap, ◌∙◌}
use Rattle.std.specs.Prelude.{vec_len, vec_capacity}
use Rattle.std.specs.Arc.{arc_value}
use Rattle.recorder.specs.Journals.{Journal}
use Rattle.recorder.proofs.Adding.{run_of_none}
use Rattle.recorder.proofs.Keeping.{kept_new}
use Rattle.recorder.proofs.recorder.Recorder.keep_log.Goals as goal

pub invariant_of-result : goal.invariant_of-result
invariant_of-result c = (
  kept_new c.args.world c.none.result c.new-2.result c.no_steps.result (vec_len c.empty.result.entries) (vec_capacity c.empty.result.entries) (arc_value c.in-Ok-new.image)
      c.none.ensures c.new-2.ensures.is c.new-2.ensures.none c.no_steps.ensures.harts c.empty.ensures.len
      (c.in-Ok-new.ensures.ok ∙ c.in-Ok.ensures ∙ c.image.ensures),
  tt,
)

pub returns-clause-runs : goal.returns-clause-runs
returns-clause-runs c = run_of_none c.empty.result.entries.items c.args.world (ap (λ (j : Journal). j.entries) c.empty.ensures.is)
