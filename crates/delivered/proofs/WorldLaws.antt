-- The laws of a world.
use Rattle.std.proofs.Common.{◌≡◌, ℕ, zero, suc, Bool, true, false, List, [], ◌∷◌, refl, sym, ap, subst, ◌∙◌, is_some}
use Rattle.std.specs.Prelude.{if◌then◌else◌}
use Rattle.image.specs.Picture.{Picture, IsKept}
use Rattle.branch_ring.specs.declared.counted.Counted.{Counted}
use Rattle.placer.specs.Planned.{IsPlanFor}
use Rattle.guest_sys.specs.State.{IsOrderly}
use Rattle.plans.specs.declared.plan.Moved.{Moved}
use Rattle.machine.specs.States.{State}
use Rattle.machine.specs.Start.{start_of}
use Rattle.machine.specs.Steps.{original_step}
use Rattle.machine.proofs.Stays.{stays}
use Rattle.patcher.specs.Texts.{AreTexts}
use Rattle.patcher.proofs.Spans.{are_texts}
use Rattle.sim_laws.specs.declared.stepped.Stepped.{Stepped}
use Rattle.sim_laws.specs.declared.stepped.Stepped.TheVariants as kind
use Rattle.sim_laws.specs.Steps.{original_after, is_layout}
use Rattle.sim_laws.proofs.Orderly.{replaced_orderly, start_orderly}
use Rattle.world.specs.Worlds.{Replaced, Related, started, kind_of, step_of, code_of}
use Rattle.world.specs.Replacing.{Replaces, over, done, refused}
use Rattle.world.specs.Retiring.{Retires}
use Rattle.world.specs.Retiring as retiring
use Rattle.world.specs.Runs.{until_real, real_kind_of, real_step_of}
use Rattle.world.proofs.Following.{step_follows, never_layout, real_over, real_follows}
use Rattle.world.proofs.RelatedAgain.{replaces_related}
use Rattle.world.proofs.Retirement.{retires_related}
use Rattle.world.proofs.Recording.{start_records}
use Rattle.world.proofs.RecordedRuns.{run_records}
use Rattle.world.proofs.Snapping.{snaps_related, snaps_orderly}
use Rattle.world.proofs.Starting.{started_related}
use Rattle.delivered.proofs.Standing.{Stands, Laws, OneResult}
use Rattle.delivered.proofs.OneReplacement.{one_replacement}
use Rattle.delivered.proofs.OneRetirement.{one_retirement}
use Rattle.delivered.proofs.OneSnapshot.{one_snapshot}

step_orderly : (h : ℕ) (w : Replaced) → IsOrderly w.machine.system → IsOrderly (step_of h w).machine.system
unfolding step_of
step_orderly h w orderly = replaced_orderly w.image (code_of w) h w.machine orderly

until_orderly : (n h : ℕ) (w : Replaced) → IsOrderly w.machine.system → IsOrderly (until_real n h w).machine.system
unfolding until_real
until_orderly zero h w orderly = orderly
until_orderly (suc n) h w orderly = by_kind (is_layout (kind_of h w)) (until_orderly n h (step_of h w) (step_orderly h w orderly))
  where
    by_kind : (b : Bool) → IsOrderly (until_real n h (step_of h w)).machine.system → IsOrderly (if b then until_real n h (step_of h w) else step_of h w).machine.system
    by_kind true later = later
    by_kind false later = step_orderly h w orderly

start_law : (image : Picture) (ring : ℕ) (input : List ℕ) → IsKept image → Stands (started image ring input) (start_of image input)
start_law image ring input kept = record { related = started_related image ring input kept; orderly = start_orderly image input kept }

step_law : (h : ℕ) (w : Replaced) (o : State) → Stands w o → Stands (step_of h w) (original_after (kind_of h w) w.image h o)
step_law h w o at = record {
  related = step_follows w (step_of h w) h (kind_of h w) at.orderly refl refl o at.related;
  orderly = step_orderly h w at.orderly;
}

-- a real step is one of the original machine, or none after the end
by_real_kind : (k : Stepped) (w : Replaced) (h : ℕ) (o : State) → Stands w o → k ≡ real_kind_of h w → original_step w.image h o ≡ original_after k w.image h o
by_real_kind kind.Real w h o at is = refl
by_real_kind kind.Layout w h o at is = absurd (never_layout w h kind.Layout at.related.sound is refl)
by_real_kind kind.Over w h o at is =
    let ended : is_some w.machine.outcome ≡ true = (real_over w h kind.Over at.related.sound is).0 refl in
    stays w.image (h ∷ []) o (ap is_some (sym at.related.states.outcome) ∙ ended)

real_law : (h : ℕ) (w : Replaced) (o : State) → Stands w o → Stands (real_step_of h w) (original_after (real_kind_of h w) w.image h o)
real_law h w o at = record {
  related = subst (Related (real_step_of h w)) (by_real_kind (real_kind_of h w) w h o at refl) (real_follows w (real_step_of h w) h at.orderly refl o at.related);
  orderly = until_orderly 3 h w at.orderly;
}

-- a change of code leaves the system
replaced_system : (plan : List Moved) (w v : Replaced) → Replaces plan w v → v.machine.system ≡ w.machine.system
replaced_system plan w v (over ended is) = ap (λ (x : Replaced). x.machine.system) is
replaced_system plan w v (done goes is) = ap (λ (x : Replaced). x.machine.system) is.is
replaced_system plan w v (refused why room goes is_why is) = ap (λ (x : Replaced). x.machine.system) is

retired_system : (w v : Replaced) → Retires w v → v.machine.system ≡ w.machine.system
retired_system w v (retiring.over ended is) = ap (λ (x : Replaced). x.machine.system) is
retired_system w v (retiring.done n goes is) = ap (λ (x : Replaced). x.machine.system) is.is

texts_of : (w : Replaced) (o : State) → Stands w o → AreTexts w.text
texts_of w o at =
    let sound = at.related.sound in
    are_texts w.text w.image.texts sound.placed.text (record { fit = sound.kept.texts_fit; rise = sound.kept.texts_rise })

pub laws : Laws
laws = record {
  start = start_law;
  step = step_law;
  real = real_law;
  replaced = λ plan w v o fine is at. record {
    related = replaces_related plan w v o fine is at.related;
    orderly = subst IsOrderly (sym (replaced_system plan w v is)) at.orderly;
  };
  retired = λ w v o is at. record {
    related = retires_related w v o is at.related;
    orderly = subst IsOrderly (sym (retired_system w v is)) at.orderly;
  };
  snapped = λ w v o is at. record { related = snaps_related w v o is at.related; orderly = snaps_orderly w v is at.orderly };
  first_records = λ image ring input. start_records image ring input (start_of image input);
  records = run_records;
}

pub one_result : ((image : Picture) (profile : List Counted) (p q : List Moved) → IsPlanFor image profile p → IsPlanFor image profile q → p ≡ q) → OneResult
one_result one_plan = record {
  replaced = λ plan w u v o at a b. one_replacement plan w u v at.related.sound.placed.laid at.related.sound.apart (texts_of w o at) a b;
  retired = one_retirement;
  snapped = one_snapshot;
  plan = one_plan;
}
