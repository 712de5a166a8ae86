-- Steps up to a real one, and runs with the harts of their real steps. Source: this project.
use Rattle.std.specs.Prelude.{◌≡◌, ℕ, zero, suc, Bool, true, false, List, [], ◌∷◌, ◌++◌, None, if◌then◌else◌}
use Rattle.plans.specs.declared.plan.Moved.{Moved}
use Rattle.plans.specs.Given.{plan_fault}
use Rattle.machine.specs.Harts.{hart_in}
use Rattle.machine.specs.Steps.{with_hart}
use Rattle.sim_laws.specs.declared.stepped.Stepped.{Stepped}
use Rattle.sim_laws.specs.declared.stepped.Stepped.TheVariants as kind
use Rattle.sim_laws.specs.Steps.{is_layout, kind_until}
use Rattle.world.specs.declared.code.Before.{Before}
use Rattle.world.specs.Fetching.{led}
use Rattle.world.specs.Worlds.{Replaced, code_of, kind_of, step_of}
use Rattle.world.specs.Replacing.{Replaces}
use Rattle.world.specs.Retiring.{Retires}
use Rattle.world.specs.Records.{Snaps}

abbrev pub is_real : Stepped → Bool
is_real kind.Real = true
is_real kind.Layout = false
is_real kind.Over = false

abbrev pub is_over : Stepped → Bool
is_over kind.Real = false
is_over kind.Layout = false
is_over kind.Over = true

-- a step of layouts alone of hart h is taken back: one register, pc and the count are what they were
abbrev pub taken_back : ℕ → Before → Replaced → Replaced
taken_back h b w = record w {
  machine = with_hart h (led b.led (hart_in w.machine.harts h)) w.machine;
  counts = record w.counts { layout = b.layout };
}

-- ---- steps of hart h until one that is no step of a layout alone, at most n
unfoldable pub until_real : ℕ → ℕ → Replaced → Replaced
until_real zero h w = w
until_real (suc n) h w = if is_layout (kind_of h w) then until_real n h (step_of h w) else step_of h w

-- A real step and the layout's steps before it. There are never more than two.
abbrev pub real_step_of : ℕ → Replaced → Replaced
real_step_of h w = until_real 3 h w

-- what the last of these steps is
abbrev pub real_kind_of : ℕ → Replaced → Stepped
real_kind_of h w = kind_until w.image (code_of w) 3 h w.machine

-- n real steps of hart h
abbrev pub real_steps_of : ℕ → ℕ → Replaced → Replaced
real_steps_of zero h w = w
real_steps_of (suc n) h w = real_steps_of n h (real_step_of h w)

-- ---- runs
-- what a world is asked for, one at a time
pub data Atom : Type 0 where
  a_step : (h : ℕ) → Atom
  a_real_step : (h : ℕ) → Atom
  a_replacement : (plan : List Moved) → Atom
  a_retirement : Atom
  a_snap : Atom

-- the world v is w after this; code is moved by a plan of the image
abbrev pub Makes : Atom → Replaced → Replaced → Type 0
Makes (a_step h) w v = v ≡ step_of h w
Makes (a_real_step h) w v = v ≡ real_step_of h w
Makes (a_replacement plan) w v = (plan_fault w.image plan ≡ None) × Replaces plan w v
Makes a_retirement w v = Retires w v
Makes a_snap w v = Snaps w v

abbrev pub of_real : Stepped → ℕ → List ℕ
of_real k h = if is_real k then h ∷ [] else []

-- the harts whose real steps are made
abbrev pub harts_of : Atom → Replaced → List ℕ
harts_of (a_step h) w = of_real (kind_of h w) h
harts_of (a_real_step h) w = of_real (real_kind_of h w) h
harts_of (a_replacement plan) w = []
harts_of a_retirement w = []
harts_of a_snap w = []

-- the world v is w after these in turn, and these are the harts of the real steps
abbrev pub IsRun : List Atom → List ℕ → Replaced → Replaced → Type 0
IsRun [] hs w v = (hs ≡ []) × (v ≡ w)
IsRun (a ∷ more) hs w v = (u : Replaced) × (later : List ℕ) × Makes a w u × (hs ≡ harts_of a w ++ later) × IsRun more later u v

-- for each hart of a list one real step, with replacements, retirements and snapshots put in at any places
pub data IsStretched : List ℕ → List Atom → Type 0 where
  no_more : IsStretched [] []
  real : {hs : List ℕ} {atoms : List Atom} → (h : ℕ) → IsStretched hs atoms → IsStretched (h ∷ hs) (a_real_step h ∷ atoms)
  replacing : {hs : List ℕ} {atoms : List Atom} → (plan : List Moved) → IsStretched hs atoms → IsStretched hs (a_replacement plan ∷ atoms)
  retiring : {hs : List ℕ} {atoms : List Atom} → IsStretched hs atoms → IsStretched hs (a_retirement ∷ atoms)
  snapping : {hs : List ℕ} {atoms : List Atom} → IsStretched hs atoms → IsStretched hs (a_snap ∷ atoms)

-- the harts of real steps are those of a list, in order and each of them as long as the run goes on
pub record AreHartsOf (hs gs : List ℕ) (has_ended : Bool) : Type 0 where
  pub left : List ℕ
  pub split : hs ≡ gs ++ left
  pub all : has_ended ≡ false → left ≡ []
