-- A step of the machine whose code has been moved, and what it is for the original one.
use Rattle.std.specs.Prelude.{ℕ, zero, suc, Bool, true, false, ◌&&◌, Option, None, is_some, if◌then◌else◌}
use Rattle.image.specs.Picture.{Picture}
use Rattle.layout.specs.Points.{Code}
use Rattle.machine.specs.States.{State}
use Rattle.machine.specs.Harts.{is_live, hart_in}
use Rattle.machine.specs.Steps.{step_with, original_step}
use Rattle.machine.specs.Transfers.{transfer_with, original_transfer}
use Rattle.sim_laws.specs.declared.stepped.Stepped.{Stepped}
use Rattle.sim_laws.specs.declared.stepped.Stepped.TheVariants.{Real, Layout, Over}
use Rattle.sim_laws.specs.Origins.{origin, is_layout_step}

-- a step of hart h: the original machine's, with the words now and with the original numbers of links
unfoldable pub replaced_step : Picture → Code → ℕ → State → State
replaced_step p c h r = step_with c.word (origin c) p h r

-- what the step of hart h is
unfoldable pub stepped : Code → ℕ → State → Stepped
stepped c h r =
    if is_some r.outcome then Over
    else (if is_live (hart_in r.harts h).status && is_layout_step c (hart_in r.harts h).pc then Layout else Real)

-- what the original machine does meanwhile
abbrev pub original_after : Stepped → Picture → ℕ → State → State
original_after Real p h o = original_step p h o
original_after Layout p h o = o
original_after Over p h o = o

abbrev pub is_layout : Stepped → Bool
is_layout Real = false
is_layout Layout = true
is_layout Over = false

-- the transfer that the step of hart h makes, by original addresses: none, where it is a step of the layout alone
unfoldable pub replaced_transfer : Picture → Code → ℕ → State → Option (ℕ × ℕ)
replaced_transfer p c h r = if is_layout (stepped c h r) then None else transfer_with c.word (origin c) p h r

-- and that of the original machine meanwhile
abbrev pub transfer_after : Stepped → Picture → ℕ → State → Option (ℕ × ℕ)
transfer_after Real p h o = original_transfer p h o
transfer_after Layout p h o = None
transfer_after Over p h o = None

-- steps of hart h as long as they are steps of the layout alone, and then the one that isn't, but n at most; and what the last of
-- them is. Where all n are steps of the layout, so is the last.
unfoldable pub until_real : Picture → Code → (n h : ℕ) → State → State
until_real p c zero h r = r
until_real p c (suc n) h r = if is_layout (stepped c h r) then until_real p c n h (replaced_step p c h r) else replaced_step p c h r

unfoldable pub kind_until : Picture → Code → (n h : ℕ) → State → Stepped
kind_until p c zero h r = Layout
kind_until p c (suc n) h r = if is_layout (stepped c h r) then kind_until p c n h (replaced_step p c h r) else stepped c h r
