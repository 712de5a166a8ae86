-- Who is on the system's list of waiting harts. Source: this project.
use Rattle.std.specs.Prelude.{◌≡◌, false, All}
use Rattle.machine.specs.Harts.{is_live, hart_in}
use Rattle.machine.specs.States.{State}

-- no live hart is
abbrev pub ListsNoLive : State → Type 0
ListsNoLive s = All (λ w. is_live (hart_in s.harts w.hart).status ≡ false) s.system.waiting
