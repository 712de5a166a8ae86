-- Devices in memory none of whose calls is listed.
use Rattle.std.proofs.Common.{◌≡◌, ℕ, List, [], Option, ap, subst, ◌∙◌}
use Rattle.oc_base.specs.Listed.{counted}
use Rattle.oc_base.specs.Outside.{Rose}

-- no call of theirs fails
pub never_fails : (fails : List ℕ) (before now : Option ℕ) → before ≡ counted fails 0 → fails ≡ [] → Rose before now → ⊥
never_fails fails before now is none rose = subst (λ count. Rose count now) (is ∙ ap (λ listed. counted listed 0) none) rose
