use Rattle.std.proofs.Common.{◌≡◌, ℕ, ◌++◌, drop, map}
use Rattle.std.specs.List.{flat_map}
use Rattle.world.specs.Retiring.{register_links}
use Rattle.world.proofs.giving_up.links_held.Given as goal

abbrev pub invariant-loop-link : goal.invariant-loop-link
invariant-loop-link l =
    l.found.items ++ map (λ (l : ℕ × ℕ). l.1) (drop l.link-index l.link-items)
    ≡ flat_map register_links l.machine.harts ++ map (λ (l : ℕ × ℕ). l.1) l.link-items
