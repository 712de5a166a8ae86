use Rattle.std.proofs.Common.{◌≡◌, ◌++◌, drop, map}
use Rattle.sim_laws.specs.Origins.{origin_of}
use Rattle.world.specs.Worlds.{point_at}
use Rattle.world.specs.Told.{hart_by}
use Rattle.world.proofs.told.hart_facts.Given as goal

abbrev pub invariant-loop-h : goal.invariant-loop-h
invariant-loop-h l =
    l.all.items ++ map (λ h. hart_by (origin_of h.pc (point_at l.region l.lives.layouts.items h.pc)) h.pc h.status) (drop l.h l.machine.harts)
    ≡ map (λ h. hart_by (origin_of h.pc (point_at l.region l.lives.layouts.items h.pc)) h.pc h.status) l.machine.harts
