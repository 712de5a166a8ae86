use Rattle.std.proofs.Common.{◌≡◌, ◌≤◌, drop, length}
use Rattle.world.specs.Retiring.{without, freed}
use Rattle.world.proofs.giving_up.give_up.Given as goal

abbrev pub decreases-loop-i : goal.decreases-loop-i
decreases-loop-i l = l.i

abbrev pub invariant-loop-i : goal.invariant-loop-i
invariant-loop-i l = record {
  within : l.i ≤ length l.gone;
  lives : l.lives.items ≡ without (drop l.i l.gone) l.fn.lives.items;
  numbers : l.numbers.items ≡ without (drop l.i l.gone) l.fn.numbers.items;
  free : l.region.free ≡ freed (drop l.i l.gone) l.fn.lives.items l.fn.region.free;
  all : l.region.all ≡ l.fn.region.all;
  spare : l.i ≤ l.region.spare;
}
