use Rattle.std.proofs.Common.{◌≡◌, ◌≤◌, ◌++◌, length, drop}
use Rattle.std.specs.Vec.{vec_capacity}
use Rattle.layout.specs.Bases.{places_from}
use Rattle.layout.proofs.bases.note_all.Given as goal

abbrev pub invariant-loop-position : goal.invariant-loop-position
invariant-loop-position l =
    (l.places.items ++ places_from l.position (drop l.position l.lives) ≡ places_from 0 l.lives)
    × (length l.places.items ≤ l.position)
    × (vec_capacity l.places ≡ vec_capacity l.fn.places)
