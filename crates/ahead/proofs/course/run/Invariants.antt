use Rattle.std.proofs.Common.{◌≡◌}
use Rattle.std.specs.Vec.{vec_capacity}
use Rattle.ahead.specs.Making.{AddsMany}
use Rattle.ahead.proofs.course.run.Given as goal

abbrev pub invariant-loop-made : goal.invariant-loop-made
invariant-loop-made l =
    AddsMany l.made l.code l.initial.course.hart l.course.hart l.initial.course.notes.items l.course.notes.items
    × (vec_capacity l.course.notes ≡ vec_capacity l.initial.course.notes)
