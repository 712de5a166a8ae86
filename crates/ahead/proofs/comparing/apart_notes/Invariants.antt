use Rattle.std.proofs.Common.{◌≡◌, drop}
use Rattle.world.specs.Worlds.{code_of}
use Rattle.ahead.specs.Notes.{compared_notes}
use Rattle.ahead.proofs.FirstApart.{told}
use Rattle.ahead.proofs.comparing.apart_notes.Given as goal

abbrev pub invariant-loop-note : goal.invariant-loop-note
invariant-loop-note l =
    told (compared_notes l.world.image (code_of l.world) l.notes) ≡ told (compared_notes l.world.image (code_of l.world) (drop l.note-index l.notes))
