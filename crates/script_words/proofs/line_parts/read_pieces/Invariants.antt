use Rattle.std.proofs.Common.{◌≡◌, map, drop}
use Rattle.sched_log.specs.Plans.{all_of, moved_of}
use Rattle.sched_log.proofs.Pieces.{behind_all}
use Rattle.script_words.proofs.line_parts.read_pieces.Given as goal

abbrev pub invariant-loop-piece : goal.invariant-loop-piece
invariant-loop-piece l = behind_all l.parts (all_of moved_of (drop l.piece-index (map (λ w. w.now) l.pieces))) ≡ all_of moved_of (map (λ w. w.now) l.pieces)
