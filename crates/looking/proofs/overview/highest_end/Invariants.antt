use Rattle.std.proofs.Common.{◌≡◌, max, map, fold, drop}
use Rattle.image.specs.Texts.{text_end}
use Rattle.looking.proofs.overview.highest_end.Given as goal

-- the highest end so far, and those that are left
abbrev pub invariant-loop-t : goal.invariant-loop-t
invariant-loop-t l = fold max l.highest (map text_end (drop l.t-index l.texts)) ≡ fold max 0 (map text_end l.texts)
