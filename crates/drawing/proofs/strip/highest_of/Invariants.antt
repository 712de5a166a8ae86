use Rattle.std.proofs.Common.{◌≡◌, fold, drop}
use Rattle.drawing.specs.Picture.{highest}
use Rattle.drawing.proofs.strip.highest_of.Given as goal

abbrev pub invariant-loop-f : goal.invariant-loop-f
invariant-loop-f l = fold (λ n f. highest n f.blocks) l.high (drop l.f-index l.functions) ≡ fold (λ n f. highest n f.blocks) 0 l.functions
