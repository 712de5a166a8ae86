use Rattle.std.proofs.Common.{◌≡◌, ◌-◌, ◌^◌, fold, drop}
use Rattle.drawing.specs.Picture.{lowest}
use Rattle.drawing.proofs.strip.lowest_of.Given as goal

abbrev pub invariant-loop-f : goal.invariant-loop-f
invariant-loop-f l = fold (λ n f. lowest n f.blocks) l.low (drop l.f-index l.functions) ≡ fold (λ n f. lowest n f.blocks) (2 ^ 64 - 1) l.functions
