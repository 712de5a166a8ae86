use Rattle.std.proofs.Common.{◌≡◌, ◌++◌, drop}
use Rattle.seen.specs.Pictures.{functions_from}
use Rattle.seen.proofs.picture.drawn_functions.Given as goal

abbrev pub invariant-loop-n : goal.invariant-loop-n
invariant-loop-n l =
    l.functions ++ functions_from l.index.image.now l.entries.profile.now l.names l.n (drop l.n l.index.image.now.funcs)
    ≡ functions_from l.index.image.now l.entries.profile.now l.names 0 l.index.image.now.funcs
