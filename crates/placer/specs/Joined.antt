-- Answers of which each has a list.
use Rattle.std.specs.Prelude.{List, [], ◌∷◌, ◌++◌, Option, Some, None, Result, Ok, Err, Vec}
use Rattle.std.specs.Option.{option_map}
use Rattle.std.specs.declared.alloc.Global.{Global}

-- the lists of all answers as one, where none is an error
abbrev pub joined : {X E : Type 0} → List (Result (Vec X Global) E) → Option (List X)
joined [] = Some []
joined (Ok list ∷ answers) = option_map (λ rest. list.items ++ rest) (joined answers)
joined (Err e ∷ answers) = None
