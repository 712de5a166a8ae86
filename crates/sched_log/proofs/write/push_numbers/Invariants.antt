use Rattle.std.proofs.Common.{◌≡◌, ◌∷◌, ◌++◌, take}
use Rattle.std.specs.Prelude.{string_bytes, decimal}
use Rattle.std.specs.List.{flat_map}
use Rattle.sched_log.proofs.write.push_numbers.Given as goal

abbrev pub invariant-loop-number : goal.invariant-loop-number
invariant-loop-number l = string_bytes l.text ≡ string_bytes l.initial.text ++ flat_map (λ n. 32 ∷ decimal n) (take l.number-index l.others)
