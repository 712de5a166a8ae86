use Rattle.std.proofs.Common.{◌≡◌, ◌++◌, drop, string_bytes}
use Rattle.looking.specs.Listing.{run_texts}
use Rattle.looking.proofs.listing.push_runs.Given as goal

abbrev pub invariant-loop-k : goal.invariant-loop-k
invariant-loop-k l = string_bytes l.text ++ run_texts l.n l.runs l.k (drop l.k l.runs) ≡ string_bytes l.initial.text ++ run_texts l.n l.runs 0 l.runs
