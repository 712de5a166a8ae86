use Rattle.std.proofs.Common.{◌≡◌, ◌++◌, take, string_bytes, flat_map}
use Rattle.seen.specs.Profiles.{ran_line}
use Rattle.seen.proofs.profile.push_all_ran.Given as goal

abbrev pub invariant-loop-s : goal.invariant-loop-s
invariant-loop-s l = string_bytes l.text ≡ string_bytes l.initial.text ++ flat_map (ran_line l.entries.profile.now l.names) (take l.s-index l.spots)
