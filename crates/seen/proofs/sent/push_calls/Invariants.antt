use Rattle.std.proofs.Common.{◌≡◌, ◌++◌, take, string_bytes, flat_map}
use Rattle.world.specs.Worlds.{code_of}
use Rattle.seen.specs.Sent.{sent_line}
use Rattle.seen.proofs.sent.push_calls.Given as goal

abbrev pub invariant-loop-call : goal.invariant-loop-call
invariant-loop-call l = string_bytes l.text ≡ string_bytes l.initial.text ++ flat_map (sent_line l.world.image (code_of l.world) l.names l.kind l.past) (take l.call-index l.calls)
