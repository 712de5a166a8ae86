use Rattle.std.proofs.Common.{◌≡◌, ◌≤◌, ◌++◌, length, drop}
use Rattle.guest_mem.specs.Access.{seen}
use Rattle.guest_sys.specs.Calls.{bytes_of_parts}
use Rattle.guest_sys.proofs.files.gathered.Given as goal

-- what is there, and the bytes of the parts still to come
abbrev pub invariant-loop-part : goal.invariant-loop-part
invariant-loop-part g l =
    let see = seen (g.O.Origins.origin l.origins) (g.M.GuestStore.contents l.mem) in
    (l.bytes ++ bytes_of_parts see (drop l.part-index l.parts) ≡ bytes_of_parts see l.parts) × (length l.bytes ≤ l.room)
