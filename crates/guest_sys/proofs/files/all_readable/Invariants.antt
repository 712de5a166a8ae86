use Rattle.std.proofs.Common.{◌≡◌, drop}
use Rattle.guest_sys.specs.Calls.{all_readable}
use Rattle.guest_sys.proofs.files.all_readable.Given as goal

-- the answer is that of the parts still to come
abbrev pub invariant-loop-part : goal.invariant-loop-part
invariant-loop-part g l = all_readable (g.M.GuestStore.contents l.mem).readable l.parts ≡ all_readable (g.M.GuestStore.contents l.mem).readable (drop l.part-index l.parts)
