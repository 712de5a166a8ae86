use Rattle.std.proofs.Common.{length, rules, sym, ap, ◌∙◌}
use Rattle.guest_mem.specs.Memory.{number_of}
use Rattle.guest_sys.proofs.FileLaws.{eight_bytes}
use Rattle.guest_sys.proofs.files.number_at.Goals as goal

pub copy_from_slice-requires : goal.copy_from_slice-requires
copy_from_slice-requires g c = sym (ap length (c.deref.ensures.value ∙ c.in-Ok.ensures.ok) ∙ eight_bytes _ _)

pub returns : goal.returns
unfolding number_of
returns g c = search rules
