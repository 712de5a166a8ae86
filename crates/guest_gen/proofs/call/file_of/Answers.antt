use Rattle.std.proofs.Common.{rules, inl, refl}
use Rattle.guest_gen.proofs.call.file_of.Goals as goal

pub returns : goal.returns
returns c = inl (record {
  sound = search rules;
  program = c.in-Ok.program;
  assembled = search rules;
  named = refl;
  written = search rules;
  quiet = refl;
})
