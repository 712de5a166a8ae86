use Rattle.std.proofs.Common.{rules, Some, inl, refl, ap, ◌∙◌}
use Rattle.guest_gen.proofs.call.guest_file.Goals as goal

pub returns : goal.returns
returns c = inl (record {
  program = c.in-Ok.program;
  generated = c.in-Ok.ensures;
  named = refl;
  written = search rules;
  said = ap Some (c.new.ensures ∙ c.in-Ok-said.ensures);
})
