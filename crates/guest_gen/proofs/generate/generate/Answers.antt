use Rattle.std.proofs.Common.{rules, ◌≡◌, [], ◌∷◌, ap, subst, refl, ◌∙◌}
use Rattle.rv_asm.specs.Emission.{AreWords}
use Rattle.guest_gen.specs.Generated.{text, funcs, table, data_of, fixups}
use Rattle.guest_gen.proofs.Kept.{text_fits, data_fits, funcs_sound, objects_sound, names_short, aims_below}
use Rattle.guest_gen.proofs.generate.generate.Goals as goal

pub invariant_of-result : goal.invariant_of-result
invariant_of-result c =
    let words : AreWords c.from_vec-text.result (text c.args.n) =
    rw (c.from_vec-text.ensures) (subst (AreWords _) (c.deref.ensures.value ∙ c.in_ok-code.ensures.code) c.in_ok-words_of.ensures) in
    let in_data : c.from_vec-bytes.result ≡ data_of (funcs c.args.n) =
    c.from_vec-bytes.ensures ∙ c.in_ok-data.ensures ∙ ap data_of (c.deref-2.ensures.value ∙ c.in_ok-code.ensures.funcs) in
    let functions : c.from_vec-funcs.result ≡ funcs c.args.n = c.from_vec-funcs.ensures ∙ c.in_ok-code.ensures.funcs in
    let objects : c.from_vec-objects.result ≡ table ∷ [] = search rules in
    let relocations : c.in_ok-fixups.fixups ≡ fixups = c.in_ok-fixups.ensures ∙ c.fixups.ensures in
    record {
      text_limit = text_fits c.args.n _ words;
      data_limit = data_fits c.args.n _ in_data;
      sound_funcs = funcs_sound c.args.n _ functions;
      sound_objects = objects_sound _ objects;
      short_names = names_short c.args.n _ _ functions objects;
      aims = aims_below c.args.n _ _ functions relocations;
    }

pub returns : goal.returns
returns c =
    record {
      words = rw (c.from_vec-text.ensures) (subst (AreWords _) (c.deref.ensures.value ∙ c.in_ok-code.ensures.code) c.in_ok-words_of.ensures);
      in_data = c.from_vec-bytes.ensures ∙ c.in_ok-data.ensures ∙ ap data_of (c.deref-2.ensures.value ∙ c.in_ok-code.ensures.funcs);
      start_at = refl;
      functions_are = c.from_vec-funcs.ensures ∙ c.in_ok-code.ensures.funcs;
      objects_are = search rules;
      relocations = c.in_ok-fixups.ensures ∙ c.fixups.ensures;
    }
