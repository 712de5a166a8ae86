-- Places that relocations name, one relocation more.
use Rattle.std.proofs.Common.{◌≡◌, ℕ, ◌+◌, ◌<◌, Bool, true, false, cond, List, [], length, take, get_or, Option, Some, None, refl}
use Rattle.std.specs.Prelude.{◌&&◌, ◌||◌, ◌==◌}
use Rattle.std.specs.Option.{option_or}
use Rattle.std.specs.List.{list_any}
use Rattle.std.proofs.lemmas.List.Folds.{list_any_more}
use Rattle.elf_read.specs.declared.tables.Reloc.{Reloc}
use Rattle.relocs.specs.Named.{aim_at}

pub aim_at_none : (takes : Reloc → Bool) (aim : ℕ → Option ℕ) (q : ℕ) → aim_at takes aim [] q ≡ None
unfolding aim_at
aim_at_none takes aim q = refl

named_step : (a b : Bool) (o : Option ℕ) → cond (a || b) o None ≡ cond b (option_or o (cond a o None)) (cond a o None)
named_step true true None = refl
named_step true true (Some x) = refl
named_step true false o = refl
named_step false true None = refl
named_step false true (Some x) = refl
named_step false false o = refl

pub aim_at_more : (takes : Reloc → Bool) (aim : ℕ → Option ℕ) (rs : List Reloc) (q i : ℕ) (d : Reloc) → i < length rs → aim_at takes aim (take (i + 1) rs) q ≡ cond (takes (get_or rs i d) && (get_or rs i d).at == q) (option_or (aim q) (aim_at takes aim (take i rs) q)) (aim_at takes aim (take i rs) q)
unfolding aim_at
aim_at_more takes aim rs q i d lt =
    let p : Reloc → Bool = λ r. takes r && r.at == q in
    rw (list_any_more p rs i d lt) (named_step (list_any p (take i rs)) (p (get_or rs i d)) (aim q))
