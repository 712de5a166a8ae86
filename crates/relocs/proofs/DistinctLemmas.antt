-- What relocations name doesn't depend on their order, nor on how often one stands among them.
use Rattle.std.proofs.Common.{◌≡◌, ℕ, Bool, List, Option, Some, None, ap, subst}
use Rattle.std.specs.Prelude.{◌↔◌, ◌&&◌, ◌==◌, Contains, if◌then◌else◌}
use Rattle.finite.specs.Lists.{Lists}
use Rattle.elf_read.specs.declared.tables.Reloc.{Reloc}
use Rattle.elf_read.specs.Relocs.{AreSame}
use Rattle.relocs.specs.Named.{aim_at}

lists_same : (f g : ℕ → Option ℕ) (entries : List (ℕ × ℕ)) → ((a : ℕ) → f a ≡ g a) → Lists f entries → Lists g entries
lists_same f g entries same listed = record {
  ascending = listed.ascending;
  members = λ a v. subst (λ (o : Option ℕ). (o ≡ Some v) ↔ Contains entries (a, v)) (same a) (listed.members a v);
}

pub aims_same : (takes : Reloc → Bool) (aim : ℕ → Option ℕ) (rs ss : List Reloc) (entries : List (ℕ × ℕ)) → AreSame rs ss → Lists (aim_at takes aim rs) entries → Lists (aim_at takes aim ss) entries
unfolding aim_at
aims_same takes aim rs ss entries same listed = lists_same (aim_at takes aim rs) (aim_at takes aim ss) entries (λ a. ap (λ (b : Bool). if b then aim a else None) (same (λ r. takes r && r.at == a))) listed
