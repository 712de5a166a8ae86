-- Where a map has the symbols of functions.
use Rattle.std.proofs.Common.{◌≡◌, ℕ, ◌+◌, ◌-◌, ◌≤◌, Bool, true, ◌∙◌, sym, ap, arith}
use Rattle.std.specs.Prelude.{◌==◌, ◌&&◌}
use Rattle.std.specs.BTreeMap.{is_at}
use Rattle.std.proofs.lemmas.Grind.{common_steps}
use Rattle.std.proofs.lemmas.Bool.Decides.{nat_tests}
use Rattle.elf_read.specs.declared.elf.Symbol.{Symbol}
use Rattle.image.specs.declared.ranges.Func.{Func}
use Rattle.relocs.specs.Functions.{is_code, symbol_end}
use Rattle.func_names.specs.Names.{is_of}
use Rattle.func_names.specs.Firsts.{pair_cmp}

at_range : (at size from to : ℕ) → from ≤ to → is_at (pair_cmp (at, size)) (from, to - from) ≡ ((at == from) && (at + size == to))
at_range at size from to within = grind (arith, nat_tests, common_steps)

-- a symbol of a function stands at the addresses of that function alone
pub at_func : (s : Symbol) (f : Func) → is_code s ≡ true → f.from ≤ f.to → is_at (pair_cmp (s.value, s.size)) (f.from, f.to - f.from) ≡ is_of f s
at_func s f code within = at_range s.value s.size f.from f.to within ∙ sym (ap (λ (b : Bool). b && ((s.value == f.from) && (symbol_end s == f.to))) code)
