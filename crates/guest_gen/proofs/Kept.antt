-- The guest's program keeps what every program keeps.
use Rattle.std.proofs.Common.{◌≡◌, ℕ, ◌+◌, ◌*◌, ◌^◌, ◌<◌, ◌≤◌, List, [], ◌∷◌, length, subst, sym, ap, arith, refl}
use Rattle.std.specs.List.{All, sum_by}
use Rattle.std.proofs.lemmas.List.Elements.{All-from_recursion}
use Rattle.rv_asm.specs.Emission.{AreWords}
use Rattle.rv_asm.specs.Kept.{IsSound, symbol_size}
use Rattle.rv_asm.specs.declared.symbol.Fixup.{Fixup}
use Rattle.rv_asm.specs.declared.symbol.Named.{Named}
use Rattle.rv_asm.proofs.Sizes.{words_len}
use Rattle.guest_gen.specs.Generated.{text, funcs, table, data_of, fixups}

pub text_fits : (n : ℕ) (words : List ℕ) → AreWords words (text n) → 4 * length words ≤ 16777216
text_fits n words are = let e : length words ≡ 126 = words_len words (text n) are in omega (arith, e)

pub data_fits : (n : ℕ) (bytes : List ℕ) → bytes ≡ data_of (funcs n) → length bytes ≤ 16777216
data_fits n bytes is = let e : length bytes ≡ 153 = ap length is in omega (arith, e)

pub funcs_sound : (n : ℕ) (fs : List Named) → fs ≡ funcs n → All IsSound fs
funcs_sound n fs is = subst (All IsSound) (sym is) (All-from_recursion IsSound (funcs n)
    ((omega arith, refl), ((omega arith, refl), ((omega arith, refl), ((omega arith, refl), ((omega arith, refl), ((omega arith, refl), ((omega arith, refl), ((omega arith, refl), ((omega arith, refl), ((omega arith, refl), record {})))))))))))

pub objects_sound : (os : List Named) → os ≡ table ∷ [] → All IsSound os
objects_sound os is = subst (All IsSound) (sym is) (All-from_recursion IsSound (table ∷ []) ((omega arith, refl), record {}))

pub names_short : (n : ℕ) (fs os : List Named) → fs ≡ funcs n → os ≡ table ∷ [] → sum_by symbol_size fs + sum_by symbol_size os < 2 ^ 31
names_short n fs os is are =
    let a : sum_by symbol_size fs ≡ 37 = ap (sum_by symbol_size) is in
    let b : sum_by symbol_size os ≡ 10 = ap (sum_by symbol_size) are in
    omega (arith, a, b)

aims : All (λ f. f.func < 10) fixups
aims = All-from_recursion (λ f. f.func < 10) fixups
    (omega arith, (omega arith, (omega arith, (omega arith, (omega arith, (omega arith, (omega arith, (omega arith, (omega arith, record {})))))))))

pub aims_below : (n : ℕ) (fs : List Named) (xs : List Fixup) → fs ≡ funcs n → xs ≡ fixups → All (λ f. f.func < length fs) xs
aims_below n fs xs is are =
    let e : length fs ≡ 10 = ap length is in
    subst (All (λ f. f.func < length fs)) (sym are) (subst (λ k. All (λ f. f.func < k) fixups) (sym e) aims)
