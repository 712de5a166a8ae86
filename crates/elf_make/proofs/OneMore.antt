-- One more entry of a table.
use Rattle.std.proofs.Common.{◌≡◌, ℕ, ◌+◌, ◌-◌, ◌<◌, List, [], ◌∷◌, ◌++◌, length, map, take, drop, get_or, ap, ◌∙◌, arith}
use Rattle.std.specs.List.{flat_map, sum_by}
use Rattle.std.proofs.lemmas.Grind.{common_steps, flat_map-append}
use Rattle.std.proofs.lemmas.List.{append-nil, take_more, drop_more, map_more}
use Rattle.rv_asm.specs.Kept.{symbol_size}
use Rattle.rv_asm.specs.declared.symbol.Named.{Named}
use Rattle.elf_make.specs.Bytes.{ended}
use Rattle.elf_make.specs.Rows.{symbol_entry}
use Rattle.elf_make.specs.File.{symbols_of, name_of}

joined : {X Y : Type 0} (f : X → List Y) (xs : List X) (x : X) → flat_map f (xs ++ x ∷ []) ≡ flat_map f xs ++ f x
joined f xs x = flat_map-append f xs (x ∷ []) ∙ ap (λ ys. flat_map f xs ++ ys) (append-nil (f x))

pub flat_more : {X Y : Type 0} (f : X → List Y) (xs : List X) (i : ℕ) (d : X) → i < length xs → flat_map f (take (i + 1) xs) ≡ flat_map f (take i xs) ++ f (get_or xs i d)
flat_more f xs i d lt = ap (flat_map f) (take_more xs i d lt) ∙ joined f (take i xs) (get_or xs i d)

pub names_more : (xs : List Named) (i : ℕ) (d : Named) → i < length xs → flat_map ended (map name_of (take (i + 1) xs)) ≡ flat_map ended (map name_of (take i xs)) ++ ended (get_or xs i d).name
names_more xs i d lt = ap (flat_map ended) (map_more name_of xs i d lt) ∙ joined ended (map name_of (take i xs)) (get_or xs i d).name

pub symbols_more : (info section name : ℕ) (xs : List Named) (i : ℕ) (d : Named) → i < length xs → flat_map symbol_entry (symbols_of info section name (drop i xs)) ≡ symbol_entry (record { name = name; info = info; section = section; value = (get_or xs i d).from; size = (get_or xs i d).to - (get_or xs i d).from }) ++ flat_map symbol_entry (symbols_of info section (name + symbol_size (get_or xs i d)) (drop (i + 1) xs))
symbols_more info section name xs i d lt = ap (λ (rest : List Named). flat_map symbol_entry (symbols_of info section name rest)) (drop_more xs i d lt)

pub size_more : (xs : List Named) (i : ℕ) (d : Named) → i < length xs → sum_by symbol_size (drop i xs) ≡ symbol_size (get_or xs i d) + sum_by symbol_size (drop (i + 1) xs)
size_more xs i d lt = ap (sum_by symbol_size) (drop_more xs i d lt) ∙ grind (arith, common_steps)
