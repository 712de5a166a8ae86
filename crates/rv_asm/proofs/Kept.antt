-- A text without a fault gives a program that keeps its facts.
use Rattle.std.proofs.Common.{◌≡◌, ℕ, ◌+◌, ◌*◌, ◌^◌, ◌<◌, ◌≤◌, arith, sym, ap, subst, length, List, [], None}
use Rattle.std.specs.List.{All, sum_by}
use Rattle.asm_text.specs.Statements.{weight}
use Rattle.asm_text.specs.declared.statement.Statement.{Statement}
use Rattle.rv_asm.specs.declared.meaning.Meaning.{Meaning}
use Rattle.rv_asm.specs.declared.symbol.Named.{Named}
use Rattle.rv_asm.specs.declared.symbol.Fixup.{Fixup}
use Rattle.rv_asm.specs.State.{start, after, collect}
use Rattle.rv_asm.specs.Order.{first_fault}
use Rattle.rv_asm.specs.Names.{name_faults_from}
use Rattle.rv_asm.specs.Faults.{faults_from}
use Rattle.rv_asm.specs.Emission.{AreWords, code, bytes, func, object, fixup}
use Rattle.rv_asm.specs.Kept.{symbol_size}
use Rattle.rv_asm.specs.Assembly.{all_names, fault_of}
use Rattle.rv_asm.proofs.Sizes.{IsSmall, small_after, end_after, closed_after, none_parts, text_sum, data_sum, funcs_size, objects_size, funcs_len, fixups_below, below_from, below_up, limit, open_count, words_len, Below}

no_faults : (xs : List Statement) → fault_of xs ≡ None → first_fault (faults_from (all_names xs) start xs) ≡ None
unfolding fault_of
no_faults xs none = (none_parts (name_faults_from [] start xs) (faults_from (all_names xs) start xs) none).1

small : (xs : List Statement) → fault_of xs ≡ None → IsSmall (after start xs)
small xs none = small_after (all_names xs) start xs (record { in_text = omega arith; in_data = omega arith }) (no_faults xs none)

pub kept_text : (xs : List Statement) (names : List (List ℕ × Meaning)) (words : List ℕ) → fault_of xs ≡ None → AreWords words (collect (code names) start xs) → 4 * length words ≤ 16777216
kept_text xs names words none are = omega (arith, words_len words (collect (code names) start xs) are, text_sum names start xs, (small xs none).in_text)

pub kept_data : (xs : List Statement) (names : List (List ℕ × Meaning)) (all : List ℕ) → fault_of xs ≡ None → all ≡ collect (bytes names) start xs → length all ≤ 16777216
kept_data xs names all none is = omega (arith, ap length is, data_sum names start xs (small xs none).in_data, (small xs none).in_data)

pub kept_names : (xs : List Statement) (base : ℕ) (funcs objects : List Named) → sum_by weight xs ≤ 2 ^ 28 → funcs ≡ collect func start xs → objects ≡ collect (object base) start xs → sum_by symbol_size funcs + sum_by symbol_size objects < 2 ^ 31
kept_names xs base funcs objects few fs os = omega (arith, few, ap (sum_by symbol_size) fs, ap (sum_by symbol_size) os, funcs_size start xs, objects_size base start xs)

all_below : (xs : List Statement) → Below (limit (after start xs)) (all_names xs)
unfolding all_names
all_below xs = below_from [] start xs (record {})

count_is : (xs : List Statement) → fault_of xs ≡ None → limit (after start xs) ≡ length (collect func start xs)
count_is xs none = omega (arith, ap open_count (closed_after (after start xs) (end_after (all_names xs) start xs (no_faults xs none))), funcs_len start xs)

pub kept_aims : (xs : List Statement) (names : List (List ℕ × Meaning)) (base : ℕ) (funcs : List Named) (fixups : List Fixup) → fault_of xs ≡ None → names ≡ all_names xs → funcs ≡ collect func start xs → fixups ≡ collect (fixup names base) start xs → All (λ f. f.func < length funcs) fixups
kept_aims xs names base funcs fixups none is fs xs_ =
    let k = length funcs in
    let same : limit (after start xs) ≤ k = omega (arith, count_is xs none, ap length fs) in
    let below = below_up (limit (after start xs)) k names same (subst (Below (limit (after start xs))) (sym is) (all_below xs)) in
    subst (All (λ f. f.func < k)) (sym xs_) (fixups_below k base names start xs below)
