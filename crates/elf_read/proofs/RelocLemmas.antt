-- Entries that several sections share, read once.
use Rattle.std.proofs.Common.{◌≡◌, ℕ, zero, suc, ◌+◌, ◌*◌, ◌-◌, ◌/◌, ◌%◌, ◌<◌, ◌≤◌, Bool, true, false, cond, List, [], ◌∷◌, ◌++◌, take, get_or, length, filter, refl, sym, ap, subst, ◌∙◌, arith, append_assoc}
use Rattle.std.specs.Prelude.{◌||◌, nat_lt}
use Rattle.std.specs.List.{list_any, flat_map}
use Rattle.std.specs.List.Sorted.{IsPermutation}
use Rattle.std.proofs.lemmas.Bool.Decides.{nat_tests}
use Rattle.std.proofs.lemmas.List.{append-nil, take_more}
use Rattle.std.proofs.lemmas.List.Elements.{filter-append}
use Rattle.std.proofs.lemmas.List.Folds.{list_any-append}
use Rattle.std.proofs.lemmas.List.Sorted.{list_any-IsPermutation}
use Rattle.std.proofs.lemmas.Grind.{flat_map-append}
use Rattle.elf_read.specs.declared.tables.Reloc.{Reloc}
use Rattle.elf_read.specs.declared.tables.SectionHeader.{SectionHeader}
use Rattle.elf_read.specs.Tables.{table, reloc}
use Rattle.elf_read.specs.Relocs.{entries_from, relocs_of, AreSame, AreAmong}
use Rattle.elf_read.proofs.Loops.{table_more, table_none}

abbrev is_one : ℕ → Reloc → Bool
is_one n r = nat_lt r.symbol n

passed : (p : Reloc → Bool) (xs : List Reloc) (x : Reloc) → filter p (xs ++ x ∷ []) ≡ filter p xs ++ cond (p x) (x ∷ []) []
passed p xs x = filter-append p xs (x ∷ [])

-- one more entry
pub entries_more : (bytes : List ℕ) (n from i : ℕ) → entries_from bytes n from (i + 1) ≡ entries_from bytes n from i ++ cond (is_one n (reloc bytes (from + 24 * i))) (reloc bytes (from + 24 * i) ∷ []) []
entries_more bytes n from i = ap (filter (is_one n)) (table_more 24 reloc bytes from i) ∙ passed (is_one n) (table 24 reloc bytes from i) (reloc bytes (from + 24 * i))

less : (m n : ℕ) → m < n → nat_lt m n ≡ true
less m n h = grind (arith, nat_tests)

not_less : (m n : ℕ) → n ≤ m → nat_lt m n ≡ false
not_less m n h = grind (arith, nat_tests)

entries_read : (bytes : List ℕ) (n from i : ℕ) (r : Reloc) → r ≡ reloc bytes (from + 24 * i) → entries_from bytes n from (i + 1) ≡ entries_from bytes n from i ++ cond (is_one n r) (r ∷ []) []
entries_read bytes n from i r is = subst (λ (x : Reloc). entries_from bytes n from (i + 1) ≡ entries_from bytes n from i ++ cond (is_one n x) (x ∷ []) []) (sym is) (entries_more bytes n from i)

pub entries_kept : (bytes : List ℕ) (n from i : ℕ) (r : Reloc) → r ≡ reloc bytes (from + 24 * i) → r.symbol < n → entries_from bytes n from (i + 1) ≡ entries_from bytes n from i ++ r ∷ []
entries_kept bytes n from i r is lt = rw (less r.symbol n lt) at (entries_read bytes n from i r is)

pub entries_passed : (bytes : List ℕ) (n from i : ℕ) (r : Reloc) → r ≡ reloc bytes (from + 24 * i) → n ≤ r.symbol → entries_from bytes n from (i + 1) ≡ entries_from bytes n from i
entries_passed bytes n from i r is le = rw (not_less r.symbol n le) at (entries_read bytes n from i r is) ∙ append-nil (entries_from bytes n from i)

pub entries_none : (bytes : List ℕ) (n from : ℕ) → entries_from bytes n from 0 ≡ []
entries_none bytes n from = ap (filter (is_one n)) (table_none 24 reloc bytes from)

-- so many entries, and then more of them
pub entries_split : (bytes : List ℕ) (n from a b : ℕ) → entries_from bytes n from (a + b) ≡ entries_from bytes n from a ++ entries_from bytes n (from + 24 * a) b
entries_split bytes n from a zero =
    let e : a + 0 ≡ a = omega arith in
    ap (entries_from bytes n from) e ∙ sym (append-nil (entries_from bytes n from a)) ∙ ap (λ xs. entries_from bytes n from a ++ xs) (sym (entries_none bytes n (from + 24 * a)))
entries_split bytes n from a (suc b) =
    let e : a + suc b ≡ (a + b) + 1 = omega arith in
    let f : suc b ≡ b + 1 = omega arith in
    let g : (from + 24 * a) + 24 * b ≡ from + 24 * (a + b) = omega arith in
    let rest = entries_split bytes n from a b in
    let more = entries_more bytes n (from + 24 * a) b in
    let one : ℕ → List Reloc = λ k. cond (is_one n (reloc bytes k)) (reloc bytes k ∷ []) [] in
    ap (entries_from bytes n from) e
    ∙ entries_more bytes n from (a + b)
    ∙ ap (λ xs. xs ++ one (from + 24 * (a + b))) rest
    ∙ append_assoc (entries_from bytes n from a) (entries_from bytes n (from + 24 * a) b) (one (from + 24 * (a + b)))
    ∙ ap (λ k. entries_from bytes n from a ++ (entries_from bytes n (from + 24 * a) b ++ one k)) (sym g)
    ∙ ap (λ xs. entries_from bytes n from a ++ xs) (sym more)
    ∙ ap (λ k. entries_from bytes n from a ++ entries_from bytes n (from + 24 * a) k) (sym f)

-- ---- tests

second_holds : (a b : Bool) → b ≡ true → (a || b) ≡ true
second_holds true b e = refl
second_holds false b e = e

first_holds : (a b : Bool) → a ≡ true → (a || b) ≡ true
first_holds true b e = refl
first_holds false b e = absurd cc

pub among_after : (xs ys zs : List Reloc) → AreAmong xs zs → AreAmong xs (ys ++ zs)
among_after xs ys zs h test e = list_any-append test ys zs ∙ second_holds (list_any test ys) (list_any test zs) (h test e)

pub among_before : (xs ys zs : List Reloc) → AreAmong xs ys → AreAmong xs (ys ++ zs)
among_before xs ys zs h test e = list_any-append test ys zs ∙ first_holds (list_any test ys) (list_any test zs) (h test e)

pub among_itself : (xs : List Reloc) → AreAmong xs xs
among_itself xs test e = e

among_none : (xs : List Reloc) → AreAmong [] xs
among_none xs test e = absurd cc

-- entries between others are among them
pub among_entries : (bytes : List ℕ) (n from past count few : ℕ) → past + few ≤ count → AreAmong (entries_from bytes n (from + 24 * past) few) (entries_from bytes n from count)
among_entries bytes n from past count few le =
    let more = count - (past + few) in
    let e : count ≡ past + (few + more) = omega arith in
    let whole = ap (entries_from bytes n from) e ∙ entries_split bytes n from past (few + more) ∙ ap (λ xs. entries_from bytes n from past ++ xs) (entries_split bytes n (from + 24 * past) few more) in
    let here = entries_from bytes n (from + 24 * past) few in
    let later = entries_from bytes n ((from + 24 * past) + 24 * few) more in
    subst (AreAmong here) (sym whole) (among_after here (entries_from bytes n from past) (here ++ later) (among_before here here later (among_itself here)))

pub known_none : (bytes : List ℕ) (n at : ℕ) (xs : List Reloc) → AreAmong (entries_from bytes n at 0) xs
known_none bytes n at xs = subst (λ ys. AreAmong ys xs) (sym (entries_none bytes n at)) (among_none xs)

pub known_some : (bytes : List ℕ) (n at from count few : ℕ) → from ≤ at → (at - from) % 24 ≡ 0 → (at - from) / 24 + few ≤ count → AreAmong (entries_from bytes n at few) (entries_from bytes n from count)
known_some bytes n at from count few low whole le =
    let e : from + 24 * ((at - from) / 24) ≡ at = omega arith in
    subst (λ k. AreAmong (entries_from bytes n k few) (entries_from bytes n from count)) e (among_entries bytes n from ((at - from) / 24) count few le)

join_case : (f o a b : Bool) → o ≡ f → (a ≡ true → f ≡ true) → (o || b) ≡ (f || (a || b))
join_case true o a b e h = rw e refl
join_case false o true b e h = absurd (let w = h refl in cc)
join_case false o false b e h = rw e refl

join : (all out one two : List Reloc) → AreSame out all → AreAmong one all → AreSame (out ++ two) (all ++ (one ++ two))
join all out one two same among test =
    list_any-append test out two
    ∙ join_case (list_any test all) (list_any test out) (list_any test one) (list_any test two) (same test) (among test)
    ∙ ap (λ (b : Bool). list_any test all || b) (sym (list_any-append test one two))
    ∙ sym (list_any-append test all (one ++ two))

-- a section's entries that aren't known join the others
pub section_joins : (bytes : List ℕ) (n : ℕ) (s : SectionHeader) (all out last : List Reloc) (few : ℕ) → few ≤ s.size / 24 → AreSame out all → AreAmong last all → AreAmong (entries_from bytes n s.offset few) last → AreSame (out ++ entries_from bytes n (s.offset + 24 * few) (s.size / 24 - few)) (all ++ relocs_of bytes n s)
unfolding relocs_of
section_joins bytes n s all out last few le same known among =
    let e : s.size / 24 ≡ few + (s.size / 24 - few) = omega arith in
    let split = ap (entries_from bytes n s.offset) e ∙ entries_split bytes n s.offset few (s.size / 24 - few) in
    let one = entries_from bytes n s.offset few in
    let two = entries_from bytes n (s.offset + 24 * few) (s.size / 24 - few) in
    subst (λ xs. AreSame (out ++ two) (all ++ xs)) (sym split) (join all out one two same (λ test h. known test (among test h)))

-- one whose entries are all known adds none
pub section_known : (bytes : List ℕ) (n : ℕ) (s : SectionHeader) (all out last : List Reloc) (few : ℕ) → few ≡ s.size / 24 → AreSame out all → AreAmong last all → AreAmong (entries_from bytes n s.offset few) last → AreSame out (all ++ relocs_of bytes n s)
unfolding relocs_of
section_known bytes n s all out last few is same known among =
    let one = entries_from bytes n s.offset (s.size / 24) in
    let here : AreAmong one last = subst (λ (k : ℕ). AreAmong (entries_from bytes n s.offset k) last) is among in
    subst (λ xs. AreSame xs (all ++ one)) (append-nil out) (subst (λ xs. AreSame (out ++ []) (all ++ xs)) (append-nil one) (join all out one [] same (λ test h. known test (here test h))))

pub section_last : (bytes : List ℕ) (n : ℕ) (s : SectionHeader) (all : List Reloc) → AreAmong (entries_from bytes n s.offset (s.size / 24)) (all ++ relocs_of bytes n s)
unfolding relocs_of
section_last bytes n s all = among_after (entries_from bytes n s.offset (s.size / 24)) all (entries_from bytes n s.offset (s.size / 24)) (among_itself (entries_from bytes n s.offset (s.size / 24)))

-- ---- all sections

sections_more : (f : SectionHeader → List Reloc) (ss : List SectionHeader) (i : ℕ) (d : SectionHeader) → i < length ss → flat_map f (take (i + 1) ss) ≡ flat_map f (take i ss) ++ f (get_or ss i d)
sections_more f ss i d lt = ap (flat_map f) (take_more ss i d lt) ∙ flat_map-append f (take i ss) (get_or ss i d ∷ []) ∙ ap (λ xs. flat_map f (take i ss) ++ xs) (append-nil (f (get_or ss i d)))

any_flat : (test : Reloc → Bool) (f : SectionHeader → List Reloc) (ss : List SectionHeader) → list_any test (flat_map f ss) ≡ list_any (λ s. list_any test (f s)) ss
any_flat test f [] = refl
any_flat test f (s ∷ ss) = list_any-append test (f s) (flat_map f ss) ∙ ap (λ (b : Bool). list_any test (f s) || b) (any_flat test f ss)

-- the order of the sections is of no matter
pub any_order : (f : SectionHeader → List Reloc) (ss ts : List SectionHeader) → IsPermutation ss ts → AreSame (flat_map f ts) (flat_map f ss)
any_order f ss ts same test = any_flat test f ts ∙ sym (list_any-IsPermutation (λ s. list_any test (f s)) ss ts same) ∙ sym (any_flat test f ss)

pub sections_join : (f : SectionHeader → List Reloc) (ss : List SectionHeader) (i : ℕ) (d : SectionHeader) (out last : List Reloc) → i < length ss → AreSame out (flat_map f (take i ss) ++ f (get_or ss i d)) × AreAmong last (flat_map f (take i ss) ++ f (get_or ss i d)) → AreSame out (flat_map f (take (i + 1) ss)) × AreAmong last (flat_map f (take (i + 1) ss))
sections_join f ss i d out last lt h = subst (λ (xs : List Reloc). AreSame out xs × AreAmong last xs) (sym (sections_more f ss i d lt)) h
