-- What an executable without a fault gives its image.
use Rattle.std.proofs.Common.{◌≡◌, ℕ, zero, suc, ◌+◌, ◌-◌, ◌/◌, ◌%◌, ◌^◌, ◌<◌, ◌≤◌, Bool, true, false, cond, leb, ltb, min, max, List, [], ◌∷◌, ◌++◌, length, map, get_or, Option, Some, None, ◌⊎◌, inl, inr, refl, sym, ap, subst, ◌∙◌, arith}
use Rattle.std.specs.Prelude.{◌&&◌, ◌||◌, ◌==◌, not, is_some, IsSome}
use Rattle.std.specs.List.{All, AllPairs, Any, cons_option, filter, filter_map, find, flat_map, fold, list_any, range_with_len, reduce}
use Rattle.std.specs.List.Sorted.{IsNonDecreasingBy, IsPermutation}
use Rattle.std.specs.Option.{option_map_or, option_and_then}
use Rattle.std.proofs.lemmas.Bool.{ltb-false, ltb-true, leb-true, leb-false, and_cases, and_parts, eqb-true, cases_lt, cases_order}
use Rattle.std.proofs.lemmas.Bool.Decides.{nat_tests}
use Rattle.std.proofs.lemmas.Option.{slice_get-get_or}
use Rattle.std.proofs.lemmas.List.{get_or-map, get_or_default, length-map}
use Rattle.std.proofs.lemmas.List.Elements.{All-map, All-tail, All-append, All-nil, filter_passes}
use Rattle.std.proofs.lemmas.List.Folds.{Any-from_list_any}
use Rattle.std.proofs.lemmas.List.FromFn.{get_or-range_with_len, length-range_with_len}
use Rattle.std.proofs.lemmas.List.Sorted.{All-permutation, list_any-IsPermutation}
use Rattle.std.proofs.lemmas.Map.Keys.{IsDistinct-from_apart}
use Rattle.oc_base.specs.declared.range.Range.{Range}
use Rattle.finite.specs.Lists.{Lists}
use Rattle.finite.proofs.Finding.{find_none, any_none, any_find}
use Rattle.finite.proofs.Arranged.{clash, rise_sorted, keys_rise}
use Rattle.elf_read.specs.declared.elf.Elf.{Elf}
use Rattle.elf_read.specs.declared.elf.Section.{Section}
use Rattle.elf_read.specs.declared.elf.Segment.{Segment}
use Rattle.elf_read.specs.declared.elf.Symbol.{Symbol}
use Rattle.elf_read.specs.declared.tables.Reloc.{Reloc}
use Rattle.elf_read.specs.Whole.{IsSegment, IsWhole, AreApart, segment_end}
use Rattle.image.specs.declared.ranges.Aim.{Aim}
use Rattle.image.specs.declared.ranges.Func.{Func}
use Rattle.image.specs.declared.ranges.Part.{Part}
use Rattle.image.specs.declared.ranges.TextRange.{TextRange}
use Rattle.image.specs.Texts.{text_start, text_end, covers, text_at, text_words, word_in, word_at, aim_of, targets}
use Rattle.image.specs.Jumps.{direct_target}
use Rattle.image.specs.Picture.{IsText, IsFunc, IsFree, IsPaged}
use Rattle.relocs.specs.Sections.{text_sections, section_end, file_end, has_bytes, covers as section_covers}
use Rattle.relocs.specs.Regions.{default_region, is_between, in_segment, follows, is_taken, first_taken, is_aimed, address_of, least_of, least_aimed}
use Rattle.relocs.specs.Functions.{holds, is_code, is_function, symbol_end, end_at, func_entry}
use Rattle.relocs.specs.Named.{aim_at, is_named, aim_entry}
use Rattle.relocs.specs.Built.{text_of, texts_of, parts_in, has_headers, IsFaultless}
use Rattle.relocs.proofs.PartLemmas.{Cuts, InSegment, all_parts, parts_inside}
use Rattle.relocs.proofs.TextLemmas.{IsSection, all_sections, all_fit, texts_apart, text_start_is, text_end_is}

found_case : {X : Type 0} (P : X → Type 0) (b : Bool) (x y : X) (rest : Option X) → P x → (rest ≡ Some y → P y) → cond b (Some x) rest ≡ Some y → P y
found_case P true x y rest h k e = let same : x ≡ y = cc in subst P same h
found_case P false x y rest h k e = k e

-- what holds of each element holds of one that is found
find_holds : {X : Type 0} (P : X → Type 0) (p : X → Bool) (xs : List X) (x : X) → All P xs → find p xs ≡ Some x → P x
find_holds P p [] x h e = absurd cc
find_holds P p (y ∷ ys) x h e = found_case P (p y) y x (find p ys) (h 0 y (omega arith)) (find_holds P p ys x (All-tail P y ys h)) e

passed_case : {X : Type 0} (p : X → Bool) (b : Bool) (y x : X) (rest : Option X) → p y ≡ b → (rest ≡ Some x → p x ≡ true) → cond b (Some y) rest ≡ Some x → p x ≡ true
passed_case p true y x rest is k e = let same : y ≡ x = cc in subst (λ z. p z ≡ true) same is
passed_case p false y x rest is k e = k e

find_passes : {X : Type 0} (p : X → Bool) (xs : List X) (x : X) → find p xs ≡ Some x → p x ≡ true
find_passes p [] x e = absurd cc
find_passes p (y ∷ ys) x e = passed_case p (p y) y x (find p ys) refl (find_passes p ys x) e

pub place_fits : (elf : Elf) (g : Segment) → IsWhole elf → Some g ≡ find (has_headers elf) elf.segments → g.at + length g.bytes ≤ 0x08000000
place_fits elf g whole is = (let held = find_holds IsSegment (has_headers elf) elf.segments g whole.each (sym is) in omega (arith, held.filled, held.high))

-- ---- text ranges

segment_texts : (elf : Elf) (r : Range) → IsWhole elf → IsFaultless elf r → All IsText (texts_of elf)
segment_texts elf r whole ok = all_fit elf whole.each ok.aligned ok.inside

pub fit_sorted : (elf : Elf) (r : Range) (ts : List TextRange) → IsWhole elf → IsFaultless elf r → IsPermutation (texts_of elf) ts → All IsText ts
fit_sorted elf r ts whole ok moved = All-permutation IsText (texts_of elf) ts moved (segment_texts elf r whole ok)

some_texts : (ts : List TextRange) → All IsText ts → All (λ t. text_start t < text_end t) ts
some_texts ts fit i d lt = (fit i d lt).some

all_apart : (elf : Elf) (r : Range) → IsFaultless elf r → AllPairs (λ s t. clash text_start text_end s t ≡ false) (texts_of elf)
unfolding texts_of
all_apart elf r ok = texts_apart elf.segments (text_sections elf) (all_sections elf ok.aligned ok.inside) ok.inside

pub rise_texts : (elf : Elf) (r : Range) (ts : List TextRange) → IsWhole elf → IsFaultless elf r → IsNonDecreasingBy text_start ts → IsPermutation (texts_of elf) ts → AllPairs (λ s t. text_end s ≤ t.from) ts
rise_texts elf r ts whole ok up moved = rise_sorted text_start text_end (texts_of elf) ts (IsDistinct-from_apart (clash text_start text_end) (texts_of elf) (λ i j d lt within. all_apart elf r ok i j d lt within)) moved up (some_texts ts (fit_sorted elf r ts whole ok moved))

pub starts_texts : (ts : List TextRange) → All IsText ts → AllPairs (λ s t. text_end s ≤ t.from) ts → AllPairs (λ s t. s.from < t.from) ts
starts_texts ts fit up = keys_rise text_start text_end ts up (some_texts ts fit)

-- ---- the entry

both_true : (b : Bool) → not b ≡ false → b ≡ true
both_true true e = refl
both_true false e = absurd cc

covers_of : (t : TextRange) (a p q : ℕ) → t.from ≡ p → text_end t ≡ q → covers a t ≡ (leb p a && ltb a q)
covers_of t a p q e h = grind (arith, nat_tests)

covers_is : (gs : List Segment) (s : Section) (a : ℕ) → IsSection gs s → covers a (text_of gs s) ≡ section_covers a s
covers_is gs s a h = covers_of (text_of gs s) a s.at (section_end s) (text_start_is gs s) (text_end_is gs s h)

any_covers : (gs : List Segment) (ss : List Section) (a : ℕ) → All (IsSection gs) ss → list_any (covers a) (map (text_of gs) ss) ≡ list_any (section_covers a) ss
any_covers gs [] a h = refl
any_covers gs (s ∷ ss) a h = rw (covers_is gs s a (h 0 s (omega arith)), any_covers gs ss a (All-tail (IsSection gs) s ss h)) refl

word_there : (t : TextRange) (a : ℕ) → IsText t → a % 4 ≡ 0 → covers a t ≡ true → IsSome (word_in a t)
unfolding word_in
word_there t a fit whole e =
    let parts = and_parts (leb t.from a) (ltb a (text_end t)) e in
    let low = leb-true _ _ parts.0 in
    let high = ltb-true _ _ parts.1 in
    let step : (a - t.from) % 4 ≡ 0 = omega (arith, low, fit.whole, whole) in
    let inside : (a - t.from) / 4 < length t.words = omega (arith, low, high) in
    rw (step, slice_get-get_or t.words ((a - t.from) / 4) 0 inside) refl

entry_case : (o : Option TextRange) (a : ℕ) → is_some o ≡ true → ((t : TextRange) → o ≡ Some t → IsSome (word_in a t)) → IsSome (option_and_then (word_in a) o)
entry_case None a e h = absurd (let f : false ≡ true = e in cc)
entry_case (Some t) a e h = h t refl

pub entry_there : (elf : Elf) (r : Range) (ts : List TextRange) → IsWhole elf → IsFaultless elf r → IsPermutation (texts_of elf) ts → IsSome (word_at ts elf.entry)
unfolding word_at texts_of
entry_there elf r ts whole ok moved =
    let parts = and_parts (elf.entry % 4 == 0) (list_any (section_covers elf.entry) (text_sections elf)) (both_true _ ok.entered) in
    let sections = all_sections elf ok.aligned ok.inside in
    let there = sym (list_any-IsPermutation (covers elf.entry) (map (text_of elf.segments) (text_sections elf)) ts moved) ∙ any_covers elf.segments (text_sections elf) elf.entry sections ∙ parts.1 in
    let fit = fit_sorted elf r ts whole ok moved in
    entry_case (text_at ts elf.entry) elf.entry (sym (any_find (covers elf.entry) ts) ∙ there) (λ t e. word_there t elf.entry (find_holds IsText (covers elf.entry) ts t fit e) (eqb-true _ _ parts.0) (find_passes (covers elf.entry) ts t e))

-- ---- text ranges and segments

bytes_parts : (s : Section) (h : Segment) → IsSegment h → has_bytes s.at (section_end s) h ≡ true → (h.at ≤ s.at) × (section_end s ≤ segment_end h)
bytes_parts s h fit e =
    let parts = and_parts (leb h.at s.at) (leb (section_end s) (file_end h)) e in
    (leb-true _ _ parts.0, omega (arith, leb-true _ _ parts.1, fit.filled))

apart_cuts : (g h : Segment) (s : Section) → AreApart g h → (h.at ≤ s.at) × (section_end s ≤ segment_end h) → (section_end s ≤ g.at) ⊎ ((segment_end g ≤ s.at) ⊎ ((g.at ≤ s.at) × (section_end s ≤ segment_end g)))
apart_cuts g h s (inl le) inside = inr (inl (omega (arith, le, inside.0)))
apart_cuts g h s (inr le) inside = inl (omega (arith, le, inside.1))

turned : (g h : Segment) → AreApart g h → AreApart h g
turned g h (inl le) = inr le
turned g h (inr le) = inl le

abbrev SectionCuts : Section → Segment → Type 0
SectionCuts s g = (section_end s ≤ g.at) ⊎ ((segment_end g ≤ s.at) ⊎ ((g.at ≤ s.at) × (section_end s ≤ segment_end g)))

cut_case : (gs : List Segment) (s : Section) (i k : ℕ) (d h : Segment) → All IsSegment gs → AllPairs AreApart gs → i < length gs → k < length gs → get_or gs k h ≡ h → has_bytes s.at (section_end s) h ≡ true → SectionCuts s (get_or gs i d)
cut_case gs s i k d h fit sep i_lt k_lt is e =
    let h_fit : IsSegment h = subst IsSegment is (fit k h k_lt) in
    let inside = bytes_parts s h h_fit e in
    let same_d : get_or gs i d ≡ get_or gs i h = get_or_default gs i d h i_lt in
    rw same_d (elim (cases_order i k) [
      | inl same ↦ (let one : get_or gs i h ≡ h = ap (λ (n : ℕ). get_or gs n h) same ∙ is in rw one (inr (inr inside)))
      | inr (inl before) ↦ apart_cuts (get_or gs i h) h s (subst (λ (z : Segment). AreApart (get_or gs i h) z) is (sep i k h before k_lt)) inside
      | inr (inr past) ↦ apart_cuts (get_or gs i h) h s (turned h (get_or gs i h) (subst (λ (z : Segment). AreApart z (get_or gs i h)) is (sep k i h past i_lt))) inside
    ])

section_cuts : (gs : List Segment) (s : Section) (i : ℕ) (d : Segment) → All IsSegment gs → AllPairs AreApart gs → i < length gs → list_any (has_bytes s.at (section_end s)) gs ≡ true → SectionCuts s (get_or gs i d)
section_cuts gs s i d fit sep lt held =
    let any = Any-from_list_any (has_bytes s.at (section_end s)) gs held in
    cut_case gs s i any.0 d any.1 fit sep lt any.2 any.3 any.4

text_cuts : (gs : List Segment) (s : Section) (g : Segment) → IsSection gs s → SectionCuts s g → Cuts g.at (segment_end g) (text_of gs s)
text_cuts gs s g h (inl le) = inl (omega (arith, le, text_end_is gs s h))
text_cuts gs s g h (inr (inl le)) = inr (inl (omega (arith, le, text_start_is gs s)))
text_cuts gs s g h (inr (inr in_it)) = inr (inr (omega (arith, in_it.0, text_start_is gs s), omega (arith, in_it.1, text_end_is gs s h)))

pub all_cuts : (elf : Elf) (r : Range) (ts : List TextRange) → IsWhole elf → IsFaultless elf r → IsPermutation (texts_of elf) ts → All (λ g. All (Cuts g.at (segment_end g)) ts) elf.segments
unfolding texts_of
all_cuts elf r ts whole ok moved i d lt =
    let sections = all_sections elf ok.aligned ok.inside in
    let g = get_or elf.segments i d in
    All-permutation (Cuts g.at (segment_end g)) (map (text_of elf.segments) (text_sections elf)) ts moved (All-map (Cuts g.at (segment_end g)) (text_of elf.segments) (text_sections elf) (λ k e k_lt. (
    let s = get_or (text_sections elf) k e in
    let h = sections k e k_lt in
    text_cuts elf.segments s g h (section_cuts elf.segments s i d whole.each whole.apart lt h.held))))

-- ---- no word goes into the region

none_min : (xs : List ℕ) → reduce min xs ≡ None → xs ≡ []
none_min [] e = refl
none_min (x ∷ xs) e = absurd cc

map_nothing : {X Y : Type 0} (f : X → Y) (xs : List X) → map f xs ≡ [] → xs ≡ []
map_nothing f [] e = refl
map_nothing f (x ∷ xs) e = absurd cc

filter_case : {X : Type 0} (p : X → Bool) (b : Bool) (x : X) (rest : List X) → cond b (x ∷ rest) rest ≡ [] → (b ≡ false) × (rest ≡ [])
filter_case p true x rest e = absurd cc
filter_case p false x rest e = (refl, e)

only : {X : Type 0} (P : X → Type 0) (x : X) → P x → All P (x ∷ [])
only P x h zero d lt = h
only P x h (suc i) d lt = absurd (omega arith)

front : {X : Type 0} (P : X → Type 0) (xs ys : List X) → All P (xs ++ ys) → All P xs
front P [] ys h = All-nil P
front P (x ∷ xs) ys h = All-append P (x ∷ []) xs (only P x (h 0 x (omega arith))) (front P xs ys (All-tail P x (xs ++ ys) h))

back : {X : Type 0} (P : X → Type 0) (xs ys : List X) → All P (xs ++ ys) → All P ys
back P [] ys h = h
back P (x ∷ xs) ys h = back P xs ys (All-tail P x (xs ++ ys) h)

nothing_passes : {X : Type 0} (p : X → Bool) (xs : List X) → filter p xs ≡ [] → All (λ x. p x ≡ false) xs
nothing_passes p [] e = All-nil (λ x. p x ≡ false)
nothing_passes p (x ∷ xs) e =
    let parts = filter_case p (p x) x (filter p xs) e in
    All-append (λ y. p y ≡ false) (x ∷ []) xs (only (λ y. p y ≡ false) x parts.0) (nothing_passes p xs parts.1)

no_aimed : (r : Range) (es : List (ℕ × ℕ)) → least_of r es ≡ None → All (λ e. is_aimed r e ≡ false) es
unfolding least_of
no_aimed r es none = nothing_passes (is_aimed r) es (map_nothing address_of (filter (is_aimed r) es) (none_min (map address_of (filter (is_aimed r) es)) none))

flat_parts : {X Y : Type 0} (P : Y → Type 0) (f : X → List Y) (xs : List X) → All P (flat_map f xs) → All (λ x. All P (f x)) xs
flat_parts P f [] h = All-nil (λ x. All P (f x))
flat_parts P f (x ∷ xs) h =
    All-append (λ z. All P (f z)) (x ∷ []) xs (only (λ z. All P (f z)) x (front P (f x) (flat_map f xs) h)) (flat_parts P f xs (back P (f x) (flat_map f xs) h))

flat_all : {X Y : Type 0} (P : Y → Type 0) (f : X → List Y) (xs : List X) → All (λ x. All P (f x)) xs → All P (flat_map f xs)
flat_all P f [] h = All-nil P
flat_all P f (x ∷ xs) h = All-append P (f x) (flat_map f xs) (h 0 x (omega arith)) (flat_all P f xs (All-tail (λ z. All P (f z)) x xs h))

abbrev Misses : Range → ℕ → Type 0
Misses r a = (a < r.from) ⊎ (r.to ≤ a)

missed : (r : Range) (t : ℕ) → is_between r.from r.to t ≡ false → Misses r t
missed r t e =
    elim (and_cases (leb r.from t) (ltb t r.to) e) [
      | inl low ↦ inl (leb-false _ _ low)
      | inr high ↦ inr (ltb-false _ _ high)
    ]

aim_case : (r : Range) (o : Option ℕ) (rest : List ℕ) → option_map_or (is_between r.from r.to) o false ≡ false → All (Misses r) rest → All (Misses r) (cons_option o rest)
aim_case r None rest e h = h
aim_case r (Some t) rest e h = All-append (Misses r) (t ∷ []) rest (only (Misses r) t (missed r t e)) h

aims_miss : (r : Range) (es : List (ℕ × ℕ)) → All (λ e. is_aimed r e ≡ false) es → All (Misses r) (filter_map aim_of es)
aims_miss r [] h = All-nil (Misses r)
aims_miss r (e ∷ es) h = aim_case r (direct_target e.1 e.0) (filter_map aim_of es) (h 0 e (omega arith)) (aims_miss r es (All-tail (λ x. is_aimed r x ≡ false) e es h))

pub no_aims : (elf : Elf) (r : Range) (ts : List TextRange) → IsFaultless elf r → IsPermutation (texts_of elf) ts → All (Misses r) (targets ts)
unfolding targets least_aimed
no_aims elf r ts ok moved =
    let free = no_aimed r (flat_map text_words (texts_of elf)) ok.unaimed in
    let each = All-permutation (λ t. All (λ e. is_aimed r e ≡ false) (text_words t)) (texts_of elf) ts moved (flat_parts (λ e. is_aimed r e ≡ false) text_words (texts_of elf) free) in
    aims_miss r (flat_map text_words ts) (flat_all (λ e. is_aimed r e ≡ false) text_words ts each)

-- ---- functions

greater_holds : (P : ℕ → Type 0) (a c : ℕ) → P a → P c → P (max a c)
greater_holds P a c x y =
    elim (cases_lt a c) [
      | inl h ↦ (let e : max a c ≡ c = omega arith in rw e y)
      | inr h ↦ (let e : max a c ≡ a = omega arith in rw e x)
    ]

both_fail : (a b : Bool) → (a || b) ≡ false → (a ≡ false) × (b ≡ false)
both_fail true b e = absurd cc
both_fail false b e = (refl, e)

fold_holds : (P : ℕ → Type 0) (a : ℕ) (xs : List ℕ) → P a → All P xs → P (fold max a xs)
fold_holds P a [] h k = h
fold_holds P a (x ∷ xs) h k = fold_holds P (max a x) xs (greater_holds P a x h (k 0 x (omega arith))) (All-tail P x xs k)

reduce_holds : (P : ℕ → Type 0) (xs : List ℕ) (m : ℕ) → All P xs → reduce max xs ≡ Some m → P m
reduce_holds P [] m h e = absurd cc
reduce_holds P (x ∷ xs) m h e =
    let same : fold max x xs ≡ m = cc in
    subst P same (fold_holds P x xs (h 0 x (omega arith)) (All-tail P x xs h))

-- what is known of an end of a function that starts at an address
record IsEnd (ts : List TextRange) (from to : ℕ) : Type 0 where
  some : from < to
  whole : from % 4 ≡ 0
  even : to % 4 ≡ 0
  inside : Any (λ t. (t.from ≤ from) × (to ≤ text_end t)) ts

symbol_known : (ts : List TextRange) (from : ℕ) (s : Symbol) → (is_function ts s && s.value == from) ≡ true → IsEnd ts from (symbol_end s)
unfolding is_function
symbol_known ts from s e =
    let a = and_parts (is_code s && list_any (holds s.value (symbol_end s)) ts) (s.value == from) e in
    let here : s.value ≡ from = eqb-true _ _ a.1 in
    let b = and_parts (is_code s) (list_any (holds s.value (symbol_end s)) ts) a.0 in
    let c = and_parts (s.info % 16 == 2) _ b.0 in
    let d = and_parts (not (s.section == 0)) _ c.1 in
    let f = and_parts (s.value % 4 == 0) _ d.1 in
    let g = and_parts (s.size % 4 == 0) (ltb 0 s.size) f.1 in
    let v4 = eqb-true _ _ f.0 in
    let s4 = eqb-true _ _ g.0 in
    let pos = ltb-true _ _ g.1 in
    let any = Any-from_list_any (holds s.value (symbol_end s)) ts b.1 in
    let h = and_parts (leb any.1.from s.value) (leb (symbol_end s) (text_end any.1)) any.4 in
    record {
      some = omega (arith, here, pos);
      whole = omega (arith, here, v4);
      even = omega (arith, v4, s4);
      inside = (any.0, any.1, any.2, any.3, (omega (arith, leb-true _ _ h.0, here), leb-true _ _ h.1));
    }

end_known : (ts : List TextRange) (ss : List Symbol) (from to : ℕ) → end_at ts ss from ≡ Some to → IsEnd ts from to
unfolding end_at
end_known ts ss from to e =
    let p : Symbol → Bool = λ s. is_function ts s && s.value == from in
    reduce_holds (IsEnd ts from) (map symbol_end (filter p ss)) to (All-map (IsEnd ts from) symbol_end (filter p ss) (λ i d lt. symbol_known ts from (get_or (filter p ss) i d) (filter_passes p ss i d lt))) e

listed_at : {X : Type 0} (f : ℕ → Option ℕ) (entry : X → ℕ × ℕ) (xs : List X) (i : ℕ) (d : X) → Lists f (map entry xs) → i < length xs → f (entry (get_or xs i d)).0 ≡ Some (entry (get_or xs i d)).1
listed_at f entry xs i d listed lt =
    let at : get_or (map entry xs) i (entry (get_or xs i d)) ≡ entry (get_or xs i d) = get_or-map entry xs i d (entry (get_or xs i d)) lt in
    (listed.members (entry (get_or xs i d)).0 (entry (get_or xs i d)).1).1 (i, omega (arith, lt, length-map xs entry), at)

listed_rise : {X : Type 0} (f : ℕ → Option ℕ) (entry : X → ℕ × ℕ) (xs : List X) → Lists f (map entry xs) → AllPairs (λ x y. (entry x).0 < (entry y).0) xs
listed_rise f entry xs listed i j d lt within =
    let len = length-map xs entry in
    let e = listed.ascending i j (entry d) lt (omega (arith, within, len)) in
    rw (get_or-map entry xs i d (entry d) (omega (arith, lt, within)), get_or-map entry xs j d (entry d) within) at e

pub funcs_fit : (ts : List TextRange) (ss : List Symbol) (fs : List Func) → Lists (end_at ts ss) (map func_entry fs) → All (IsFunc ts) fs
funcs_fit ts ss fs listed i d lt =
    let f = get_or fs i d in
    let known = end_known ts ss f.from f.to (listed_at (end_at ts ss) func_entry fs i d listed lt) in
    record { some = known.some; whole = known.whole; even = known.even; inside = known.inside }

pub funcs_rise : (ts : List TextRange) (ss : List Symbol) (fs : List Func) → Lists (end_at ts ss) (map func_entry fs) → AllPairs (λ f g. f.from < g.from) fs
funcs_rise ts ss fs listed = listed_rise (end_at ts ss) func_entry fs listed

count_below : (fs : List Func) (i : ℕ) (d : Func) → AllPairs (λ f g. f.from < g.from) fs → i < length fs → i ≤ (get_or fs i d).from
count_below fs zero d up lt = omega arith
count_below fs (suc i) d up lt =
    let before = count_below fs i d up (omega (arith, lt)) in
    let step : (get_or fs i d).from < (get_or fs (suc i) d).from = up i (suc i) d (omega arith) lt in
    omega (arith, before, step)

func_low : (ts : List TextRange) (f : Func) → All IsText ts → IsFunc ts f → f.from < 0x08000000
func_low ts f fit h =
    let t_fit = fit h.inside.0 h.inside.1 h.inside.2 in
    let high : text_end h.inside.1 ≤ 0x08000000 = subst (λ t. text_end t ≤ 0x08000000) h.inside.3 t_fit.high in
    omega (arith, high, h.inside.4.1, h.some)

pub few_funcs : (ts : List TextRange) (fs : List Func) → All IsText ts → All (IsFunc ts) fs → AllPairs (λ f g. f.from < g.from) fs → length fs < 2 ^ 32
few_funcs ts fs fit known up =
    elim (cases_lt (length fs) 1) [
      | inl lt ↦ omega (arith, lt)
      | inr ge ↦ (
          let z : Func = record { from = 0; to = 0 } in
          let last = count_below fs (length fs - 1) z up (omega (arith, ge)) in
          let low = func_low ts (get_or fs (length fs - 1) z) fit (known (length fs - 1) z (omega (arith, ge))) in
          omega (arith, last, low))
    ]

-- ---- places

aim_known : (takes : Reloc → Bool) (aim : ℕ → Option ℕ) (rs : List Reloc) (b : Bool) (a v : ℕ) → cond b (aim a) None ≡ Some v → aim a ≡ Some v
aim_known takes aim rs true a v e = e
aim_known takes aim rs false a v e = absurd cc

pub aims_known : (takes : Reloc → Bool) (aim : ℕ → Option ℕ) (rs : List Reloc) (xs : List Aim) → Lists (aim_at takes aim rs) (map aim_entry xs) → All (λ s. aim s.at ≡ Some s.func) xs
unfolding aim_at
aims_known takes aim rs xs listed i d lt = aim_known takes aim rs (is_named takes rs (get_or xs i d).at) (get_or xs i d).at (get_or xs i d).func (listed_at (aim_at takes aim rs) aim_entry xs i d listed lt)

pub aims_rise : (takes : Reloc → Bool) (aim : ℕ → Option ℕ) (rs : List Reloc) (xs : List Aim) → Lists (aim_at takes aim rs) (map aim_entry xs) → AllPairs (λ s t. s.at < t.at) xs
aims_rise takes aim rs xs listed = listed_rise (aim_at takes aim rs) aim_entry xs listed

-- ---- free addresses

not_taken : (gs : List Segment) (ss : List Section) (r : Range) (a : ℕ) → first_taken gs ss r ≡ None → r.from ≤ a → a < r.to → is_taken gs ss a ≡ false
unfolding first_taken
not_taken gs ss r a none low high =
    let i = a - r.from in
    let n = r.to - r.from in
    let i_lt : i < n = omega (arith, low, high) in
    let at = find_none (is_taken gs ss) (range_with_len r.from n) i 0 none (omega (arith, i_lt, length-range_with_len r.from n)) in
    let back : r.from + i ≡ a = omega (arith, low) in
    sym (ap (is_taken gs ss) (get_or-range_with_len r.from n i 0 i_lt ∙ back)) ∙ at

outside : (from to a : ℕ) → is_between from to a ≡ false → (a < from) ⊎ (to ≤ a)
outside from to a e =
    elim (and_cases (leb from a) (ltb a to) e) [
      | inl low ↦ inl (leb-false _ _ low)
      | inr high ↦ inr (ltb-false _ _ high)
    ]

clear_section : (gs : List Segment) (s : Section) (a : ℕ) → All IsSegment gs → list_any (in_segment a) gs ≡ false → list_any (has_bytes s.at (section_end s)) gs ≡ true → (a < s.at) ⊎ (section_end s ≤ a)
clear_section gs s a fit free held =
    let any = Any-from_list_any (has_bytes s.at (section_end s)) gs held in
    let h_fit : IsSegment any.1 = subst IsSegment any.3 (fit any.0 any.1 any.2) in
    let inside = bytes_parts s any.1 h_fit any.4 in
    let miss = subst (λ h. in_segment a h ≡ false) any.3 (any_none (in_segment a) gs any.0 any.1 free any.2) in
    elim (outside any.1.at (segment_end any.1) a miss) [
      | inl low ↦ inl (omega (arith, low, inside.0))
      | inr high ↦ inr (omega (arith, high, inside.1))
    ]

clear_text : (s : Section) (a : ℕ) → (a < s.at) ⊎ (section_end s ≤ a) → follows a s ≡ false → 0 < s.size → (a < s.at) ⊎ (section_end s + 4 ≤ a)
clear_text s a (inl low) e some = inl low
clear_text s a (inr high) e some =
    elim (outside (section_end s) (section_end s + 4) a e) [
      | inl low ↦ absurd (omega (arith, low, high))
      | inr past ↦ inr past
    ]

ranged : (gs : List Segment) (s : Section) (a : ℕ) → IsSection gs s → (a < s.at) ⊎ (section_end s + 4 ≤ a) → (a < (text_of gs s).from) ⊎ (text_end (text_of gs s) + 4 ≤ a)
ranged gs s a h (inl low) = inl (omega (arith, low, text_start_is gs s))
ranged gs s a h (inr high) = inr (omega (arith, high, text_end_is gs s h))

free_part : (g : Segment) (p : Part) (a : ℕ) → InSegment g p → in_segment a g ≡ false → (a < p.range.from) ⊎ (p.range.to ≤ a)
free_part g p a inside e =
    elim (outside g.at (segment_end g) a e) [
      | inl low ↦ inl (omega (arith, low, inside.0))
      | inr high ↦ inr (omega (arith, high, inside.1))
    ]

pub free_there : (elf : Elf) (r : Range) (ts : List TextRange) (ps : List Part) → IsWhole elf → IsFaultless elf r → IsPermutation (texts_of elf) ts → IsPermutation (flat_map (parts_in ts) elf.segments) ps → (a : ℕ) → r.from ≤ a → a < r.to → IsFree ts ps a
unfolding texts_of
free_there elf r ts ps whole ok moved parts a low high =
    let gs = elf.segments in
    let ss = text_sections elf in
    let free = not_taken gs ss r a ok.free low high in
    let one = both_fail (list_any (in_segment a) gs) _ free in
    let two = both_fail (list_any (follows a) ss) _ one.1 in
    let three = both_fail (ltb a 0x1000) (leb 0x08000000 a) two.1 in
    let sections = all_sections elf ok.aligned ok.inside in
    let no_text : All (λ t. (a < t.from) ⊎ (text_end t + 4 ≤ a)) (map (text_of gs) ss) = All-map (λ t. (a < t.from) ⊎ (text_end t + 4 ≤ a)) (text_of gs) ss (λ i d lt. (
    let s = get_or ss i d in
    let h = sections i d lt in
    ranged gs s a h (clear_text s a (clear_section gs s a whole.each one.0 h.held) (any_none (follows a) ss i d two.0 lt) h.some))) in
    let no_part : All (λ p. (a < p.range.from) ⊎ (p.range.to ≤ a)) (flat_map (parts_in ts) gs) = all_parts (λ p. (a < p.range.from) ⊎ (p.range.to ≤ a)) ts gs (λ i d lt k e k_lt. free_part (get_or gs i d) (get_or (parts_in ts (get_or gs i d)) k e) a (parts_inside ts (get_or gs i d) k e k_lt) (any_none (in_segment a) gs i d one.0 lt)) in
    record {
      low = ltb-false _ _ three.0;
      high = leb-false _ _ three.1;
      no_text = All-permutation (λ t. (a < t.from) ⊎ (text_end t + 4 ≤ a)) (map (text_of gs) ss) ts moved no_text;
      no_part = All-permutation (λ p. (a < p.range.from) ⊎ (p.range.to ≤ a)) (flat_map (parts_in ts) gs) ps parts no_part;
    }

pub default_paged : (gs : List Segment) → IsPaged (default_region gs)
unfolding default_region
default_paged gs = record { ordered = omega arith; first = omega arith; last = omega arith }
