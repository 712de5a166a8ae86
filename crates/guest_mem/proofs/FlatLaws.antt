-- What a `FlatMem` stands for, read at each place.
use Rattle.std.proofs.Common.{◌≡◌, ℕ, suc, ◌+◌, ◌-◌, ◌*◌, ◌<◌, Bool, true, false, cond, nat_eq, List, [], ◌∷◌, Option, Some, None, is_some, length, get_or, refl, sym, ap, subst, ◌∙◌, nat_le, nat_lt, arith}
use Rattle.std.specs.Ordering.{nat_cmp}
use Rattle.std.specs.Cmp.{unsigned_tied, nat_eq_equiv}
use Rattle.std.specs.Map.{lookup}
use Rattle.std.specs.BTreeMap.{is_at}
use Rattle.finite.specs.Maps.{contains}
use Rattle.std.proofs.lemmas.Bool.{eq-eqb, eqb-true, leb-true, ltb-true, and_parts, both_ways}
use Rattle.guest_mem.specs.declared.words.Word.{Word}
use Rattle.link_tags.specs.declared.value.Tag.{Tag}
use Rattle.link_tags.specs.declared.value.Tag.TheVariants.{Plain, Link}
use Rattle.guest_mem.specs.declared.flat.Span.{Span}
use Rattle.finite.specs.Maps.{at, nowhere, within}
use Rattle.finite.proofs.MapLaws.{at-zeros, fill_word, contains-nowhere, contains-mark, mark_at, same_by_words}
use Rattle.guest_mem.specs.Memory.{Memory, no_word, with_right, byte_at, with_word, word_of, bytes_from, tag_of}
use Rattle.guest_mem.proofs.Reading.{same_memory}
use Rattle.link_tags.specs.Values.{is_link}
use Rattle.std.proofs.lemmas.List.{get_or-replicate}
use Rattle.guest_mem.proofs.Reading.{get_or-bytes_from, length-bytes_from}
use Rattle.guest_mem.specs.declared.words.Right.{Right}
use Rattle.guest_mem.specs.declared.words.Right.TheVariants.{Read, Write}
use Rattle.guest_mem.specs.Flat.{gives, flat_rights, flat_bytes, flat_words, flat_memory, AllEnd, AllLow}
use Rattle.guest_mem.specs.Access.{IsBelowEnd}

abbrev pub byte_in : Option Word → ℕ → ℕ
byte_in None j = 0
byte_in (Some x) j = get_or x.bytes j 0

abbrev pub passes : (Word → Bool) → Option Word → Bool
passes p None = false
passes p (Some x) = p x

tested : (w v : ℕ) → is_at (nat_cmp w) v ≡ nat_eq w v
tested w v = unsigned_tied w v

byte_in-cond : (b : Bool) (x : Word) (o : Option Word) (j : ℕ) → byte_in (cond b (Some x) o) j ≡ cond b (get_or x.bytes j 0) (byte_in o j)
byte_in-cond true x o j = refl
byte_in-cond false x o j = refl

passes-cond : (p : Word → Bool) (b : Bool) (x : Word) (o : Option Word) → passes p (cond b (Some x) o) ≡ cond b (p x) (passes p o)
passes-cond p true x o = refl
passes-cond p false x o = refl

pub flat_byte : (es : List (ℕ × Word)) (w j : ℕ) → j < 8 → at (flat_bytes es) (8 * w + j) ≡ byte_in (lookup (is_at (nat_cmp w)) es) j
flat_byte [] w j h = at-zeros (8 * w + j)
flat_byte (e ∷ es) w j h =
    fill_word (flat_bytes es) e.0 w j (λ k. get_or e.1.bytes k 0) h
    ∙ ap (cond (nat_eq w e.0) (get_or e.1.bytes j 0)) (flat_byte es w j h)
    ∙ sym (ap (λ t. byte_in (cond t (Some e.1) (lookup (is_at (nat_cmp w)) es)) j) (tested w e.0) ∙ byte_in-cond (nat_eq w e.0) e.1 (lookup (is_at (nat_cmp w)) es) j)

pub flat_word : (p : Word → Bool) (es : List (ℕ × Word)) (w : ℕ) → contains (flat_words p es) w ≡ passes p (lookup (is_at (nat_cmp w)) es)
flat_word p [] w = contains-nowhere w
flat_word p (e ∷ es) w =
    mark_at (flat_words p es) e.0 w (p e.1)
    ∙ ap (cond (nat_eq w e.0) (p e.1)) (flat_word p es w)
    ∙ sym (ap (λ t. passes p (cond t (Some e.1) (lookup (is_at (nat_cmp w)) es))) (tested w e.0) ∙ passes-cond p (nat_eq w e.0) e.1 (lookup (is_at (nat_cmp w)) es))

-- fs is es with x at w
abbrev pub Sets : List (ℕ × Word) → List (ℕ × Word) → ℕ → Word → Type 0
Sets es fs w x = (q : ℕ) → lookup (is_at (nat_cmp q)) fs ≡ cond (is_at (nat_cmp w) q) (Some x) (lookup (is_at (nat_cmp q)) es)

flipped : (w v : ℕ) → is_at (nat_cmp w) v ≡ nat_eq v w
flipped w v = tested w v ∙ nat_eq_equiv.symm w v

set_lookup : (es fs : List (ℕ × Word)) (w : ℕ) (x : Word) → Sets es fs w x → (v : ℕ) → lookup (is_at (nat_cmp v)) fs ≡ cond (nat_eq v w) (Some x) (lookup (is_at (nat_cmp v)) es)
set_lookup es fs w x h v = h v ∙ ap (λ t. cond t (Some x) (lookup (is_at (nat_cmp v)) es)) (flipped w v)

pub flat_words_set : (p : Word → Bool) (es fs : List (ℕ × Word)) (w : ℕ) (x : Word) → Sets es fs w x → (v : ℕ) → contains (flat_words p fs) v ≡ cond (nat_eq v w) (p x) (contains (flat_words p es) v)
flat_words_set p es fs w x h v =
    flat_word p fs v ∙ ap (passes p) (set_lookup es fs w x h v) ∙ passes-cond p (nat_eq v w) x (lookup (is_at (nat_cmp v)) es)
    ∙ ap (cond (nat_eq v w) (p x)) (sym (flat_word p es v))

-- what is set at one word is set in the memory
pub flat_set : (es fs : List (ℕ × Word)) (ss : List Span) (w : ℕ) (x : Word) → Sets es fs w x → flat_memory fs ss ≡ with_word (flat_memory es ss) w x
flat_set es fs ss w x h =
    let p : Word → Bool = λ y. is_link y.tag in
    same_memory (flat_memory fs ss) (with_word (flat_memory es ss) w x)
    (same_by_words (flat_bytes fs) (with_word (flat_memory es ss) w x).bytes (λ v j lt.
    flat_byte fs v j lt ∙ ap (λ o. byte_in o j) (set_lookup es fs w x h v) ∙ byte_in-cond (nat_eq v w) x (lookup (is_at (nat_cmp v)) es) j
    ∙ ap (cond (nat_eq v w) (get_or x.bytes j 0)) (sym (flat_byte es v j lt))
    ∙ sym (fill_word (flat_bytes es) w v j (λ k. get_or x.bytes k 0) lt)))
    (λ v. flat_words_set p es fs w x h v ∙ sym (mark_at (flat_words p es) w v (p x)))
    (λ q. refl)
    (λ q. refl)

pub same_by_index : (xs ys : List ℕ) → length xs ≡ length ys → ((k : ℕ) → k < length xs → get_or xs k 0 ≡ get_or ys k 0) → xs ≡ ys
same_by_index [] [] l h = refl
same_by_index [] (y ∷ ys) l h = absurd (omega arith)
same_by_index (x ∷ xs) [] l h = absurd (omega arith)
same_by_index (x ∷ xs) (y ∷ ys) l h =
    let a : x ≡ y = h 0 (omega arith) in
    let b : xs ≡ ys = same_by_index xs ys (omega arith) (λ k lt. h (suc k) (omega arith)) in
    λ i. a i ∷ b i

tag_is : (t : Tag) (b : Bool) → b ≡ is_link t → t ≡ tag_of b
tag_is Plain b e = rw e refl
tag_is Link b e = rw e refl

-- a list of 8 bytes with the tag of a word is the word
pub is_word : (m : Memory) (w : ℕ) (x : Word) → length x.bytes ≡ 8 → ((j : ℕ) → j < 8 → byte_at m (8 * w + j) ≡ get_or x.bytes j 0) → contains m.links w ≡ is_link x.tag → x ≡ word_of m w
is_word m w x l b t =
    let n = length-bytes_from (byte_at m) (8 * w) 8 in
    let bytes : x.bytes ≡ bytes_from (byte_at m) (8 * w) 8 = same_by_index _ _ (l ∙ sym n) (λ k lt.
    let k8 : k < 8 = omega arith in
    sym (get_or-bytes_from (byte_at m) (8 * w) 8 k k8 ∙ b k k8)) in
    let tag : x.tag ≡ tag_of (contains m.links w) = tag_is x.tag (contains m.links w) t in
    λ i. record { bytes = bytes i; tag = tag i }

-- the word that the entries have at w
pub word_there : (es : List (ℕ × Word)) (ss : List Span) (w : ℕ) (x : Word) → length x.bytes ≡ 8 → lookup (is_at (nat_cmp w)) es ≡ Some x → x ≡ word_of (flat_memory es ss) w
word_there es ss w x l e = is_word (flat_memory es ss) w x l
    (λ j lt. flat_byte es w j lt ∙ ap (λ o. byte_in o j) e)
    (flat_word (λ y. is_link y.tag) es w ∙ ap (passes (λ y. is_link y.tag)) e)

pub word_absent : (es : List (ℕ × Word)) (ss : List Span) (w : ℕ) → lookup (is_at (nat_cmp w)) es ≡ None → no_word ≡ word_of (flat_memory es ss) w
word_absent es ss w e = is_word (flat_memory es ss) w no_word refl
    (λ j lt. flat_byte es w j lt ∙ ap (λ o. byte_in o j) e ∙ sym (get_or-replicate 8 j 0 0 lt))
    (flat_word (λ y. is_link y.tag) es w ∙ ap (passes (λ y. is_link y.tag)) e)

pub kept_room : (es fs : List (ℕ × Word)) (w : ℕ) (x : Word) → Sets es fs w x → (v : ℕ) → contains (flat_words (λ _. true) es) v ≡ true → contains (flat_words (λ _. true) fs) v ≡ true
kept_room es fs w x h v r = flat_words_set (λ _. true) es fs w x h v ∙ elim (nat_eq v w) as (λ t. cond t true (contains (flat_words (λ _. true) es) v) ≡ true) [ true ↦ refl | false ↦ r ]

pub rights_are : (es : List (ℕ × Word)) (ss : List Span) (r : Right) → with_right (flat_memory es ss) r ≡ flat_rights (gives r) ss
rights_are es ss Read = refl
rights_are es ss Write = refl

pub first_span : (p : Span → Bool) (s : Span) (ss : List Span) (q : ℕ) → true ≡ within s.from (s.to - s.from) q → contains (flat_rights p (s ∷ ss)) q ≡ p s
first_span p s ss q e = contains-mark (flat_rights p ss) s.from (s.to - s.from) (λ _. p s) q ∙ rw (sym e) refl

pub next_span : (p : Span → Bool) (s : Span) (ss : List Span) (q : ℕ) → false ≡ within s.from (s.to - s.from) q → contains (flat_rights p (s ∷ ss)) q ≡ contains (flat_rights p ss) q
next_span p s ss q e = contains-mark (flat_rights p ss) s.from (s.to - s.from) (λ _. p s) q ∙ rw (sym e) refl

pub no_span : (p : Span → Bool) (ss : List Span) (q : ℕ) → length ss ≡ 0 → contains (flat_rights p ss) q ≡ false
no_span p [] q e = contains-nowhere q
no_span p (s ∷ ss) q e = absurd (omega arith)

pub made_room : (es fs : List (ℕ × Word)) (w : ℕ) (x : Word) → Sets es fs w x → contains (flat_words (λ _. true) fs) w ≡ true
made_room es fs w x h = flat_words_set (λ _. true) es fs w x h w ∙ rw (eq-eqb w w refl) refl

pub linked : (o : Option Word) → passes (λ y. is_link y.tag) o ≡ true → passes (λ _. true) o ≡ true
linked None e = e
linked (Some x) e = refl

pub no_entry : (o : Option Word) → passes (λ _. true) o ≡ false → o ≡ None
no_entry None e = refl
no_entry (Some x) e = cc

pub is_there : (o : Option Word) → is_some o ≡ passes (λ _. true) o
is_there None = refl
is_there (Some x) = refl

-- ---- what lies below the end of guest addresses
either_way : (b x y : Bool) (P : Type 0) → cond b x y ≡ true → (b ≡ true → P) → (y ≡ true → P) → P
either_way true x y P e t f = t refl
either_way false x y P e t f = f e

pub rights_end : (p : Span → Bool) (ss : List Span) → AllEnd ss → IsBelowEnd (flat_rights p ss)
rights_end p [] h q e = absurd (both_ways (contains nowhere q) (contains-nowhere q) e)
rights_end p (s ∷ ss) h q e =
    either_way (within s.from (s.to - s.from) q) (p s) (contains (flat_rights p ss) q) (q < 0x1000_0000)
    (sym (contains-mark (flat_rights p ss) s.from (s.to - s.from) (λ _. p s) q) ∙ e)
    (λ t.
    let r = and_parts (nat_le s.from q) (nat_lt q (s.from + (s.to - s.from))) t in
    omega (arith, h.0, leb-true s.from q r.0, ltb-true q (s.from + (s.to - s.from)) r.1))
    (λ t. rights_end p ss h.1 q t)

pub rights_low : (es : List (ℕ × Word)) (ss : List Span) (right : Right) → AllEnd ss → IsBelowEnd (with_right (flat_memory es ss) right)
rights_low es ss Read h = rights_end (gives Read) ss h
rights_low es ss Write h = rights_end (gives Write) ss h

pub words_low : (p : Word → Bool) (es : List (ℕ × Word)) → AllLow es → (w : ℕ) → contains (flat_words p es) w ≡ true → w < 0x0200_0000
words_low p [] h w e = absurd (both_ways (contains nowhere w) (contains-nowhere w) e)
words_low p (d ∷ es) h w e =
    either_way (nat_eq w d.0) (p d.1) (contains (flat_words p es) w) (w < 0x0200_0000)
    (sym (mark_at (flat_words p es) d.0 w (p d.1)) ∙ e)
    (λ t. subst (λ v. v < 0x0200_0000) (sym (eqb-true w d.0 t)) h.0)
    (λ t. words_low p es h.1 w t)
