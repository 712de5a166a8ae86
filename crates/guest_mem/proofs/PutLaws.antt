-- Table put word by word.
use Rattle.std.proofs.Common.{◌≡◌, ℕ, ◌+◌, ◌*◌, ◌/◌, ◌<◌, ◌≤◌, Bool, true, false, cond, ◌&&◌, nat_eq, nat_le, nat_lt, List, get_or, refl, sym, ap, subst, ◌∙◌, inl, inr, arith}
use Rattle.std.proofs.lemmas.Bool.{cases_eq, eq-eqb, ne_eqb, lt-ltb, le-leb, leb-true, ltb-true, and_parts, and_from, false≢true}
use Rattle.std.proofs.lemmas.Bool.Decides.{nat_tests}
use Rattle.finite.specs.Maps.{contains}
use Rattle.guest_mem.specs.declared.words.Word.{Word}
use Rattle.finite.specs.Maps.{Table, Places, at, fill, mark, within}
use Rattle.finite.proofs.MapLaws.{at-fill, contains-mark, fill_word, mark_at, same_by_words}
use Rattle.guest_mem.specs.Memory.{Memory, no_word, byte_at, bytes_from, tag_of, word_of, with_word}
use Rattle.guest_mem.proofs.Reading.{same_memory}
use Rattle.link_tags.specs.Values.{is_link}
use Rattle.guest_mem.proofs.Reading.{get_or-bytes_from, length-bytes_from}
use Rattle.guest_mem.specs.Access.{seen, put, touched, cleared}
use Rattle.guest_mem.specs.Words.{IsPut}
use Rattle.std.proofs.lemmas.List.{get_or-replicate}
use Rattle.guest_mem.proofs.Laws.{with_same}
use Rattle.guest_mem.proofs.FlatLaws.{same_by_index}

abbrev pub done : ℕ → ℕ → ℕ → Bool
done first cur v = nat_le first v && nat_lt v cur

-- m' is m with the n bytes of f at a put into the words from the first one up to cur; its other bytes there are those of base
pub record Puts (base : ℕ → ℕ) (m m' : Memory) (a n : ℕ) (f : ℕ → ℕ) (cur : ℕ) : Type 0 where
  pub bytes : (v j : ℕ) → j < 8 → byte_at m' (8 * v + j) ≡ cond (done (a / 8) cur v) (cond (within a n (8 * v + j)) (f (8 * v + j)) (base (8 * v + j))) (byte_at m (8 * v + j))
  pub links : (v : ℕ) → contains m'.links v ≡ cond (done (a / 8) cur v) false (contains m.links v)
  pub readable : (q : ℕ) → contains m'.readable q ≡ contains m.readable q
  pub writable : (q : ℕ) → contains m'.writable q ≡ contains m.writable q

pub not_yet : (first cur v : ℕ) → cur ≤ v → done first cur v ≡ false
not_yet first cur v h = grind (arith, nat_tests)

pub none_done : (first v : ℕ) → done first first v ≡ false
none_done first v = grind (arith, nat_tests)

pub puts_none : (base : ℕ → ℕ) (m : Memory) (a n : ℕ) (f : ℕ → ℕ) → Puts base m m a n f (a / 8)
puts_none base m a n f =
    let e = λ (v : ℕ). none_done (a / 8) v in
    record {
      bytes = λ v j lt. rw (e v) refl;
      links = λ v. rw (e v) refl;
      readable = λ q. refl;
      writable = λ q. refl;
    }

pub in_done : (first cur v : ℕ) → first ≤ cur → v ≡ cur → done first (cur + 1) v ≡ true
in_done first cur v h e = grind (arith, nat_tests)

pub same_done : (first cur v : ℕ) → (v ≡ cur → ⊥) → done first (cur + 1) v ≡ done first cur v
same_done first cur v h = grind (arith, nat_tests)

one_more : {X : Type 0} (first cur v : ℕ) (x y : X) → first ≤ cur → cond (nat_eq v cur) x (cond (done first cur v) x y) ≡ cond (done first (cur + 1) v) x y
one_more first cur v x y h =
    elim (cases_eq v cur) [
      | inl same ↦ rw (eq-eqb v cur same, in_done first cur v h same) refl
      | inr other ↦ rw (ne_eqb v cur other, same_done first cur v other) refl
    ]

-- the word cur of m' is still that of m
still : (base : ℕ → ℕ) (m m' : Memory) (a n : ℕ) (f : ℕ → ℕ) (cur : ℕ) → Puts base m m' a n f cur → word_of m' cur ≡ word_of m cur
still base m m' a n f cur p =
    let e = not_yet (a / 8) cur cur (omega arith) in
    let bytes : bytes_from (byte_at m') (8 * cur) 8 ≡ bytes_from (byte_at m) (8 * cur) 8 =
    same_by_index (bytes_from (byte_at m') (8 * cur) 8) (bytes_from (byte_at m) (8 * cur) 8) (length-bytes_from (byte_at m') (8 * cur) 8 ∙ sym (length-bytes_from (byte_at m) (8 * cur) 8)) (λ k lt.
    let k8 : k < 8 = omega (arith, length-bytes_from (byte_at m') (8 * cur) 8) in
    get_or-bytes_from (byte_at m') (8 * cur) 8 k k8
    ∙ p.bytes cur k k8 ∙ rw e refl
    ∙ sym (get_or-bytes_from (byte_at m) (8 * cur) 8 k k8)) in
    let tag : tag_of (contains m'.links cur) ≡ tag_of (contains m.links cur) = ap tag_of (p.links cur ∙ rw e refl) in
    λ i. record { bytes = bytes i; tag = tag i }

-- one more word, whose other bytes are those of base
pub puts_more : (base : ℕ → ℕ) (m m' : Memory) (a n : ℕ) (f : ℕ → ℕ) (cur : ℕ) (old : Word → List ℕ) (x : Word) → a / 8 ≤ cur → Puts base m m' a n f cur
    → ((j : ℕ) → j < 8 → base (8 * cur + j) ≡ get_or (old (word_of m cur)) j 0)
    → IsPut (old (word_of m' cur)) cur a n f x
    → Puts base m (with_word m' cur x) a n f (cur + 1)
puts_more base m m' a n f cur old x h p b put =
    let e : old (word_of m' cur) ≡ old (word_of m cur) = ap old (still base m m' a n f cur p) in
    record {
      bytes = λ v j lt.
          fill_word m'.bytes cur v j (λ k. get_or x.bytes k 0) lt
          ∙ elim (cases_eq v cur) [
            | inl same ↦
                rw (eq-eqb v cur same, in_done (a / 8) cur v h same)
                (put.bytes j lt
                ∙ ap (λ (ys : List ℕ). cond (within a n (8 * cur + j)) (f (8 * cur + j)) (get_or ys j 0)) e
                ∙ ap (cond (within a n (8 * cur + j)) (f (8 * cur + j))) (sym (b j lt))
                ∙ ap (λ u. cond (within a n (8 * u + j)) (f (8 * u + j)) (base (8 * u + j))) (sym same))
            | inr other ↦ rw (ne_eqb v cur other, same_done (a / 8) cur v other) (p.bytes v j lt)
          ];
      links = λ v.
          mark_at m'.links cur v (is_link x.tag)
          ∙ ap (λ g. cond (nat_eq v cur) (is_link g) (contains m'.links v)) put.tag
          ∙ ap (cond (nat_eq v cur) false) (p.links v)
          ∙ one_more (a / 8) cur v false (contains m.links v) h;
      readable = p.readable;
      writable = p.writable;
    }

pub ends : (a n v : ℕ) → 0 < n → within (a / 8) (touched a n) v ≡ done (a / 8) ((a + n + 7) / 8) v
ends a n v h =
    let e : nat_eq n 0 ≡ false = ne_eqb n 0 (omega arith) in
    rw e (grind (arith, nat_tests))

pub inside : (a n v j : ℕ) → j < 8 → within a n (8 * v + j) ≡ true → done (a / 8) ((a + n + 7) / 8) v ≡ true
inside a n v j lt h =
    let p = and_parts (nat_le a (8 * v + j)) (nat_lt (8 * v + j) (a + n)) h in
    let lo = leb-true a (8 * v + j) p.0 in
    let hi = ltb-true (8 * v + j) (a + n) p.1 in
    and_from (nat_le (a / 8) v) (nat_lt v ((a + n + 7) / 8)) (le-leb (a / 8) v (omega arith)) (lt-ltb v ((a + n + 7) / 8) (omega arith))

turned : {X : Type 0} (d w : Bool) (f s b : X) → (w ≡ true → d ≡ true) → cond d (cond w f s) b ≡ cond w f (cond d s b)
turned true true f s b h = refl
turned true false f s b h = refl
turned false true f s b h = absurd (false≢true (h refl))
turned false false f s b h = refl

by_words : (first count v j : ℕ) → j < 8 → within (8 * first) (8 * count) (8 * v + j) ≡ within first count v
by_words first count v j h = grind (arith, nat_tests)

-- all words
puts_bytes : (base : ℕ → ℕ) (m m' : Memory) (a n : ℕ) (f : ℕ → ℕ) → 0 < n → Puts base m m' a n f ((a + n + 7) / 8)
    → (q : ℕ) → byte_at m' q ≡ at (fill (fill m.bytes (8 * (a / 8)) (8 * touched a n) base) a n f) q
puts_bytes base m m' a n f h p =
    same_by_words m'.bytes (fill (fill m.bytes (8 * (a / 8)) (8 * touched a n) base) a n f) (λ v j lt.
    let q = 8 * v + j in
    p.bytes v j lt
    ∙ turned (done (a / 8) ((a + n + 7) / 8) v) (within a n q) (f q) (base q) (byte_at m q) (inside a n v j lt)
    ∙ ap (λ t. cond (within a n q) (f q) (cond t (base q) (byte_at m q))) (sym (by_words (a / 8) (touched a n) v j lt ∙ ends a n v h))
    ∙ ap (cond (within a n q) (f q)) (sym (at-fill m.bytes (8 * (a / 8)) (8 * touched a n) base q))
    ∙ sym (at-fill (fill m.bytes (8 * (a / 8)) (8 * touched a n) base) a n f q))

puts_links : (base : ℕ → ℕ) (m m' : Memory) (a n : ℕ) (f : ℕ → ℕ) → 0 < n → Puts base m m' a n f ((a + n + 7) / 8)
    → (v : ℕ) → contains m'.links v ≡ contains (mark m.links (a / 8) (touched a n) (λ _. false)) v
puts_links base m m' a n f h p v =
    p.links v ∙ ap (λ t. cond t false (contains m.links v)) (sym (ends a n v h)) ∙ sym (contains-mark m.links (a / 8) (touched a n) (λ _. false) v)

pub puts_all : (origin : ℕ → ℕ) (m m' : Memory) (a n : ℕ) (f : ℕ → ℕ) → 0 < n → Puts (seen origin m) m m' a n f ((a + n + 7) / 8) → m' ≡ put origin m a n f
puts_all origin m m' a n f h p =
    same_memory m' (put origin m a n f)
    (puts_bytes (seen origin m) m m' a n f h p)
    (puts_links (seen origin m) m m' a n f h p)
    p.readable
    p.writable

kept_byte : (t : Bool) (x : ℕ) → cond t x x ≡ x
kept_byte true x = refl
kept_byte false x = refl

pub clears_all : (m m' : Memory) (a n : ℕ) → 0 < n → Puts (byte_at m) m m' a n (λ _. 0) ((a + n + 7) / 8) → m' ≡ cleared m a n
clears_all m m' a n h p =
    same_memory m' (cleared m a n)
    (λ q.
    puts_bytes (byte_at m) m m' a n (λ _. 0) h p q
    ∙ at-fill (fill m.bytes (8 * (a / 8)) (8 * touched a n) (byte_at m)) a n (λ _. 0) q
    ∙ ap (cond (within a n q) 0) (at-fill m.bytes (8 * (a / 8)) (8 * touched a n) (byte_at m) q ∙ kept_byte (within (8 * (a / 8)) (8 * touched a n) q) (byte_at m q))
    ∙ sym (at-fill m.bytes a n (λ _. 0) q))
    (puts_links (byte_at m) m m' a n (λ _. 0) h p)
    p.readable
    p.writable

fill_none : (m : Table) (lo : ℕ) (f : ℕ → ℕ) → fill m lo 0 f ≡ m
unfolding fill
fill_none m lo f = refl

pub mark_none : (s : Places) (lo : ℕ) (p : ℕ → Bool) → mark s lo 0 p ≡ s
unfolding mark
mark_none s lo p = refl

pub put_nothing : (origin : ℕ → ℕ) (m : Memory) (a : ℕ) (f : ℕ → ℕ) → m ≡ put origin m a 0 f
put_nothing origin m a f =
    let b = sym (fill_none (fill m.bytes (8 * (a / 8)) 0 (seen origin m)) a f ∙ fill_none m.bytes (8 * (a / 8)) (seen origin m)) in
    let l = sym (mark_none m.links (a / 8) (λ _. false)) in
    λ i. record { bytes = b i; links = l i; readable = m.readable; writable = m.writable }

pub clear_nothing : (m : Memory) (a n : ℕ) → n ≡ 0 → m ≡ cleared m a n
clear_nothing m a n e =
    let b = sym (fill_none m.bytes a (λ _. 0)) in
    let l = sym (mark_none m.links (a / 8) (λ _. false)) in
    subst (λ k. m ≡ cleared m a k) (sym e) (λ i. record { bytes = b i; links = l i; readable = m.readable; writable = m.writable })

-- a word that is zero and Plain stays as it is
zero_put : (w a n : ℕ) → IsPut no_word.bytes w a n (λ _. 0) no_word
zero_put w a n =
    record {
      bytes = λ j lt.
          let z : get_or no_word.bytes j 0 ≡ 0 = get_or-replicate 8 j 0 0 lt in
          z ∙ sym (ap (cond (within a n (8 * w + j)) 0) z ∙ kept_byte (within a n (8 * w + j)) 0);
      tag = refl;
    }

pub bare_zeroed : (m : Memory) (w a n : ℕ) → no_word ≡ word_of m w → (x : Word) × IsPut (word_of m w).bytes w a n (λ _. 0) x × (m ≡ with_word m w x)
bare_zeroed m w a n e =
    (word_of m w, subst (λ (y : Word). IsPut y.bytes w a n (λ _. 0) y) e (zero_put w a n), sym (with_same m w))
