-- Memories that are related stay so under what the machine does to them. All goes word by word: a word is Plain with equal bytes,
-- or a link whose numbers land alike.
use Rattle.std.proofs.Common.{◌≡◌, ℕ, ◌+◌, ◌-◌, ◌*◌, ◌/◌, ◌%◌, ◌<◌, Bool, true, false, cond, nat_eq, List, get_or, refl, sym, ap, subst, ◌∙◌, inl, inr, arith}
use Rattle.std.proofs.lemmas.Bool.{both_ways, cases_eq, eq-eqb, ne_eqb}
use Rattle.std.proofs.lemmas.Bool.Decides.{nat_tests}
use Rattle.finite.specs.Maps.{Places, contains, mark, within}
use Rattle.finite.proofs.MapLaws.{at-fill, contains-mark, fill_word, mark_at, in_range, out_of_range}
use Rattle.rv_isa.specs.declared.instr.Width.{Width}
use Rattle.rv_isa.specs.declared.instr.Width.TheVariants.{B, H, W, D, Bu, Hu, Wu}
use Rattle.image.specs.Picture.{Picture, IsKept}
use Rattle.link_tags.specs.declared.value.Tag.TheVariants.{Plain, Link}
use Rattle.link_tags.specs.declared.value.Value.{Value}
use Rattle.link_tags.specs.Values.{is_link, original}
use Rattle.guest_mem.specs.declared.words.Word.{Word}
use Rattle.guest_mem.specs.Memory.{Memory, byte_at, is_link_at, number_at, number_of, bytes_of, bytes_from, tag_of, word_of, with_word}
use Rattle.guest_mem.specs.Access.{size_of, extended, seen, loaded, stored, touched, plain_words, put, with_rights, cleared, mapped, with_link}
use Rattle.guest_mem.proofs.Reading.{same_number, get_or-bytes_from, number_of-bytes_of}
use Rattle.guest_mem.proofs.Laws.{whole_store, link_again, with_same}
use Rattle.layout.specs.Points.{Code}
use Rattle.sim_laws.specs.Origins.{origin}
use Rattle.sim_laws.specs.Codes.{IsCodeOf}
use Rattle.sim_laws.specs.Related.{Lands, ValuesRelated, both_plain, both_links, MemoriesRelated}
use Rattle.sim_laws.proofs.Lands.{origin_lands, original_related, lands_fits}

data WordsRelated (p : Picture) (c : Code) (m n : Memory) (v : ℕ) : Type 0 where
  plain_word : contains n.links v ≡ false → ((j : ℕ) → j < 8 → byte_at m (8 * v + j) ≡ byte_at n (8 * v + j)) → WordsRelated p c m n v
  link_word : contains n.links v ≡ true → Lands p c (number_at m (8 * v)) (number_at n (8 * v)) → WordsRelated p c m n v

-- the word v has the same bytes
abbrev SameWord : Memory → Memory → ℕ → Type 0
SameWord m n v = (j : ℕ) → j < 8 → byte_at m (8 * v + j) ≡ byte_at n (8 * v + j)

same_word : (m n : Memory) (v : ℕ) → SameWord m n v → number_at m (8 * v) ≡ number_at n (8 * v)
same_word m n v h =
    same_number (bytes_from (byte_at m) (8 * v) 8) (bytes_from (byte_at n) (8 * v) 8) (λ k lt.
    get_or-bytes_from (byte_at m) (8 * v) 8 k lt ∙ h k lt ∙ sym (get_or-bytes_from (byte_at n) (8 * v) 8 k lt))

number_is : (m : Memory) (v : ℕ) (xs : List ℕ) → ((j : ℕ) → j < 8 → byte_at m (8 * v + j) ≡ get_or xs j 0) → number_at m (8 * v) ≡ number_of xs
number_is m v xs h = same_number (bytes_from (byte_at m) (8 * v) 8) xs (λ k lt. get_or-bytes_from (byte_at m) (8 * v) 8 k lt ∙ h k lt)

-- ---- places of words
in_word : (first count v j : ℕ) → j < 8 → within (8 * first) (8 * count) (8 * v + j) ≡ within first count v
in_word first count v j h = grind (arith, nat_tests)

touches : (a k v j : ℕ) → j < 8 → within (a / 8) (touched a k) v ≡ false → within a k (8 * v + j) ≡ false
touches a k v j h e =
    out_of_range a k (8 * v + j) (λ x y.
    let some : nat_eq k 0 ≡ false = ne_eqb k 0 (omega arith) in
    let count : touched a k ≡ (a + k + 7) / 8 - a / 8 = rw some refl in
    both_ways (within (a / 8) (touched a k) v) e (in_range (a / 8) (touched a k) v (omega arith) (rw count (omega arith))))

touches_whole : (a k v j : ℕ) → a % 8 ≡ 0 → k % 8 ≡ 0 → j < 8 → within (a / 8) (touched a k) v ≡ true → within a k (8 * v + j) ≡ true
touches_whole a k v j d e h t =
    elim (cases_eq k 0) [
      | inl none ↦ let z : touched a k ≡ 0 = rw none refl in absurd (both_ways (within (a / 8) (touched a k) v) (rw z (out_of_range (a / 8) 0 v (λ x y. omega arith))) t)
      | inr some ↦
          let s : nat_eq k 0 ≡ false = ne_eqb k 0 some in
          let count : touched a k ≡ k / 8 = rw s (omega arith) in
          let split : a ≡ 8 * (a / 8) = omega arith in
          let whole : k ≡ 8 * (k / 8) = omega arith in
          subst (λ x. within x k (8 * v + j) ≡ true) (sym split) (subst (λ x. within (8 * (a / 8)) x (8 * v + j) ≡ true) (sym whole)
          (in_word (a / 8) (k / 8) v j h ∙ subst (λ x. within (a / 8) x v ≡ true) count t))
    ]

-- ---- bytes and tags after a change
put_byte : (org : ℕ → ℕ) (m : Memory) (a k : ℕ) (f : ℕ → ℕ) (q : ℕ) → byte_at (put org m a k f) q ≡ cond (within a k q) (f q) (cond (within (8 * (a / 8)) (8 * touched a k) q) (seen org m q) (byte_at m q))
put_byte org m a k f q =
    at-fill (plain_words org m (a / 8) (touched a k)).bytes a k f q
    ∙ ap (cond (within a k q) (f q)) (at-fill m.bytes (8 * (a / 8)) (8 * touched a k) (seen org m) q)

put_kept : (org : ℕ → ℕ) (m : Memory) (a k : ℕ) (f : ℕ → ℕ) (v : ℕ) → within (a / 8) (touched a k) v ≡ false → SameWord (put org m a k f) m v
put_kept org m a k f v e j lt =
    let t = touches a k v j lt e in
    let u = in_word (a / 8) (touched a k) v j lt ∙ e in
    put_byte org m a k f (8 * v + j) ∙ rw (t, u) refl

put_inside : (org : ℕ → ℕ) (m : Memory) (a k : ℕ) (f : ℕ → ℕ) (v j : ℕ) → j < 8 → within (a / 8) (touched a k) v ≡ true → byte_at (put org m a k f) (8 * v + j) ≡ cond (within a k (8 * v + j)) (f (8 * v + j)) (seen org m (8 * v + j))
put_inside org m a k f v j lt e = let u = in_word (a / 8) (touched a k) v j lt ∙ e in put_byte org m a k f (8 * v + j) ∙ rw u refl

marked : (s : Places) (first count v : ℕ) → within first count v ≡ true → contains (mark s first count (λ _. false)) v ≡ false
marked s first count v e = contains-mark s first count (λ _. false) v ∙ rw e refl

unmarked : (s : Places) (first count v : ℕ) → within first count v ≡ false → contains (mark s first count (λ _. false)) v ≡ contains s v
unmarked s first count v e = contains-mark s first count (λ _. false) v ∙ rw e refl

cleared_kept : (m : Memory) (a k v : ℕ) → within (a / 8) (touched a k) v ≡ false → SameWord (cleared m a k) m v
cleared_kept m a k v e j lt = let t = touches a k v j lt e in at-fill m.bytes a k (λ _. 0) (8 * v + j) ∙ rw t refl

cleared_byte : (m : Memory) (a k v j : ℕ) → within a k (8 * v + j) ≡ true → byte_at (cleared m a k) (8 * v + j) ≡ 0
cleared_byte m a k v j e = at-fill m.bytes a k (λ _. 0) (8 * v + j) ∙ rw e refl

other_word : (m : Memory) (w v : ℕ) (x : Word) → (v ≡ w → ⊥) → SameWord (with_word m w x) m v
other_word m w v x ne j lt = let e = ne_eqb v w ne in fill_word m.bytes w v j (λ k. get_or x.bytes k 0) lt ∙ rw e refl

other_tag : (m : Memory) (w v : ℕ) (x : Word) → (v ≡ w → ⊥) → contains (with_word m w x).links v ≡ contains m.links v
other_tag m w v x ne = let e = ne_eqb v w ne in mark_at m.links w v (is_link x.tag) ∙ rw e refl

this_word : (m : Memory) (w : ℕ) (x : Word) (j : ℕ) → j < 8 → byte_at (with_word m w x) (8 * w + j) ≡ get_or x.bytes j 0
this_word m w x j lt = let e = eq-eqb w w refl in fill_word m.bytes w w j (λ k. get_or x.bytes k 0) lt ∙ rw e refl

this_tag : (m : Memory) (w : ℕ) (x : Word) → contains (with_word m w x).links w ≡ is_link x.tag
this_tag m w x = let e = eq-eqb w w refl in mark_at m.links w w (is_link x.tag) ∙ rw e refl

by_tag : (b : Bool) → tag_of b ≡ Link → b ≡ true
by_tag true e = refl
by_tag false e = cc

-- a load gives a link only where the word is one
pub loaded_link : (org : ℕ → ℕ) (n : Memory) (a : ℕ) (width : Width) → (loaded org n a width).tag ≡ Link → is_link_at n a ≡ true
loaded_link org n a B e = cc
loaded_link org n a H e = cc
loaded_link org n a W e = cc
loaded_link org n a D e = by_tag (is_link_at n a) e
loaded_link org n a Bu e = cc
loaded_link org n a Hu e = cc
loaded_link org n a Wu e = cc

module _ (p : Picture) (c : Code) where
  word_by : {m n : Memory} → MemoriesRelated p c m n → (v : ℕ) (b : Bool) → contains n.links v ≡ b → WordsRelated p c m n v
  word_by {m = m} {n = n} r v true e = link_word e (r.numbers v e)
  word_by {m = m} {n = n} r v false e =
      plain_word e (λ j lt. let d : (8 * v + j) / 8 ≡ v = omega arith in r.bytes (8 * v + j) (ap (contains n.links) d ∙ e))

  word_related : {m n : Memory} → MemoriesRelated p c m n → (v : ℕ) → WordsRelated p c m n v
  word_related {n = n} r v = word_by r v (contains n.links v) refl

  byte_by : {m n : Memory} (a : ℕ) → WordsRelated p c m n (a / 8) → is_link_at n a ≡ false → byte_at m a ≡ byte_at n a
  byte_by {m = m} {n = n} a (plain_word e b) h =
      let split : 8 * (a / 8) + a % 8 ≡ a = omega arith in
      subst (λ x. byte_at m x ≡ byte_at n x) split (b (a % 8) (omega arith))
  byte_by {m = m} {n = n} a (link_word e l) h = absurd (both_ways (is_link_at n a) h e)

  number_by : {m n : Memory} (w : ℕ) → WordsRelated p c m n w → contains n.links w ≡ true → Lands p c (number_at m (8 * w)) (number_at n (8 * w))
  number_by {n = n} w (plain_word e b) h = absurd (both_ways (contains n.links w) e h)
  number_by {n = n} w (link_word e l) h = l

  by_words : {m n : Memory} → m.readable ≡ n.readable → m.writable ≡ n.writable → m.links ≡ n.links → ((v : ℕ) → WordsRelated p c m n v) → MemoriesRelated p c m n
  by_words a b l h = record {
    readable = a;
    writable = b;
    links = l;
    bytes = λ q e. byte_by q (h (q / 8)) e;
    numbers = λ w e. number_by w (h w) e;
  }

  -- a word that both changes leave
  kept_word : (m n m' n' : Memory) (v : ℕ) → SameWord m' m v → SameWord n' n v → contains n'.links v ≡ contains n.links v → WordsRelated p c m n v → WordsRelated p c m' n' v
  kept_word m n m' n' v s t e (plain_word f b) = plain_word (e ∙ f) (λ j lt. s j lt ∙ b j lt ∙ sym (t j lt))
  kept_word m n m' n' v s t e (link_word f l) = link_word (e ∙ f) (rw (same_word m' m v s, same_word n' n v t) l)

  -- ---- what a program sees
  seen_by : {m n : Memory} (a : ℕ) → MemoriesRelated p c m n → WordsRelated p c m n (a / 8) → seen (origin c) m a ≡ seen (λ a. a) n a
  seen_by {m = m} {n = n} a r (plain_word e b) =
      let k = ap (λ (s : Places). contains s (a / 8)) r.links ∙ e in
      rw (k, e) (r.bytes a e)
  seen_by {m = m} {n = n} a r (link_word e l) =
      let k = ap (λ (s : Places). contains s (a / 8)) r.links ∙ e in
      let o = origin_lands p c l.stands in
      rw (k, e, o) refl

  pub seen_related : {m n : Memory} → MemoriesRelated p c m n → (a : ℕ) → seen (origin c) m a ≡ seen (λ a. a) n a
  seen_related r a = seen_by a r (word_related r (a / 8))

  pub seen_same : {m n : Memory} → MemoriesRelated p c m n → seen (origin c) m ≡ seen (λ a. a) n
  seen_same r = λ i a. seen_related r a i

  -- ---- loads
  whole_by : {m n : Memory} (a : ℕ) → a % 8 ≡ 0 → MemoriesRelated p c m n → WordsRelated p c m n (a / 8) → ValuesRelated p c (loaded (origin c) m a D) (loaded (λ a. a) n a D)
  whole_by {m = m} {n = n} a d r (plain_word e b) =
      let k = ap (λ (s : Places). contains s (a / 8)) r.links ∙ e in
      let split : 8 * (a / 8) ≡ a = omega arith in
      both_plain (rw k refl) (rw e refl) (subst (λ x. number_at m x ≡ number_at n x) split (same_word m n (a / 8) b))
  whole_by {m = m} {n = n} a d r (link_word e l) =
      let k = ap (λ (s : Places). contains s (a / 8)) r.links ∙ e in
      let split : 8 * (a / 8) ≡ a = omega arith in
      both_links (rw k refl) (rw e refl) (subst (λ x. Lands p c (number_at m x) (number_at n x)) split l)

  part_related : {m n : Memory} (a : ℕ) (width : Width) → MemoriesRelated p c m n → extended width (number_of (bytes_from (seen (origin c) m) a (size_of width))) ≡ extended width (number_of (bytes_from (seen (λ a. a) n) a (size_of width)))
  part_related a width r = ap (λ f. extended width (number_of (bytes_from f a (size_of width)))) (seen_same r)

  pub loaded_related : {m n : Memory} → MemoriesRelated p c m n → (at : ℕ) (width : Width) → at % size_of width ≡ 0 → ValuesRelated p c (loaded (origin c) m at width) (loaded (λ a. a) n at width)
  loaded_related r at B d = both_plain refl refl (part_related at B r)
  loaded_related r at H d = both_plain refl refl (part_related at H r)
  loaded_related r at W d = both_plain refl refl (part_related at W r)
  loaded_related r at D d = whole_by at d r (word_related r (at / 8))
  loaded_related r at Bu d = both_plain refl refl (part_related at Bu r)
  loaded_related r at Hu d = both_plain refl refl (part_related at Hu r)
  loaded_related r at Wu d = both_plain refl refl (part_related at Wu r)

  -- ---- a write of bytes
  put_word_by : {m n : Memory} (a k : ℕ) (f : ℕ → ℕ) → MemoriesRelated p c m n → (v : ℕ) (b : Bool) → within (a / 8) (touched a k) v ≡ b → WordsRelated p c (put (origin c) m a k f) (put (λ a. a) n a k f) v
  put_word_by {m = m} {n = n} a k f r v false e =
      kept_word m n (put (origin c) m a k f) (put (λ a. a) n a k f) v
      (put_kept (origin c) m a k f v e)
      (put_kept (λ a. a) n a k f v e)
      (unmarked n.links (a / 8) (touched a k) v e)
      (word_related r v)
  put_word_by {m = m} {n = n} a k f r v true e =
      plain_word (marked n.links (a / 8) (touched a k) v e) (λ j lt.
      let q = 8 * v + j in
      put_inside (origin c) m a k f v j lt e
      ∙ ap (cond (within a k q) (f q)) (seen_related r q)
      ∙ sym (put_inside (λ a. a) n a k f v j lt e))

  pub put_related : {m n : Memory} → (at k : ℕ) (f : ℕ → ℕ) → MemoriesRelated p c m n → MemoriesRelated p c (put (origin c) m at k f) (put (λ a. a) n at k f)
  put_related at k f r =
      by_words r.readable r.writable (ap (λ (s : Places). mark s (at / 8) (touched at k) (λ _. false)) r.links)
      (λ v. put_word_by at k f r v (within (at / 8) (touched at k) v) refl)

  -- ---- a write of a word
  data WordValues (x y : Word) : Type 0 where
    plain_words_alike : x.tag ≡ Plain → y.tag ≡ Plain → x.bytes ≡ y.bytes → WordValues x y
    links_alike : x.tag ≡ Link → y.tag ≡ Link → Lands p c (number_of x.bytes) (number_of y.bytes) → WordValues x y

  tags_alike : {x y : Word} → WordValues x y → x.tag ≡ y.tag
  tags_alike (plain_words_alike s t b) = s ∙ sym t
  tags_alike (links_alike s t l) = s ∙ sym t

  new_word : (m n : Memory) (w : ℕ) (x y : Word) → WordValues x y → WordsRelated p c (with_word m w x) (with_word n w y) w
  new_word m n w x y (plain_words_alike s t b) =
      plain_word (this_tag n w y ∙ ap is_link t) (λ j lt. this_word m w x j lt ∙ ap (λ xs. get_or xs j 0) b ∙ sym (this_word n w y j lt))
  new_word m n w x y (links_alike s t l) =
      link_word (this_tag n w y ∙ ap is_link t)
      (rw (number_is (with_word m w x) w x.bytes (this_word m w x), number_is (with_word n w y) w y.bytes (this_word n w y)) l)

  with_word_related : {m n : Memory} (w : ℕ) (x y : Word) → WordValues x y → MemoriesRelated p c m n → MemoriesRelated p c (with_word m w x) (with_word n w y)
  with_word_related {m = m} {n = n} w x y h r =
      by_words r.readable r.writable
      (let t = tags_alike h in rw (r.links, t) refl)
      (λ v. elim (cases_eq v w) [
        | inl same ↦ rw same (new_word m n w x y h)
        | inr other ↦ kept_word m n (with_word m w x) (with_word n w y) v (other_word m w v x other) (other_word n w v y other) (other_tag n w v y other) (word_related r v)
      ])

  abbrev word_for : Value → Word
  word_for v = record { bytes = bytes_of v.number; tag = v.tag }

  word_values : IsKept p → IsCodeOf p c → {v w : Value} → ValuesRelated p c v w → WordValues (word_for v) (word_for w)
  word_values kept k {v = v} {w = w} (both_plain s t e) = plain_words_alike s t (ap bytes_of e)
  word_values kept k {v = v} {w = w} (both_links s t l) =
      links_alike s t (rw (number_of-bytes_of v.number (lands_fits p c kept k l), number_of-bytes_of w.number l.fits) l)

  whole_related : IsKept p → IsCodeOf p c → {m n : Memory} {v w : Value} → (at : ℕ) → at % 8 ≡ 0 → ValuesRelated p c v w → MemoriesRelated p c m n → MemoriesRelated p c (stored (origin c) m at D v) (stored (λ a. a) n at D w)
  whole_related kept k {m = m} {n = n} {v = v} {w = w} at d vs r =
      subst (λ x. MemoriesRelated p c x (stored (λ a. a) n at D w)) (whole_store (origin c) m at v d)
      (subst (λ x. MemoriesRelated p c (with_word m (at / 8) (word_for v)) x) (whole_store (λ a. a) n at w d)
      (with_word_related (at / 8) (word_for v) (word_for w) (word_values kept k vs) r))

  part_stored : {m n : Memory} {v w : Value} → (at k : ℕ) → ValuesRelated p c v w → MemoriesRelated p c m n → MemoriesRelated p c (put (origin c) m at k (λ q. get_or (bytes_of (original (origin c) v)) (q - at) 0)) (put (λ a. a) n at k (λ q. get_or (bytes_of (original (λ a. a) w)) (q - at) 0))
  part_stored {m = m} {n = n} {v = v} {w = w} at k vs r =
      subst (λ x. MemoriesRelated p c (put (origin c) m at k (λ q. get_or (bytes_of x) (q - at) 0)) (put (λ a. a) n at k (λ q. get_or (bytes_of (original (λ a. a) w)) (q - at) 0)))
      (sym (original_related p c vs))
      (put_related at k (λ q. get_or (bytes_of (original (λ a. a) w)) (q - at) 0) r)

  pub stored_related : IsKept p → IsCodeOf p c → {m n : Memory} {v w : Value} → (at : ℕ) (width : Width) → at % size_of width ≡ 0 → ValuesRelated p c v w → MemoriesRelated p c m n → MemoriesRelated p c (stored (origin c) m at width v) (stored (λ a. a) n at width w)
  stored_related kept k at B d vs r = part_stored at 1 vs r
  stored_related kept k at H d vs r = part_stored at 2 vs r
  stored_related kept k at W d vs r = part_stored at 4 vs r
  stored_related kept k at D d vs r = whole_related kept k at d vs r
  stored_related kept k at Bu d vs r = part_stored at 1 vs r
  stored_related kept k at Hu d vs r = part_stored at 2 vs r
  stored_related kept k at Wu d vs r = part_stored at 4 vs r

  -- ---- rights and mappings
  pub rights_related : {m n : Memory} → (at k : ℕ) (r w : Bool) → MemoriesRelated p c m n → MemoriesRelated p c (with_rights m at k r w) (with_rights n at k r w)
  rights_related at k r w h = record {
    readable = ap (λ (s : Places). mark s at k (λ _. r)) h.readable;
    writable = ap (λ (s : Places). mark s at k (λ _. w)) h.writable;
    links = h.links;
    bytes = h.bytes;
    numbers = h.numbers;
  }

  cleared_by : {m n : Memory} (a k : ℕ) → a % 8 ≡ 0 → k % 8 ≡ 0 → MemoriesRelated p c m n → (v : ℕ) (b : Bool) → within (a / 8) (touched a k) v ≡ b → WordsRelated p c (cleared m a k) (cleared n a k) v
  cleared_by {m = m} {n = n} a k d f r v false e =
      kept_word m n (cleared m a k) (cleared n a k) v (cleared_kept m a k v e) (cleared_kept n a k v e) (unmarked n.links (a / 8) (touched a k) v e) (word_related r v)
  cleared_by {m = m} {n = n} a k d f r v true e =
      plain_word (marked n.links (a / 8) (touched a k) v e) (λ j lt.
      let t = touches_whole a k v j d f lt e in
      cleared_byte m a k v j t ∙ sym (cleared_byte n a k v j t))

  pub cleared_related : {m n : Memory} → (from len : ℕ) → from % 8 ≡ 0 → len % 8 ≡ 0 → MemoriesRelated p c m n → MemoriesRelated p c (cleared m from len) (cleared n from len)
  cleared_related from len d f r =
      by_words r.readable r.writable (ap (λ (s : Places). mark s (from / 8) (touched from len) (λ _. false)) r.links)
      (λ v. cleared_by from len d f r v (within (from / 8) (touched from len) v) refl)

  pub mapped_related : {m n : Memory} → (from len : ℕ) (r w : Bool) → from % 8 ≡ 0 → len % 8 ≡ 0 → MemoriesRelated p c m n → MemoriesRelated p c (mapped m from len r w) (mapped n from len r w)
  mapped_related from len r w d f h = cleared_related from len d f (rights_related from len r w h)

  -- ---- another number of the same link
  pub link_set : IsKept p → IsCodeOf p c → {m n : Memory} → (w number : ℕ) → contains n.links w ≡ true → Lands p c number (number_at n (8 * w)) → MemoriesRelated p c m n → MemoriesRelated p c (with_link m (8 * w) number) n
  link_set kept k {m = m} {n = n} w number e l r =
      let x : Word = record { bytes = bytes_of number; tag = Link } in
      let d : 8 * w / 8 ≡ w = omega arith in
      let here : contains m.links (8 * w / 8) ≡ true = ap (contains m.links) d ∙ ap (λ (s : Places). contains s w) r.links ∙ e in
      let h : WordValues x (word_of n w) = links_alike refl (ap tag_of e) (rw (number_of-bytes_of number (lands_fits p c kept k l)) l) in
      subst (λ y. MemoriesRelated p c y n) (ap (λ u. with_word m u x) (sym d) ∙ link_again m (8 * w) number here)
      (subst (λ y. MemoriesRelated p c (with_word m w x) y) (with_same n w) (with_word_related w x (word_of n w) h r))
