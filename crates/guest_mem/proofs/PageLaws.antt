-- What the entry of a page stands for.
use Rattle.std.proofs.Common.{◌≡◌, ℕ, zero, suc, ◌+◌, ◌-◌, ◌*◌, ◌/◌, ◌<◌, ◌≤◌, Bool, true, false, cond, ◌&&◌, nat_eq, List, get_or, refl, sym, ap, subst, ◌∙◌, inl, inr, arith}
use Rattle.std.specs.Prelude.{Box}
use Rattle.std.proofs.Common.{Global}
use Rattle.guest_mem.specs.declared.words.Right.{Right}
use Rattle.guest_mem.specs.declared.words.Right.TheVariants.{Read, Write}
use Rattle.guest_mem.specs.declared.page.Rights.{Rights}
use Rattle.guest_mem.specs.declared.page.Full.{Full}
use Rattle.guest_mem.specs.declared.page.Page.{Page}
use Rattle.guest_mem.specs.declared.page.Page.TheVariants as page
use Rattle.guest_mem.specs.Bits.{bit_in, all_bits_in}
use Rattle.std.proofs.Common.{[], ◌∷◌, ◌++◌, ◌%◌, append_assoc, append-nil}
use Rattle.std.specs.Int.{bit_at}
use Rattle.std.proofs.lemmas.Nat.Bits.{bit_at-zero}
use Rattle.std.proofs.lemmas.Bool.{cases_eq, eq-eqb, ne_eqb, true≢false}
use Rattle.finite.specs.Maps.{within}
use Rattle.link_tags.specs.Values.{is_link}
use Rattle.link_tags.specs.declared.value.Tag.TheVariants.{Plain}
use Rattle.guest_mem.specs.declared.words.Word.{Word}
use Rattle.guest_mem.specs.Memory.{number_of, bytes_of}
use Rattle.guest_mem.specs.Pages.{right_of, full_byte, full_right, page_byte, page_link, page_right, page_rights, page_number, is_full, full_links, page_links, IsFullChanged, IsPageWith, IsSamePage}
use Rattle.guest_mem.proofs.Reading.{same_number}
use Rattle.guest_mem.proofs.WordLinks.{links_append, no_links, one_link, not_link, none_yet}
use Rattle.guest_mem.proofs.PutLaws.{done, in_done, same_done, not_yet, none_done, ends, inside}

pub zero_rights : (right : Right) (r : Rights) (j n : ℕ) → 0 < n → page_rights right (page.Zero r) j n ≡ right_of right r
unfolding page_rights
zero_rights right r j zero h = absurd (omega arith)
zero_rights right r j (suc zero) h = refl
zero_rights right r j (suc (suc n)) h = ap (λ b. b && right_of right r) (zero_rights right r j (suc n) (omega arith)) ∙ twice (right_of right r)
  where
    twice : (b : Bool) → (b && b) ≡ b
    twice true = refl
    twice false = refl

pub read_rights : (b : Box Full Global) (j n : ℕ) → all_bits_in b.value.read j n ≡ page_rights Read (page.Full b) j n
unfolding page_rights all_bits_in
read_rights b j zero = refl
read_rights b j (suc n) = ap (λ t. t && bit_in b.value.read (j + n)) (read_rights b j n)

pub write_rights : (b : Box Full Global) (j n : ℕ) → all_bits_in b.value.write j n ≡ page_rights Write (page.Full b) j n
unfolding page_rights all_bits_in
write_rights b j zero = refl
write_rights b j (suc n) = ap (λ t. t && bit_in b.value.write (j + n)) (write_rights b j n)

pub full_rights : (right : Right) (p : Page) (b : Box Full Global) (f : Full) (j n : ℕ) (x : Bool) → p ≡ page.Full b → f ≡ b.value → (right ≡ Read → x ≡ all_bits_in f.read j n) → (right ≡ Write → x ≡ all_bits_in f.write j n) → x ≡ page_rights right p j n
full_rights Read p b f j n x e v r w = r refl ∙ ap (λ (g : Full). all_bits_in g.read j n) v ∙ read_rights b j n ∙ ap (λ (q : Page). page_rights Read q j n) (sym e)
full_rights Write p b f j n x e v r w = w refl ∙ ap (λ (g : Full). all_bits_in g.write j n) v ∙ write_rights b j n ∙ ap (λ (q : Page). page_rights Write q j n) (sym e)

pub zero_bytes : (j : ℕ) → j < 8 → get_or (bytes_of 0) j 0 ≡ 0
unfolding bytes_of
zero_bytes zero h = refl
zero_bytes (suc zero) h = refl
zero_bytes (suc (suc zero)) h = refl
zero_bytes (suc (suc (suc zero))) h = refl
zero_bytes (suc (suc (suc (suc zero)))) h = refl
zero_bytes (suc (suc (suc (suc (suc zero))))) h = refl
zero_bytes (suc (suc (suc (suc (suc (suc zero)))))) h = refl
zero_bytes (suc (suc (suc (suc (suc (suc (suc zero))))))) h = refl
zero_bytes (suc (suc (suc (suc (suc (suc (suc (suc j)))))))) h = absurd (omega arith)

-- a full page of zero words
pub blank_byte : (f : Full) (k j : ℕ) → ((k : ℕ) → get_or f.words k 0 ≡ 0) → j < 8 → full_byte f k j ≡ 0
blank_byte f k j h lt = ap (λ n. get_or (bytes_of n) j 0) (h k) ∙ zero_bytes j lt

-- ---- clearing
-- new is old, but the n bytes from lo are zero in the words up to cur
pub record Clears (lo n cur : ℕ) (old new : Full) : Type 0 where
  pub bytes : (v j : ℕ) → v < 512 → j < 8 → full_byte new v j ≡ cond (done (lo / 8) cur v && within lo n (8 * v + j)) 0 (full_byte old v j)
  pub links : (v : ℕ) → v < 512 → bit_in new.links v ≡ cond (done (lo / 8) cur v) false (bit_in old.links v)
  pub rights : (right : Right) (j : ℕ) → full_right right new j ≡ full_right right old j

pub clears_none : (lo n : ℕ) (f : Full) → Clears lo n (lo / 8) f f
clears_none lo n f = record {
  bytes = λ v j a b. rw (none_done (lo / 8) v) refl;
  links = λ v a. rw (none_done (lo / 8) v) refl;
  rights = λ right j. refl;
}

byte_step : (first cur v x old : ℕ) (w : Bool) → first ≤ cur → x ≡ cond (done first cur v && w) 0 old → cond (nat_eq v cur) (cond w 0 x) x ≡ cond (done first (cur + 1) v && w) 0 old
byte_step first cur v x old w h e =
    elim (cases_eq v cur) [
      | inl same ↦
          let is : x ≡ old = e ∙ ap (λ t. cond (t && w) 0 old) (not_yet first cur v (omega arith)) in
          rw (eq-eqb v cur same, in_done first cur v h same, is) refl
      | inr other ↦ rw (ne_eqb v cur other, same_done first cur v other) e
    ]

link_step : (first cur v : ℕ) (x old : Bool) → first ≤ cur → x ≡ cond (done first cur v) false old → cond (nat_eq v cur) false x ≡ cond (done first (cur + 1) v) false old
link_step first cur v x old h e =
    elim (cases_eq v cur) [
      | inl same ↦ rw (eq-eqb v cur same, in_done first cur v h same) refl
      | inr other ↦ rw (ne_eqb v cur other, same_done first cur v other) e
    ]

-- one more word
pub clears_more : (lo n cur : ℕ) (old mid new : Full) (x : Word) → lo / 8 ≤ cur → Clears lo n cur old mid
    → ((j : ℕ) → j < 8 → get_or x.bytes j 0 ≡ cond (within lo n (8 * cur + j)) 0 (full_byte mid cur j))
    → x.tag ≡ Plain
    → ((v j : ℕ) → j < 8 → full_byte new v j ≡ cond (nat_eq v cur) (get_or x.bytes j 0) (full_byte mid v j))
    → ((v : ℕ) → bit_in new.links v ≡ cond (nat_eq v cur) (is_link x.tag) (bit_in mid.links v))
    → ((right : Right) (j : ℕ) → full_right right new j ≡ full_right right mid j)
    → Clears lo n (cur + 1) old new
clears_more lo n cur old mid new x h c xs plain b l r = record {
  bytes = λ v j fits lt.
      b v j lt
      ∙ here v j lt
      ∙ byte_step (lo / 8) cur v (full_byte mid v j) (full_byte old v j) (within lo n (8 * v + j)) h (c.bytes v j fits lt);
  links = λ v fits.
      l v ∙ ap (λ t. cond (nat_eq v cur) (is_link t) (bit_in mid.links v)) plain
      ∙ link_step (lo / 8) cur v (bit_in mid.links v) (bit_in old.links v) h (c.links v fits);
  rights = λ right j. r right j ∙ c.rights right j;
}
  where
    here : (v j : ℕ) → j < 8 → cond (nat_eq v cur) (get_or x.bytes j 0) (full_byte mid v j) ≡ cond (nat_eq v cur) (cond (within lo n (8 * v + j)) 0 (full_byte mid v j)) (full_byte mid v j)
    here v j lt = elim (cases_eq v cur) [
      | inl same ↦ rw (eq-eqb v cur same) (xs j lt ∙ ap (λ u. cond (within lo n (8 * u + j)) 0 (full_byte mid u j)) (sym same))
      | inr other ↦ rw (ne_eqb v cur other) refl
    ]

both_or_last : (d w : Bool) → (w ≡ true → d ≡ true) → (d && w) ≡ w
both_or_last true w h = refl
both_or_last false true h = h refl
both_or_last false false h = refl

pub clears_all : (lo n cur : ℕ) (old new : Full) → 0 < n → cur ≡ (lo + n + 7) / 8 → Clears lo n cur old new → IsFullChanged true lo n old new
clears_all lo n cur old new some e c = record {
  bytes = λ v j fits lt.
      c.bytes v j fits lt
      ∙ ap (λ u. cond (done (lo / 8) u v && within lo n (8 * v + j)) 0 (full_byte old v j)) e
      ∙ ap (λ t. cond t 0 (full_byte old v j)) (both_or_last (done (lo / 8) ((lo + n + 7) / 8) v) (within lo n (8 * v + j)) (inside lo n v j lt));
  links = λ v fits.
      c.links v fits
      ∙ ap (λ u. cond (done (lo / 8) u v) false (bit_in old.links v)) e
      ∙ ap (λ t. cond t false (bit_in old.links v)) (sym (ends lo n v some));
}

-- ---- a page made full
pub blank_same : (p : Page) (r : Rights) (b : Box Full Global) (f : Full) → p ≡ page.Zero r → b.value ≡ f → ((k : ℕ) → get_or f.words k 0 ≡ 0) → ((k : ℕ) → bit_in f.links k ≡ false)
    → ((right : Right) (j : ℕ) → j < 4096 → full_right right f j ≡ right_of right r) → IsSamePage p (page.Full b)
blank_same p r b f e v words links rights = subst (λ (q : Page). IsSamePage q (page.Full b)) (sym e) (record {
  bytes = λ k j fits lt. ap (λ (g : Full). full_byte g k j) v ∙ blank_byte f k j words lt;
  links = λ k fits. ap (λ (g : Full). bit_in g.links k) v ∙ links k;
  rights = λ right j lt. ap (λ (g : Full). full_right right g j) v ∙ rights right j lt;
})

-- a page that is made full with a word
pub first_word : (p : Page) (k : ℕ) (x : Word) (r : Rights) (f : Full) (new : Page) → p ≡ page.Zero r → ((k : ℕ) → get_or f.words k 0 ≡ 0) → ((k : ℕ) → bit_in f.links k ≡ false)
    → ((right : Right) (j : ℕ) → j < 4096 → full_right right f j ≡ right_of right r)
    → ((v j : ℕ) → j < 8 → page_byte new v j ≡ cond (nat_eq v k) (get_or x.bytes j 0) (full_byte f v j))
    → ((v : ℕ) → page_link new v ≡ cond (nat_eq v k) (is_link x.tag) (bit_in f.links v))
    → ((right : Right) (j : ℕ) → page_right right new j ≡ full_right right f j)
    → IsPageWith p k x new
first_word p k x r f new e words links rights b l t = subst (λ (q : Page). IsPageWith q k x new) (sym e) (record {
  bytes = λ v j fits lt. b v j lt ∙ ap (cond (nat_eq v k) (get_or x.bytes j 0)) (blank_byte f v j words lt);
  links = λ v fits. l v ∙ ap (cond (nat_eq v k) (is_link x.tag)) (links v);
  rights = λ right j lt. t right j ∙ rights right j lt;
})

zero_word : (p : Page) (k : ℕ) (x : Word) (r : Rights) → page.Zero r ≡ p → ((j : ℕ) → j < 8 → get_or x.bytes j 0 ≡ 0) → is_link x.tag ≡ false → IsPageWith p k x p
zero_word p k x r e b t = subst (λ (q : Page). IsPageWith q k x q) e (record {
  bytes = λ v j fits lt. sym (ap (λ y. cond (nat_eq v k) y 0) (b j lt) ∙ same (nat_eq v k) 0);
  links = λ v fits. sym (ap (λ y. cond (nat_eq v k) y false) t ∙ same (nat_eq v k) false);
  rights = λ right j lt. refl;
})
  where
    same : {X : Type 0} (b : Bool) (y : X) → cond b y y ≡ y
    same true y = refl
    same false y = refl

-- a word that is zero and Plain is what a page that isn't full has
pub zero_kept : (p : Page) (k : ℕ) (x : Word) → is_full p ≡ false → ((j : ℕ) → j < 8 → get_or x.bytes j 0 ≡ 0) → is_link x.tag ≡ false → IsPageWith p k x p
zero_kept (page.Zero r) k x e b t = zero_word (page.Zero r) k x r refl b t
zero_kept (page.Full f) k x e b t = absurd (true≢false e)

-- ---- links
zero_row : (xs : List ℕ) (row k : ℕ) → get_or xs row 0 ≡ 0 → k / 64 ≡ row → bit_in xs k ≡ false
unfolding bit_in
zero_row xs row k z e = ap (λ x. nat_eq (bit_at x (k % 64)) 1) (ap (λ (r : ℕ). get_or xs r 0) e ∙ z) ∙ ap (λ b. nat_eq b 1) (bit_at-zero (k % 64))

abbrev number_in : Full → ℕ → ℕ
number_in f k = number_of (bytes_of (get_or f.words k 0))

run : (f : Full) (first lo k : ℕ) → lo ≤ k → full_links f first (first + lo) (k + 1 - lo) ≡ full_links f first (first + lo) (k - lo) ++ full_links f first (first + k) 1
run f first lo k h =
    let a : k + 1 - lo ≡ k - lo + 1 = omega arith in
    let b : first + lo + (k - lo) ≡ first + k = omega arith in
    ap (full_links f first (first + lo)) a
    ∙ links_append (λ v. bit_in f.links (v - first)) (λ v. number_in f (v - first)) (first + lo) (k - lo) 1
    ∙ ap (λ (v : ℕ). full_links f first (first + lo) (k - lo) ++ full_links f first v 1) b

-- one more word of a row, which is a link
pub row_more : (f : Full) (first lo k n : ℕ) (xs ys : List (ℕ × ℕ)) → lo ≤ k → ys ≡ xs ++ full_links f first (first + lo) (k - lo) → bit_in f.links k ≡ true → n ≡ number_in f k
    → ys ++ (8 * (first + k), n) ∷ [] ≡ xs ++ full_links f first (first + lo) (k + 1 - lo)
row_more f first lo k n xs ys h e on is =
    let d : first + k - first ≡ k = omega arith in
    let one : full_links f first (first + k) 1 ≡ (8 * (first + k), n) ∷ [] =
    one_link (λ v. bit_in f.links (v - first)) (λ v. number_in f (v - first)) (first + k) (ap (bit_in f.links) d ∙ on)
    ∙ ap (λ (x : ℕ). (8 * (first + k), x) ∷ []) (ap (number_in f) d ∙ sym is) in
    ap (λ (zs : List (ℕ × ℕ)). zs ++ (8 * (first + k), n) ∷ []) e
    ∙ append_assoc xs (full_links f first (first + lo) (k - lo)) ((8 * (first + k), n) ∷ [])
    ∙ ap (λ (zs : List (ℕ × ℕ)). xs ++ (full_links f first (first + lo) (k - lo) ++ zs)) (sym one)
    ∙ ap (λ (zs : List (ℕ × ℕ)). xs ++ zs) (sym (run f first lo k h))

-- one more word of a row, which isn't a link
pub row_skip : (f : Full) (first lo k : ℕ) (xs ys : List (ℕ × ℕ)) → lo ≤ k → ys ≡ xs ++ full_links f first (first + lo) (k - lo) → bit_in f.links k ≡ false
    → ys ≡ xs ++ full_links f first (first + lo) (k + 1 - lo)
row_skip f first lo k xs ys h e off =
    let d : first + k - first ≡ k = omega arith in
    let none : full_links f first (first + k) 1 ≡ [] = not_link (λ v. bit_in f.links (v - first)) (λ v. number_in f (v - first)) (first + k) (ap (bit_in f.links) d ∙ off) in
    e
    ∙ ap (λ (zs : List (ℕ × ℕ)). xs ++ zs) (sym (run f first lo k h ∙ ap (λ (zs : List (ℕ × ℕ)). full_links f first (first + lo) (k - lo) ++ zs) none ∙ append-nil _))

pub row_none : (f : Full) (first lo k : ℕ) (xs : List (ℕ × ℕ)) → k ≡ lo → xs ≡ xs ++ full_links f first (first + lo) (k - lo)
row_none f first lo k xs e =
    let z : k - lo ≡ 0 = omega arith in
    sym (ap (λ (n : ℕ). xs ++ full_links f first (first + lo) n) z ∙ ap (λ (zs : List (ℕ × ℕ)). xs ++ zs) (none_yet (λ v. bit_in f.links (v - first)) (λ v. number_in f (v - first)) (first + lo)) ∙ append-nil xs)

-- the words of one more row
pub rows_more : (f : Full) (first row : ℕ) (xs ys : List (ℕ × ℕ)) → ys ≡ xs ++ full_links f first first (64 * row) → ys ++ full_links f first (first + 64 * row) 64 ≡ xs ++ full_links f first first (64 * (row + 1))
rows_more f first row xs ys e =
    let a : 64 * (row + 1) ≡ 64 * row + 64 = omega arith in
    ap (λ (zs : List (ℕ × ℕ)). zs ++ full_links f first (first + 64 * row) 64) e
    ∙ append_assoc xs (full_links f first first (64 * row)) (full_links f first (first + 64 * row) 64)
    ∙ ap (λ (zs : List (ℕ × ℕ)). xs ++ zs) (sym (ap (full_links f first first) a ∙ links_append (λ v. bit_in f.links (v - first)) (λ v. number_in f (v - first)) first (64 * row) 64))

pub rows_skip : (f : Full) (first row : ℕ) (xs ys : List (ℕ × ℕ)) → ys ≡ xs ++ full_links f first first (64 * row) → get_or f.links row 0 ≡ 0 → ys ≡ xs ++ full_links f first first (64 * (row + 1))
rows_skip f first row xs ys e z =
    let none : full_links f first (first + 64 * row) 64 ≡ [] = no_links (λ v. bit_in f.links (v - first)) (λ v. number_in f (v - first)) (first + 64 * row) 64 (λ v a b. zero_row f.links row (v - first) z (omega arith)) in
    sym (ap (λ (zs : List (ℕ × ℕ)). ys ++ zs) none ∙ append-nil ys) ∙ rows_more f first row xs ys e

pub page_none : (p : Page) (r : Rights) (first : ℕ) (xs : List (ℕ × ℕ)) → p ≡ page.Zero r → xs ≡ xs ++ page_links p first first 512
page_none p r first xs e = sym (ap (λ (q : Page). xs ++ page_links q first first 512) e ∙ ap (λ (zs : List (ℕ × ℕ)). xs ++ zs) (no_links (λ v. false) (λ v. number_of (bytes_of 0)) first 512 (λ v a b. refl)) ∙ append-nil xs)

pub page_number_is : (p : Page) (k : ℕ) (xs : List ℕ) → ((j : ℕ) → j < 8 → get_or xs j 0 ≡ page_byte p k j) → page_number p k ≡ number_of xs
page_number_is (page.Zero r) k xs h = same_number (bytes_of 0) xs (λ j lt. zero_bytes j lt ∙ sym (h j lt))
page_number_is (page.Full f) k xs h = same_number (bytes_of (get_or f.value.words k 0)) xs (λ j lt. sym (h j lt))

pub rows_none : (f : Full) (first : ℕ) (xs : List (ℕ × ℕ)) → xs ≡ xs ++ full_links f first first 0
rows_none f first xs = sym (ap (λ (zs : List (ℕ × ℕ)). xs ++ zs) (none_yet (λ v. bit_in f.links (v - first)) (λ v. number_in f (v - first)) first) ∙ append-nil xs)
