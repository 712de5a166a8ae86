-- What a `PagedMem` stands for, read at each place.
use Rattle.std.proofs.Common.{◌≡◌, ℕ, zero, suc, ◌+◌, ◌-◌, ◌*◌, ◌/◌, ◌%◌, ◌<◌, ◌≤◌, Bool, true, false, cond, ◌&&◌, nat_eq, List, [], ◌++◌, length, get_or, set, replicate, refl, sym, ap, subst, ◌∙◌, inl, inr, ◌⊎◌, arith, get_or-set_same, get_or-set_other}
use Rattle.std.proofs.lemmas.List.{get_or-replicate, length-replicate, get_or_past}
use Rattle.std.proofs.lemmas.Bool.{cases_lt, cases_eq, eq-eqb, ne_eqb, both_ways, true≢false}
use Rattle.finite.specs.Maps.{contains, contains_all, zeros, nowhere, within}
use Rattle.finite.proofs.MapLaws.{at-fill, at-zeros, contains-mark, contains-nowhere, in_range, same_by_words, same_places, fill_word, mark_at}
use Rattle.link_tags.specs.Values.{is_link}
use Rattle.guest_mem.specs.declared.words.Word.{Word}
use Rattle.guest_mem.specs.declared.words.Right.{Right}
use Rattle.guest_mem.specs.declared.words.Right.TheVariants.{Read, Write}
use Rattle.guest_mem.specs.declared.page.Page.{Page}
use Rattle.guest_mem.specs.declared.page.Page.TheVariants as page
use Rattle.guest_mem.specs.Memory.{blank, no_word, byte_at, bytes_from, number_at, word_of, with_word, with_right}
use Rattle.guest_mem.specs.Access.{IsBelowEnd, links_of}
use Rattle.guest_mem.specs.Pages.{page_byte, page_link, page_right, page_rights, page_number, page_links, is_full, IsPageWith, IsSamePage}
use Rattle.guest_mem.specs.Paged.{no_page, page_of, paged_memory, paged_room, paged_links}
use Rattle.guest_mem.proofs.Reading.{same_memory, get_or-bytes_from}
use Rattle.guest_mem.proofs.PageLaws.{page_number_is}
use Rattle.guest_mem.proofs.WordLinks.{links_append, same_links, all_links, none_yet}
use Rattle.guest_mem.proofs.FlatLaws.{is_word}

past : (ps : List Page) (i : ℕ) → length ps ≤ i → page_of ps i ≡ no_page
past ps i h = get_or_past ps i no_page h

empty_page : (n i : ℕ) → page_of (replicate n no_page) i ≡ no_page
empty_page n i = elim (cases_lt i n) [
  | inl below ↦ get_or-replicate n i no_page no_page below
  | inr above ↦ past (replicate n no_page) i (omega (arith, length-replicate n no_page))
]

-- a table of n places for each page, read at any place
tabled : {X : Type 0} (ps : List Page) (n q : ℕ) (f : Page → X) (v : X) → f no_page ≡ v → (q < n * length ps ⊎ length ps ≤ q / n) → cond (within 0 (n * length ps) q) (f (page_of ps (q / n))) v ≡ f (page_of ps (q / n))
tabled ps n q f v e (inl below) = rw (in_range 0 (n * length ps) q (omega arith) (omega arith)) refl
tabled ps n q f v e (inr above) =
    rw (past ps (q / n) above, e)
    (elim (within 0 (n * length ps) q) as (λ t. cond t v v ≡ v) [ true ↦ refl | false ↦ refl ])

in_4096 : (m q : ℕ) → (q < 4096 * m) ⊎ (m ≤ q / 4096)
in_4096 m q = elim (cases_lt q (4096 * m)) as (λ _. (q < 4096 * m) ⊎ (m ≤ q / 4096)) [ inl a ↦ inl a | inr b ↦ inr (omega arith) ]

in_512 : (m q : ℕ) → (q < 512 * m) ⊎ (m ≤ q / 512)
in_512 m q = elim (cases_lt q (512 * m)) as (λ _. (q < 512 * m) ⊎ (m ≤ q / 512)) [ inl a ↦ inl a | inr b ↦ inr (omega arith) ]

byte_here : (ps : List Page) (q : ℕ) → byte_at (paged_memory ps) q ≡ page_byte (page_of ps (q / 4096)) (q % 4096 / 8) (q % 8)
byte_here ps q =
    at-fill zeros 0 (4096 * length ps) (λ q. page_byte (page_of ps (q / 4096)) (q % 4096 / 8) (q % 8)) q
    ∙ ap (cond (within 0 (4096 * length ps) q) (page_byte (page_of ps (q / 4096)) (q % 4096 / 8) (q % 8))) (at-zeros q)
    ∙ tabled ps 4096 q (λ p. page_byte p (q % 4096 / 8) (q % 8)) 0 refl (in_4096 (length ps) q)

-- the byte j of the word w
pub paged_byte : (ps : List Page) (w j : ℕ) → j < 8 → byte_at (paged_memory ps) (8 * w + j) ≡ page_byte (page_of ps (w / 512)) (w % 512) j
paged_byte ps w j h =
    let a : (8 * w + j) / 4096 ≡ w / 512 = omega arith in
    let b : (8 * w + j) % 4096 / 8 ≡ w % 512 = omega arith in
    let c : (8 * w + j) % 8 ≡ j = omega arith in
    byte_here ps (8 * w + j) ∙ (λ i. page_byte (page_of ps (a i)) (b i) (c i))

pub paged_link : (ps : List Page) (w : ℕ) → contains (paged_memory ps).links w ≡ page_link (page_of ps (w / 512)) (w % 512)
paged_link ps w =
    contains-mark nowhere 0 (512 * length ps) (λ w. page_link (page_of ps (w / 512)) (w % 512)) w
    ∙ ap (cond (within 0 (512 * length ps) w) (page_link (page_of ps (w / 512)) (w % 512))) (contains-nowhere w)
    ∙ tabled ps 512 w (λ p. page_link p (w % 512)) false refl (in_512 (length ps) w)

pub paged_full : (ps : List Page) (w : ℕ) → contains (paged_room ps) w ≡ is_full (page_of ps (w / 512))
paged_full ps w =
    contains-mark nowhere 0 (512 * length ps) (λ w. is_full (page_of ps (w / 512))) w
    ∙ ap (cond (within 0 (512 * length ps) w) (is_full (page_of ps (w / 512)))) (contains-nowhere w)
    ∙ tabled ps 512 w is_full false refl (in_512 (length ps) w)

pub paged_right : (right : Right) (ps : List Page) (q : ℕ) → contains (with_right (paged_memory ps) right) q ≡ page_right right (page_of ps (q / 4096)) (q % 4096)
paged_right Read ps q =
    contains-mark nowhere 0 (4096 * length ps) (λ q. page_right Read (page_of ps (q / 4096)) (q % 4096)) q
    ∙ ap (cond (within 0 (4096 * length ps) q) (page_right Read (page_of ps (q / 4096)) (q % 4096))) (contains-nowhere q)
    ∙ tabled ps 4096 q (λ p. page_right Read p (q % 4096)) false refl (in_4096 (length ps) q)
paged_right Write ps q =
    contains-mark nowhere 0 (4096 * length ps) (λ q. page_right Write (page_of ps (q / 4096)) (q % 4096)) q
    ∙ ap (cond (within 0 (4096 * length ps) q) (page_right Write (page_of ps (q / 4096)) (q % 4096))) (contains-nowhere q)
    ∙ tabled ps 4096 q (λ p. page_right Write p (q % 4096)) false refl (in_4096 (length ps) q)

-- pages that are read alike make the same memory
pub same_paged : (ps qs : List Page) → ((i : ℕ) → IsSamePage (page_of ps i) (page_of qs i)) → paged_memory qs ≡ paged_memory ps
same_paged ps qs h =
    same_memory (paged_memory qs) (paged_memory ps)
    (same_by_words (paged_memory qs).bytes (paged_memory ps).bytes (λ w j lt. paged_byte qs w j lt ∙ (h (w / 512)).bytes (w % 512) j (omega arith) lt ∙ sym (paged_byte ps w j lt)))
    (λ w. paged_link qs w ∙ (h (w / 512)).links (w % 512) (omega arith) ∙ sym (paged_link ps w))
    (λ q. paged_right Read qs q ∙ (h (q / 4096)).rights Read (q % 4096) (omega arith) ∙ sym (paged_right Read ps q))
    (λ q. paged_right Write qs q ∙ (h (q / 4096)).rights Write (q % 4096) (omega arith) ∙ sym (paged_right Write ps q))

pub as_it_is : (p : Page) → IsSamePage p p
as_it_is p = record { bytes = λ v j a b. refl; links = λ v a. refl; rights = λ right j a. refl }

-- the table with another page at i
pub set_page : (ps : List Page) (i n : ℕ) (p : Page) → i < length ps → page_of (set ps i p) n ≡ cond (nat_eq n i) p (page_of ps n)
set_page ps i n p h =
    elim (cases_eq n i) [
      | inl same ↦ rw (same, get_or-set_same) (rw (eq-eqb i i refl) refl)
      | inr other ↦ rw (get_or-set_other, ne_eqb n i other) refl
    ]

-- a property of each page, after one has been set
pub each_set : (P : ℕ → Page → Type 0) (ps : List Page) (i : ℕ) (p : Page) → i < length ps → P i p → ((n : ℕ) → (n ≡ i → ⊥) → P n (page_of ps n)) → (n : ℕ) → P n (page_of (set ps i p) n)
each_set P ps i p h here there n = elim (cases_eq n i) [
  | inl same ↦ subst (P n) (sym (set_page ps i n p h ∙ rw (eq-eqb n i same) refl)) (subst (λ (k : ℕ). P k p) (sym same) here)
  | inr other ↦ subst (P n) (sym (set_page ps i n p h ∙ rw (ne_eqb n i other) refl)) (there n other)
]

pub same_trans : (p q r : Page) → IsSamePage p q → IsSamePage q r → IsSamePage p r
same_trans p q r a b = record {
  bytes = λ v j f lt. b.bytes v j f lt ∙ a.bytes v j f lt;
  links = λ v f. b.links v f ∙ a.links v f;
  rights = λ right j lt. b.rights right j lt ∙ a.rights right j lt;
}

-- each page is read alike, also after one has been made another that is
pub each_same : (ps qs : List Page) (i : ℕ) (p : Page) → i < length qs → ((n : ℕ) → IsSamePage (page_of ps n) (page_of qs n)) → IsSamePage (page_of qs i) p → (n : ℕ) → IsSamePage (page_of ps n) (page_of (set qs i p) n)
each_same ps qs i p h all is = each_set (λ n q. IsSamePage (page_of ps n) q) qs i p h (same_trans (page_of ps i) (page_of qs i) p (all i) is) (λ n _. all n)

-- a reading f of page n, where page i has been changed
pub set_read : {X : Type 0} (f : Page → X) (ps : List Page) (i n : ℕ) (p : Page) (b : Bool) (y : X) → i < length ps → (n ≡ i → f p ≡ cond b y (f (page_of ps i))) → ((n ≡ i → ⊥) → b ≡ false) → f (page_of (set ps i p) n) ≡ cond b y (f (page_of ps n))
set_read f ps i n p b y h here there =
    ap f (set_page ps i n p h)
    ∙ elim (cases_eq n i) [
      | inl same ↦ rw (eq-eqb n i same) (here same ∙ ap (λ m. cond b y (f (page_of ps m))) (sym same))
      | inr other ↦ rw (ne_eqb n i other, there other) refl
    ]

one_word : (v w : ℕ) → v / 512 ≡ w / 512 → nat_eq (v % 512) (w % 512) ≡ nat_eq v w
one_word v w e = elim (cases_eq (v % 512) (w % 512)) [
  | inl same ↦ eq-eqb (v % 512) (w % 512) same ∙ sym (eq-eqb v w (omega arith))
  | inr other ↦ ne_eqb (v % 512) (w % 512) other ∙ sym (ne_eqb v w (λ (s : v ≡ w). other (ap (λ m. m % 512) s)))
]

kept_right : (right : Right) (ps : List Page) (w : ℕ) (p : Page) (x : Word) → w / 512 < length ps → IsPageWith (page_of ps (w / 512)) (w % 512) x p → (q : ℕ) → contains (with_right (paged_memory (set ps (w / 512) p)) right) q ≡ contains (with_right (paged_memory ps) right) q
kept_right right ps w p x h is q =
    paged_right right (set ps (w / 512) p) q
    ∙ set_read (λ t. page_right right t (q % 4096)) ps (w / 512) (q / 4096) p false true h (λ _. is.rights right (q % 4096) (omega arith)) (λ _. refl)
    ∙ sym (paged_right right ps q)

-- another page that has another word
pub paged_set : (ps : List Page) (w : ℕ) (p : Page) (x : Word) → w / 512 < length ps → IsPageWith (page_of ps (w / 512)) (w % 512) x p → paged_memory (set ps (w / 512) p) ≡ with_word (paged_memory ps) w x
paged_set ps w p x h is =
    let i = w / 512 in
    let qs = set ps i p in
    same_memory (paged_memory qs) (with_word (paged_memory ps) w x)
    (same_by_words (paged_memory qs).bytes (with_word (paged_memory ps) w x).bytes (λ v j lt.
    let n = v / 512 in
    paged_byte qs v j lt
    ∙ set_read (λ t. page_byte t (v % 512) j) ps i n p (nat_eq v w) (get_or x.bytes j 0) h
    (λ (s : n ≡ i). is.bytes (v % 512) j (omega arith) lt ∙ ap (λ t. cond t (get_or x.bytes j 0) (page_byte (page_of ps i) (v % 512) j)) (one_word v w s))
    (λ (d : n ≡ i → ⊥). ne_eqb v w (λ (e : v ≡ w). d (ap (λ m. m / 512) e)))
    ∙ ap (cond (nat_eq v w) (get_or x.bytes j 0)) (sym (paged_byte ps v j lt))
    ∙ sym (fill_word (paged_memory ps).bytes w v j (λ k. get_or x.bytes k 0) lt)))
    (λ v.
    let n = v / 512 in
    paged_link qs v
    ∙ set_read (λ t. page_link t (v % 512)) ps i n p (nat_eq v w) (is_link x.tag) h
    (λ (s : n ≡ i). is.links (v % 512) (omega arith) ∙ ap (λ t. cond t (is_link x.tag) (page_link (page_of ps i) (v % 512))) (one_word v w s))
    (λ (d : n ≡ i → ⊥). ne_eqb v w (λ (e : v ≡ w). d (ap (λ m. m / 512) e)))
    ∙ ap (cond (nat_eq v w) (is_link x.tag)) (sym (paged_link ps v))
    ∙ sym (mark_at (paged_memory ps).links w v (is_link x.tag)))
    (kept_right Read ps w p x h is)
    (kept_right Write ps w p x h is)

-- a word as a page has it
pub paged_word : (ps : List Page) (w : ℕ) (x : Word) (p : Page) → p ≡ page_of ps (w / 512) → length x.bytes ≡ 8 → ((j : ℕ) → j < 8 → get_or x.bytes j 0 ≡ page_byte p (w % 512) j) → is_link x.tag ≡ page_link p (w % 512) → x ≡ word_of (paged_memory ps) w
paged_word ps w x p e full b t = is_word (paged_memory ps) w x full
    (λ j lt. paged_byte ps w j lt ∙ ap (λ (q : Page). page_byte q (w % 512) j) (sym e) ∙ sym (b j lt))
    (paged_link ps w ∙ ap (λ (q : Page). page_link q (w % 512)) (sym e) ∙ sym t)

pub paged_absent : (ps : List Page) (w : ℕ) → length ps ≤ w / 512 → no_word ≡ word_of (paged_memory ps) w
paged_absent ps w h = paged_word ps w no_word no_page (sym (past ps (w / 512) h)) refl (λ j lt. get_or-replicate 8 j 0 0 lt) refl

-- a new table
pub blank_pages : (n : ℕ) → paged_memory (replicate n no_page) ≡ blank
blank_pages n =
    let ps : List Page = replicate n no_page in
    let e = λ (i : ℕ). empty_page n i in
    same_memory (paged_memory ps) blank
    (λ q. byte_here ps q ∙ ap (λ (t : Page). page_byte t (q % 4096 / 8) (q % 8)) (e (q / 4096)) ∙ sym (at-zeros q))
    (λ w. paged_link ps w ∙ ap (λ (t : Page). page_link t (w % 512)) (e (w / 512)) ∙ sym (contains-nowhere w))
    (λ q. paged_right Read ps q ∙ ap (λ (t : Page). page_right Read t (q % 4096)) (e (q / 4096)) ∙ sym (contains-nowhere q))
    (λ q. paged_right Write ps q ∙ ap (λ (t : Page). page_right Write t (q % 4096)) (e (q / 4096)) ∙ sym (contains-nowhere q))

pub blank_room : (n : ℕ) → paged_room (replicate n no_page) ≡ nowhere
blank_room n = same_places (paged_room (replicate n no_page)) nowhere (λ w. paged_full (replicate n no_page) w ∙ ap is_full (empty_page n (w / 512)) ∙ sym (contains-nowhere w))

-- ---- room
pub paged_kept : (ps : List Page) (i : ℕ) (p : Page) → i < length ps → (is_full (page_of ps i) ≡ true → is_full p ≡ true) → (w : ℕ) → contains (paged_room ps) w ≡ true → contains (paged_room (set ps i p)) w ≡ true
paged_kept ps i p h f w had =
    paged_full (set ps i p) w ∙ ap is_full (set_page ps i (w / 512) p h)
    ∙ elim (cases_eq (w / 512) i) as (λ _. is_full (cond (nat_eq (w / 512) i) p (page_of ps (w / 512))) ≡ true) [
      | inl same ↦ rw (eq-eqb (w / 512) i same) (f (ap (λ (n : ℕ). is_full (page_of ps n)) (sym same) ∙ sym (paged_full ps w) ∙ had))
      | inr other ↦ rw (ne_eqb (w / 512) i other) (sym (paged_full ps w) ∙ had)
    ]

pub paged_made : (ps : List Page) (w : ℕ) (p : Page) → w / 512 < length ps → is_full p ≡ true → contains (paged_room (set ps (w / 512) p)) w ≡ true
paged_made ps w p h f = paged_full (set ps (w / 512) p) w ∙ ap is_full (set_page ps (w / 512) (w / 512) p h) ∙ rw (eq-eqb (w / 512) (w / 512) refl) f

pub linked_page : (p : Page) (k : ℕ) → page_link p k ≡ true → is_full p ≡ true
linked_page (page.Zero r) k e = e
linked_page (page.Full f) k e = refl

bare_byte : (p : Page) (k j : ℕ) → is_full p ≡ false → 0 ≡ page_byte p k j
bare_byte (page.Zero r) k j e = refl
bare_byte (page.Full f) k j e = absurd (true≢false e)

bare_link : (p : Page) (k : ℕ) → is_full p ≡ false → false ≡ page_link p k
bare_link (page.Zero r) k e = refl
bare_link (page.Full f) k e = absurd (true≢false e)

pub paged_bare : (ps : List Page) (w : ℕ) → is_full (page_of ps (w / 512)) ≡ false → no_word ≡ word_of (paged_memory ps) w
paged_bare ps w f =
    let p = page_of ps (w / 512) in
    paged_word ps w no_word p refl refl
    (λ j lt. get_or-replicate 8 j 0 0 lt ∙ bare_byte p (w % 512) j f)
    (bare_link p (w % 512) f)

-- ---- what lies below the end of guest addresses
not_past : (ps : List Page) (i : ℕ) (f : Page → Bool) → length ps ≡ 65536 → f no_page ≡ false → f (page_of ps i) ≡ true → i < 65536
not_past ps i f l e h = elim (cases_lt i 65536) [
  | inl below ↦ below
  | inr above ↦ absurd (both_ways (f (page_of ps i)) (ap f (past ps i (omega arith)) ∙ e) h)
]

pub rights_below : (ps : List Page) (right : Right) → length ps ≡ 65536 → IsBelowEnd (with_right (paged_memory ps) right)
rights_below ps right l q e =
    let h = not_past ps (q / 4096) (λ p. page_right right p (q % 4096)) l (none right) (sym (paged_right right ps q) ∙ e) in
    omega arith
  where
    none : (right : Right) → page_right right no_page (q % 4096) ≡ false
    none Read = refl
    none Write = refl

pub links_below : (ps : List Page) → length ps ≡ 65536 → (w : ℕ) → contains (paged_memory ps).links w ≡ true → w < 0x0200_0000
links_below ps l w e =
    let h = not_past ps (w / 512) (λ p. page_link p (w % 512)) l refl (sym (paged_link ps w) ∙ e) in
    omega arith

pub room_below : (ps : List Page) → length ps ≡ 65536 → (w : ℕ) → contains (paged_room ps) w ≡ true → w < 0x0200_0000
room_below ps l w e =
    let h = not_past ps (w / 512) is_full l refl (sym (paged_full ps w) ∙ e) in
    omega arith

-- ---- rights of some bytes of one page
pub paged_rights : (right : Right) (ps : List Page) (q n : ℕ) → q % 8 + n ≤ 8 → page_rights right (page_of ps (q / 4096)) (q % 4096) n ≡ contains_all (with_right (paged_memory ps) right) q n
unfolding page_rights contains_all
paged_rights right ps q zero h = refl
paged_rights right ps q (suc n) h =
    let a : q / 4096 ≡ (q + n) / 4096 = omega arith in
    let b : q % 4096 + n ≡ (q + n) % 4096 = omega arith in
    let last : page_right right (page_of ps (q / 4096)) (q % 4096 + n) ≡ contains (with_right (paged_memory ps) right) (q + n) =
    (λ i. page_right right (page_of ps (a i)) (b i)) ∙ sym (paged_right right ps (q + n)) in
    let rest = paged_rights right ps q n (omega arith) in
    λ i. rest i && last i

-- one page made another that is read alike
pub same_but : (ps : List Page) (i : ℕ) (p : Page) → i < length ps → IsSamePage (page_of ps i) p → paged_memory (set ps i p) ≡ paged_memory ps
same_but ps i p h is = same_paged ps (set ps i p) (each_set (λ n q. IsSamePage (page_of ps n) q) ps i p h is (λ n _. as_it_is (page_of ps n)))

-- ---- links
paged_number : (ps : List Page) (w : ℕ) → page_number (page_of ps (w / 512)) (w % 512) ≡ number_at (paged_memory ps) (8 * w)
paged_number ps w = page_number_is (page_of ps (w / 512)) (w % 512) (bytes_from (byte_at (paged_memory ps)) (8 * w) 8) (λ j lt. get_or-bytes_from (byte_at (paged_memory ps)) (8 * w) 8 j lt ∙ paged_byte ps w j lt)

pub paged_links_are : (ps : List Page) → length ps ≡ 65536 → paged_links ps 0 0x0200_0000 ≡ links_of (paged_memory ps)
paged_links_are ps l =
    let m = paged_memory ps in
    same_links (λ v. page_link (page_of ps (v / 512)) (v % 512)) (contains m.links) (λ v. page_number (page_of ps (v / 512)) (v % 512)) (λ v. number_at m (8 * v)) 0 0x0200_0000
    (λ v a b. sym (paged_link ps v)) (λ v a b. paged_number ps v)
    ∙ all_links m 0x0200_0000 (links_below ps l)

-- the links of one more page
pub links_more : (ps : List Page) (i : ℕ) (p : Page) (xs : List (ℕ × ℕ)) → p ≡ page_of ps i → xs ≡ paged_links ps 0 (512 * i) → xs ++ page_links p (512 * i) (512 * i) 512 ≡ paged_links ps 0 (512 * (i + 1))
links_more ps i p xs e h =
    let link : ℕ → Bool = λ v. page_link (page_of ps (v / 512)) (v % 512) in
    let number : ℕ → ℕ = λ v. page_number (page_of ps (v / 512)) (v % 512) in
    let a : 0 + 512 * i ≡ 512 * i = omega arith in
    let b : 512 * (i + 1) ≡ 512 * i + 512 = omega arith in
    let here : page_links p (512 * i) (512 * i) 512 ≡ paged_links ps (512 * i) 512 =
    ap (λ (q : Page). page_links q (512 * i) (512 * i) 512) e
    ∙ same_links (λ v. page_link (page_of ps i) (v - 512 * i)) link (λ v. page_number (page_of ps i) (v - 512 * i)) number (512 * i) 512
    (λ v x y. (let d : i ≡ v / 512 = omega arith in let r : v - 512 * i ≡ v % 512 = omega arith in λ k. page_link (page_of ps (d k)) (r k)))
    (λ v x y. (let d : i ≡ v / 512 = omega arith in let r : v - 512 * i ≡ v % 512 = omega arith in λ k. page_number (page_of ps (d k)) (r k))) in
    (λ k. h k ++ here k)
    ∙ sym (ap (paged_links ps 0) b ∙ links_append link number 0 (512 * i) 512 ∙ ap (λ (w : ℕ). paged_links ps 0 (512 * i) ++ paged_links ps w 512) a)

pub links_none : (ps : List Page) (xs : List (ℕ × ℕ)) → xs ≡ [] → xs ≡ paged_links ps 0 0
links_none ps xs e = e ∙ sym (none_yet (λ v. page_link (page_of ps (v / 512)) (v % 512)) (λ v. page_number (page_of ps (v / 512)) (v % 512)) 0)
