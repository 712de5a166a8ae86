-- A range of bytes changed page by page.
use Rattle.std.proofs.Common.{◌≡◌, ℕ, ◌+◌, ◌-◌, ◌*◌, ◌/◌, ◌%◌, ◌<◌, ◌≤◌, min, Bool, true, false, cond, ◌&&◌, List, refl, sym, ap, subst, ◌∙◌, inl, inr, arith}
use Rattle.std.proofs.lemmas.Bool.{cases_lt}
use Rattle.std.proofs.lemmas.Bool.Decides.{nat_tests}
use Rattle.finite.specs.Maps.{contains, within}
use Rattle.finite.proofs.MapLaws.{at-fill, contains-mark, out_of_range, same_by_words}
use Rattle.guest_mem.specs.declared.words.Right.{Right}
use Rattle.guest_mem.specs.declared.words.Right.TheVariants.{Read, Write}
use Rattle.guest_mem.specs.declared.page.Rights.{Rights}
use Rattle.guest_mem.specs.declared.page.Page.{Page}
use Rattle.guest_mem.specs.Memory.{Memory, byte_at, with_right}
use Rattle.guest_mem.specs.Access.{touched, cleared, with_rights}
use Rattle.guest_mem.specs.Pages.{right_of, page_byte, page_link, page_right, IsPageChanged}
use Rattle.guest_mem.specs.Paged.{page_of, paged_memory, part_from, part_length, changed}
use Rattle.guest_mem.proofs.Reading.{same_memory}
use Rattle.guest_mem.proofs.PutLaws.{done, ends, mark_none, clear_nothing}
use Rattle.guest_mem.proofs.PagedLaws.{paged_byte, paged_link, paged_right}

not_both : (b : Bool) → (b && false) ≡ false
not_both true = refl
not_both false = refl

-- no bytes of a page
pub changed_none : (cleared : Bool) (lo n : ℕ) (given : Rights) (p : Page) → n ≡ 0 → IsPageChanged cleared lo n given p p
changed_none cleared lo n given p e = record {
  bytes = λ v j a b. sym (ap (λ t. cond (cleared && t) 0 (page_byte p v j)) (nothing (8 * v + j)) ∙ ap (λ t. cond t 0 (page_byte p v j)) (not_both cleared));
  links = λ v a. sym (ap (λ t. cond (cleared && t) false (page_link p v)) (no_word v) ∙ ap (λ t. cond t false (page_link p v)) (not_both cleared));
  rights = λ right j a. sym (ap (λ t. cond t (right_of right given) (page_right right p j)) (nothing j));
}
  where
    nothing : (q : ℕ) → within lo n q ≡ false
    nothing q = out_of_range lo n q (λ a b. absurd (omega arith))

    no_word : (v : ℕ) → within (lo / 8) (touched lo n) v ≡ false
    no_word v = ap (λ (k : ℕ). within (lo / 8) (touched lo k) v) e ∙ out_of_range (lo / 8) 0 v (λ a b. absurd (omega arith))

-- the byte p of the page i
byte_there : (a n i p : ℕ) → p < 4096 → within (part_from a i) (part_length a (a + n) i) p ≡ within a n (4096 * i + p)
byte_there a n i p h = grind (arith, nat_tests)

-- the word k of the page i
word_there : (a n i k : ℕ) → 0 < n → k < 512 → within (part_from a i / 8) (touched (part_from a i) (part_length a (a + n) i)) k ≡ within (a / 8) (touched a n) (512 * i + k)
word_there a n i k some h =
    elim (cases_lt 0 (part_length a (a + n) i)) [
      | inl part ↦
          ends (part_from a i) (part_length a (a + n) i) k part
          ∙ same_done (a - 4096 * i) (part_length a (a + n) i) k (omega arith)
          ∙ sym (ends a n (512 * i + k) some)
      | inr none ↦
          let z : part_length a (a + n) i ≡ 0 = omega arith in
          ap (λ (m : ℕ). within (part_from a i / 8) (touched (part_from a i) m) k) z
          ∙ out_of_range (part_from a i / 8) 0 k (λ x y. absurd (omega arith))
          ∙ sym (ends a n (512 * i + k) some ∙ apart (omega arith))
    ]
  where
    same_done : (lo m k : ℕ) → (lo ≡ a - 4096 * i) × (m ≡ min (a + n - 4096 * i) 4096 - lo) × (0 < m) × (k < 512) → done (lo / 8) ((lo + m + 7) / 8) k ≡ done (a / 8) ((a + n + 7) / 8) (512 * i + k)
    same_done lo m k c = grind (arith, nat_tests)

    apart : min (a + n - 4096 * i) 4096 ≤ a - 4096 * i → done (a / 8) ((a + n + 7) / 8) (512 * i + k) ≡ false
    apart c = grind (arith, nat_tests)

-- each page of qs is that of ps with its part changed
abbrev pub AllChanged : Bool → List Page → List Page → ℕ → ℕ → Rights → Type 0
AllChanged cleared ps qs a n given = (i : ℕ) → IsPageChanged cleared (part_from a i) (part_length a (a + n) i) given (page_of ps i) (page_of qs i)

given_right : (right : Right) (cleared : Bool) (ps qs : List Page) (a n : ℕ) (given : Rights) → AllChanged cleared ps qs a n given → (q : ℕ)
    → contains (with_right (paged_memory qs) right) q ≡ cond (within a n q) (right_of right given) (contains (with_right (paged_memory ps) right) q)
given_right right cleared ps qs a n given h q =
    let i = q / 4096 in
    let e : 4096 * i + q % 4096 ≡ q = omega arith in
    paged_right right qs q
    ∙ (h i).rights right (q % 4096) (omega arith)
    ∙ ap (λ t. cond t (right_of right given) (page_right right (page_of ps i) (q % 4096))) (byte_there a n i (q % 4096) (omega arith) ∙ ap (within a n) e)
    ∙ ap (cond (within a n q) (right_of right given)) (sym (paged_right right ps q))

some_byte : (cleared : Bool) (ps qs : List Page) (a n : ℕ) (given : Rights) → AllChanged cleared ps qs a n given → (w j : ℕ) → j < 8
    → byte_at (paged_memory qs) (8 * w + j) ≡ cond (cleared && within a n (8 * w + j)) 0 (byte_at (paged_memory ps) (8 * w + j))
some_byte cleared ps qs a n given h w j lt =
    let i = w / 512 in
    let k = w % 512 in
    let e : 4096 * i + (8 * k + j) ≡ 8 * w + j = omega arith in
    paged_byte qs w j lt
    ∙ (h i).bytes k j (omega arith) lt
    ∙ ap (λ t. cond (cleared && t) 0 (page_byte (page_of ps i) k j)) (byte_there a n i (8 * k + j) (omega arith) ∙ ap (within a n) e)
    ∙ ap (cond (cleared && within a n (8 * w + j)) 0) (sym (paged_byte ps w j lt))

some_link : (cleared : Bool) (ps qs : List Page) (a n : ℕ) (given : Rights) → 0 < n → AllChanged cleared ps qs a n given → (w : ℕ)
    → contains (paged_memory qs).links w ≡ cond (cleared && within (a / 8) (touched a n) w) false (contains (paged_memory ps).links w)
some_link cleared ps qs a n given some h w =
    let i = w / 512 in
    let k = w % 512 in
    let e : 512 * i + k ≡ w = omega arith in
    paged_link qs w
    ∙ (h i).links k (omega arith)
    ∙ ap (λ t. cond (cleared && t) false (page_link (page_of ps i) k)) (word_there a n i k some (omega arith) ∙ ap (within (a / 8) (touched a n)) e)
    ∙ ap (cond (cleared && within (a / 8) (touched a n) w) false) (sym (paged_link ps w))

-- all pages
pub paged_changed : (cleared : Bool) (ps qs : List Page) (a n : ℕ) (given : Rights) → 0 < n → AllChanged cleared ps qs a n given → paged_memory qs ≡ changed cleared (paged_memory ps) a n given
paged_changed true ps qs a n given some h =
    let m = paged_memory ps in
    same_memory (paged_memory qs) (changed true m a n given)
    (same_by_words (paged_memory qs).bytes (changed true m a n given).bytes (λ w j lt. some_byte true ps qs a n given h w j lt ∙ sym (at-fill m.bytes a n (λ _. 0) (8 * w + j))))
    (λ w. some_link true ps qs a n given some h w ∙ sym (contains-mark m.links (a / 8) (touched a n) (λ _. false) w))
    (λ q. given_right Read true ps qs a n given h q ∙ sym (contains-mark m.readable a n (λ _. given.read) q))
    (λ q. given_right Write true ps qs a n given h q ∙ sym (contains-mark m.writable a n (λ _. given.write) q))
paged_changed false ps qs a n given some h =
    let m = paged_memory ps in
    same_memory (paged_memory qs) (changed false m a n given)
    (same_by_words (paged_memory qs).bytes m.bytes (λ w j lt. some_byte false ps qs a n given h w j lt))
    (λ w. some_link false ps qs a n given some h w)
    (λ q. given_right Read false ps qs a n given h q ∙ sym (contains-mark m.readable a n (λ _. given.read) q))
    (λ q. given_right Write false ps qs a n given h q ∙ sym (contains-mark m.writable a n (λ _. given.write) q))

rights_nothing : (m : Memory) (a n : ℕ) (given : Rights) → n ≡ 0 → m ≡ with_rights m a n given.read given.write
rights_nothing m a n given e =
    subst (λ (k : ℕ). m ≡ with_rights m a k given.read given.write) (sym e)
    (let x = sym (mark_none m.readable a (λ _. given.read)) in
    let y = sym (mark_none m.writable a (λ _. given.write)) in
    λ i. record { bytes = m.bytes; links = m.links; readable = x i; writable = y i })

pub changed_nothing : (cleared : Bool) (m : Memory) (a n : ℕ) (given : Rights) → n ≡ 0 → m ≡ changed cleared m a n given
changed_nothing true m a n given e = clear_nothing m a n e ∙ ap (λ x. cleared x a n) (rights_nothing m a n given e)
changed_nothing false m a n given e = rights_nothing m a n given e
