-- What the parts of loading a program make together.
use Rattle.std.proofs.Common.{◌≡◌, ℕ, zero, suc, ◌+◌, ◌-◌, ◌*◌, ◌/◌, ◌≤◌, Bool, true, false, cond, nat_eq, List, length, get_or, refl, sym, ap, subst, ◌∙◌, arith}
use Rattle.std.proofs.lemmas.Bool.{both_ways, eqb-true}
use Rattle.finite.specs.Maps.{Places, contains, contains_all, mark, within}
use Rattle.finite.proofs.MapLaws.{all-none, all-more, contains-mark, in_range, fill_word, same_by_words}
use Rattle.image.specs.declared.ranges.Part.{Part}
use Rattle.image.specs.declared.ranges.Aim.{Aim}
use Rattle.image.specs.Picture.{IsPart}
use Rattle.link_tags.specs.declared.value.Tag.TheVariants.{Link}
use Rattle.guest_mem.specs.Memory.{Memory, byte_at, word_of, with_word}
use Rattle.guest_mem.specs.Access.{mapped, with_rights, HoldsWholeLinks}
use Rattle.guest_mem.proofs.Reading.{same_memory, get_or-bytes_from}
use Rattle.machine.specs.Stack.{stack_start, stack_end, name_at}
use Rattle.machine.specs.Start.{with_bytes, with_part, with_slot}

-- places that were marked are all there
pub all_marked : (s : Places) (a n b k : ℕ) → a ≤ b → b + k ≤ a + n → contains_all (mark s a n (λ _. true)) b k ≡ true
all_marked s a n b zero low high = all-none (mark s a n (λ _. true)) b
all_marked s a n b (suc k) low high =
    let t = mark s a n (λ _. true) in
    let here : contains t (b + k) ≡ true = contains-mark s a n (λ _. true) (b + k) ∙ rw (in_range a n (b + k) (omega arith) (omega arith)) refl in
    let more : k + 1 ≡ suc k = omega arith in
    subst (λ i. contains_all t b i ≡ true) more (all-more t b k (all_marked s a n b k low (omega arith)) here)

cond_again : (b x y z : Bool) → cond b x (cond b y z) ≡ cond b x z
cond_again true x y z = refl
cond_again false x y z = refl

-- of two marks of the same places the later counts
marked_again : (s : Places) (a n : ℕ) (b c : Bool) (q : ℕ) → contains (mark (mark s a n (λ _. b)) a n (λ _. c)) q ≡ contains (mark s a n (λ _. c)) q
marked_again s a n b c q =
    contains-mark (mark s a n (λ _. b)) a n (λ _. c) q
    ∙ ap (cond (within a n q) c) (contains-mark s a n (λ _. b) q)
    ∙ cond_again (within a n q) c b (contains s q)
    ∙ sym (contains-mark s a n (λ _. c) q)

-- rights that are given after the bytes
pub rights_last : (m : Memory) (a n : ℕ) (read write : Bool) (at : ℕ) (bytes : List ℕ) → with_rights (with_bytes (mapped m a n true true) at bytes) a n read write ≡ with_bytes (mapped m a n read write) at bytes
rights_last m a n read write at bytes =
    same_memory (with_rights (with_bytes (mapped m a n true true) at bytes) a n read write) (with_bytes (mapped m a n read write) at bytes)
    (λ q. refl)
    (λ w. refl)
    (λ q. marked_again m.readable a n true read q)
    (λ q. marked_again m.writable a n true write q)

cond_false : (b x : Bool) → x ≡ false → cond b false x ≡ false
cond_false true x e = refl
cond_false false x e = e

none_marked : (s : Places) (lo n : ℕ) → ((w : ℕ) → contains s w ≡ false) → (w : ℕ) → contains (mark s lo n (λ _. false)) w ≡ false
none_marked s lo n none w = contains-mark s lo n (λ _. false) w ∙ cond_false (within lo n w) (contains s w) (none w)

-- a part brings no link
pub part_plain : (p : Part) (m : Memory) → ((w : ℕ) → contains m.links w ≡ false) → (w : ℕ) → contains (with_part p m).links w ≡ false
part_plain p m none = none_marked _ _ _ (none_marked m.links _ _ none)

cond_same : {X : Type 0} (b : Bool) (x y : X) → (b ≡ true → x ≡ y) → cond b x y ≡ y
cond_same true x y h = h refl
cond_same false x y h = refl

-- a word made a link
pub slot_linked : (m : Memory) (s : Aim) → with_word m (s.at / 8) (record { bytes = (word_of m (s.at / 8)).bytes; tag = Link }) ≡ with_slot s m
slot_linked m s =
    let w = s.at / 8 in
    let x = word_of m w in
    same_memory (with_word m w (record { bytes = x.bytes; tag = Link })) (with_slot s m)
    (same_by_words (with_word m w (record { bytes = x.bytes; tag = Link })).bytes m.bytes (λ v j lt.
    fill_word m.bytes w v j (λ k. get_or x.bytes k 0) lt
    ∙ cond_same (nat_eq v w) (get_or x.bytes j 0) (byte_at m (8 * v + j)) (λ e.
    get_or-bytes_from (byte_at m) (8 * w) 8 j lt ∙ ap (λ u. byte_at m (8 * u + j)) (sym (eqb-true v w e)))))
    (λ v. refl)
    (λ q. refl)
    (λ q. refl)

-- where there are no links, none lies partly in a range
pub holds_none : (m : Memory) (lo hi : ℕ) → ((w : ℕ) → contains m.links w ≡ false) → HoldsWholeLinks m lo hi
holds_none m lo hi none w linked = absurd (both_ways (contains m.links w) (none w) linked)

-- a part that is mapped, filled and given its rights
pub part_added : (p : Part) (m m1 m2 m3 : Memory) (bytes : List ℕ) → m1 ≡ mapped m p.range.from (p.range.to - p.range.from) true true → bytes ≡ p.bytes
    → m2 ≡ with_bytes m1 p.range.from bytes → m3 ≡ with_rights m2 p.range.from (p.range.to - p.range.from) p.read p.write → m3 ≡ with_part p m
part_added p m m1 m2 m3 bytes is same filled given =
    let n = p.range.to - p.range.from in
    given
    ∙ ap (λ x. with_rights x p.range.from n p.read p.write) (filled ∙ ap (λ x. with_bytes x p.range.from bytes) is ∙ ap (with_bytes (mapped m p.range.from n true true) p.range.from) same)
    ∙ rights_last m p.range.from n p.read p.write p.range.from p.bytes

pub part_added_plain : (p : Part) (m m3 : Memory) → m3 ≡ with_part p m → ((w : ℕ) → contains m.links w ≡ false) → (w : ℕ) → contains m3.links w ≡ false
part_added_plain p m m3 is none w = ap (λ (x : Memory). contains x.links w) is ∙ part_plain p m none w

-- the bytes of a part that is mapped may be written
pub part_writable : (p : Part) (m m1 : Memory) (bytes : List ℕ) → IsPart p → m1 ≡ mapped m p.range.from (p.range.to - p.range.from) true true → bytes ≡ p.bytes
    → contains_all m1.writable p.range.from (length bytes) ≡ true
part_writable p m m1 bytes fit is same =
    ap (λ (x : Memory). contains_all x.writable p.range.from (length bytes)) is
    ∙ ap (λ (x : List ℕ). contains_all (mark m.writable p.range.from (p.range.to - p.range.from) (λ _. true)) p.range.from (length x)) same
    ∙ all_marked m.writable p.range.from (p.range.to - p.range.from) p.range.from (length p.bytes) (omega arith) (omega (arith, fit.some, fit.filled))

-- so may the bytes of the program's name on the stack
pub name_writable : (m m1 : Memory) → m1 ≡ mapped m stack_start (stack_end - stack_start) true true → contains_all m1.writable name_at 5 ≡ true
name_writable m m1 is =
    ap (λ (x : Memory). contains_all x.writable name_at 5) is
    ∙ all_marked m.writable stack_start (stack_end - stack_start) name_at 5 (omega arith) (omega arith)
