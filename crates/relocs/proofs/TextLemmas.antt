-- Text sections without a fault are text ranges that fit and lie apart.
use Rattle.std.proofs.Common.{◌≡◌, ℕ, ◌+◌, ◌-◌, ◌*◌, ◌/◌, ◌%◌, ◌<◌, ◌≤◌, Bool, true, false, leb, ltb, List, [], ◌∷◌, length, map, take, get_or, Option, Some, None, refl, sym, ap, ◌∙◌, arith}
use Rattle.std.specs.Prelude.{◌&&◌, ◌||◌, ◌==◌, not, is_some, bit_and}
use Rattle.std.specs.List.{All, AllPairs, find, list_any, range_with_len}
use Rattle.std.specs.Option.{option_map_or}
use Rattle.std.proofs.lemmas.Bool.{ltb-true, leb-true, and_parts, eqb-true}
use Rattle.std.proofs.lemmas.Bool.Decides.{nat_tests}
use Rattle.std.proofs.lemmas.Option.{slice_get-get_or}
use Rattle.std.proofs.lemmas.List.{get_or-map, length-map, length-take-le, get_or-take}
use Rattle.std.proofs.lemmas.List.Elements.{All-map, All-tail, filter_passes}
use Rattle.std.proofs.lemmas.List.FromFn.{get_or-range_with_len, length-range_with_len, length-map-range_with_len}
use Rattle.finite.proofs.Finding.{find_none, any_none, none_by_map, any_find}
use Rattle.finite.proofs.Arranged.{clash}
use Rattle.elf_read.specs.declared.elf.Elf.{Elf}
use Rattle.elf_read.specs.declared.elf.Section.{Section}
use Rattle.elf_read.specs.declared.elf.Segment.{Segment}
use Rattle.elf_read.specs.Fields.{u32_at}
use Rattle.elf_read.specs.Tables.{table}
use Rattle.elf_read.specs.Whole.{IsSegment}
use Rattle.image.specs.declared.ranges.TextRange.{TextRange}
use Rattle.image.specs.Texts.{text_start, text_end}
use Rattle.image.specs.Picture.{IsText}
use Rattle.relocs.specs.Sections.{is_text, text_sections, section_end, section_start, file_end, has_bytes, overlap, is_misaligned, first_misaligned, is_outside, is_outside_at, first_outside, start_at}
use Rattle.relocs.specs.Built.{words_at, text_of, texts_of}

both_fail : (a b : Bool) → (a || b) ≡ false → (a ≡ false) × (b ≡ false)
both_fail true b e = absurd cc
both_fail false b e = (refl, e)

not_false : (b : Bool) → not b ≡ false → b ≡ true
not_false true e = refl
not_false false e = absurd cc

pub sized : (s : Section) → is_text s ≡ true → 0 < s.size
sized s e =
    let a = and_parts (s.kind == 1) _ e in
    let b = and_parts (not (bit_and s.flags 2 == 0)) _ a.1 in
    let c = and_parts (not (bit_and s.flags 4 == 0)) (ltb 0 s.size) b.1 in
    ltb-true _ _ c.1

-- a text section that has no fault
pub record IsSection (segments : List Segment) (s : Section) : Type 0 where
  pub some : 0 < s.size
  pub whole : s.at % 4 ≡ 0
  pub even : s.size % 4 ≡ 0
  pub held : list_any (has_bytes s.at (section_end s)) segments ≡ true

not_outside : (segments : List Segment) (texts : List Section) (i : ℕ) (d : Section) → first_outside segments texts ≡ None → i < length texts → is_outside segments (take i texts) (get_or texts i d) ≡ false
unfolding first_outside
not_outside segments texts i d none lt =
    let nowhere = none_by_map (start_at texts) (find (is_outside_at segments texts) (range_with_len 0 (length texts))) none in
    let at = find_none (is_outside_at segments texts) (range_with_len 0 (length texts)) i 0 nowhere (omega (arith, length-range_with_len 0 (length texts))) in
    let zero : 0 + i ≡ i = omega arith in
    let place = get_or-range_with_len 0 (length texts) i 0 lt ∙ zero in
    let there = slice_get-get_or texts i d lt in
    sym (ap (λ o. option_map_or (is_outside segments (take i texts)) o false) there) ∙ sym (ap (is_outside_at segments texts) place) ∙ at

aligned : (texts : List Section) (i : ℕ) (d : Section) → first_misaligned texts ≡ None → i < length texts → ((get_or texts i d).at % 4 ≡ 0) × ((get_or texts i d).size % 4 ≡ 0)
unfolding first_misaligned
aligned texts i d none lt =
    let s = get_or texts i d in
    let fails = find_none is_misaligned texts i d (none_by_map section_start (find is_misaligned texts) none) lt in
    let parts = both_fail (not (s.at % 4 == 0)) (not (s.size % 4 == 0)) fails in
    (eqb-true _ _ (not_false _ parts.0), eqb-true _ _ (not_false _ parts.1))

pub each_section : (segments : List Segment) (texts : List Section) → All (λ s. is_text s ≡ true) texts → first_misaligned texts ≡ None → first_outside segments texts ≡ None → All (IsSection segments) texts
each_section segments texts text misaligned outside i d lt =
    let s = get_or texts i d in
    let parts = aligned texts i d misaligned lt in
    let in_one = both_fail (not (list_any (has_bytes s.at (section_end s)) segments)) _ (not_outside segments texts i d outside lt) in
    record { some = sized s (text i d lt); whole = parts.0; even = parts.1; held = not_false _ in_one.0 }

held_case : (b : Bool) (s : Section) (g : Segment) (gs : List Segment) → has_bytes s.at (section_end s) g ≡ b → IsSegment g → (b || list_any (has_bytes s.at (section_end s)) gs) ≡ true → (list_any (has_bytes s.at (section_end s)) gs ≡ true → (0x1000 ≤ s.at) × (section_end s ≤ 0x08000000)) → (0x1000 ≤ s.at) × (section_end s ≤ 0x08000000)
held_case true s g gs is fit e h =
    let parts = and_parts (leb g.at s.at) (leb (section_end s) (file_end g)) is in
    let low = leb-true _ _ parts.0 in
    let high = leb-true _ _ parts.1 in
    (omega (arith, low, fit.low), omega (arith, high, fit.filled, fit.high))
held_case false s g gs is fit e h = h e

-- a held section lies in the guest's space
pub held_fits : (s : Section) (gs : List Segment) → All IsSegment gs → list_any (has_bytes s.at (section_end s)) gs ≡ true → (0x1000 ≤ s.at) × (section_end s ≤ 0x08000000)
held_fits s [] fit e = absurd cc
held_fits s (g ∷ gs) fit e = held_case (has_bytes s.at (section_end s) g) s g gs refl (fit 0 g (omega arith)) e (held_fits s gs (All-tail IsSegment g gs fit))

pub sections_fit : (segments : List Segment) (texts : List Section) → All IsSegment segments → All (IsSection segments) texts → All (λ s. section_end s ≤ 0x08000000) texts
sections_fit segments texts fit sections i d lt = (held_fits (get_or texts i d) segments fit (sections i d lt).held).1

words_case : (o : Option Segment) (at size : ℕ) → is_some o ≡ true → length (option_map_or (λ g. table 4 u32_at g.bytes (at - g.at) (size / 4)) o []) ≡ size / 4
unfolding table
words_case None at size e = absurd cc
words_case (Some g) at size e = length-map-range_with_len (λ i. u32_at g.bytes (at - g.at + 4 * i)) 0 (size / 4)

length_words : (segments : List Segment) (at size : ℕ) → list_any (has_bytes at (at + size)) segments ≡ true → length (words_at segments at size) ≡ size / 4
unfolding words_at
length_words segments at size e = words_case (find (has_bytes at (at + size)) segments) at size (sym (any_find (has_bytes at (at + size)) segments) ∙ e)

pub text_end_is : (segments : List Segment) (s : Section) → IsSection segments s → text_end (text_of segments s) ≡ section_end s
unfolding text_of
text_end_is segments s h =
    let len = length_words segments s.at s.size h.held in
    omega (arith, len, h.even)

pub text_start_is : (segments : List Segment) (s : Section) → (text_of segments s).from ≡ s.at
unfolding text_of
text_start_is segments s = refl

text_fits : (segments : List Segment) (s : Section) → All IsSegment segments → IsSection segments s → IsText (text_of segments s)
text_fits segments s fit h =
    let start = text_start_is segments s in
    let end = text_end_is segments s h in
    let in_space = held_fits s segments fit h.held in
    record {
      some = omega (arith, start, end, h.some);
      whole = rw start h.whole;
      low = omega (arith, start, in_space.0);
      high = omega (arith, end, in_space.1);
    }

pub texts_fit : (segments : List Segment) (texts : List Section) → All IsSegment segments → All (IsSection segments) texts → All IsText (map (text_of segments) texts)
texts_fit segments texts fit sections = All-map IsText (text_of segments) texts (λ i d lt. text_fits segments (get_or texts i d) fit (sections i d lt))

-- no text section shares an address with an earlier one
sections_apart : (segments : List Segment) (texts : List Section) → first_outside segments texts ≡ None → AllPairs (λ s t. overlap t s ≡ false) texts
sections_apart segments texts none i j d lt within =
    let t = get_or texts j d in
    let alone = (both_fail (not (list_any (has_bytes t.at (section_end t)) segments)) _ (not_outside segments texts j d none within)).1 in
    let len : length (take j texts) ≡ j = length-take-le j texts (omega arith) in
    sym (ap (overlap t) (get_or-take j texts i d lt)) ∙ any_none (overlap t) (take j texts) i d alone (omega arith)

flipped : (a b : Bool) → (b && a) ≡ false → (a && b) ≡ false
flipped true true e = e
flipped true false e = refl
flipped false b e = refl

clash_of : (a b : TextRange) (p q u v : ℕ) → a.from ≡ p → text_end a ≡ q → b.from ≡ u → text_end b ≡ v → (ltb p v && ltb u q) ≡ false → clash text_start text_end a b ≡ false
clash_of a b p q u v i j k l e = grind (arith, nat_tests)

clash_is : (segments : List Segment) (s t : Section) → IsSection segments s → IsSection segments t → overlap t s ≡ false → clash text_start text_end (text_of segments s) (text_of segments t) ≡ false
clash_is segments s t hs ht e = clash_of (text_of segments s) (text_of segments t) s.at (section_end s) t.at (section_end t) (text_start_is segments s) (text_end_is segments s hs) (text_start_is segments t) (text_end_is segments t ht) (flipped (ltb s.at (section_end t)) (ltb t.at (section_end s)) e)

pub texts_apart : (segments : List Segment) (texts : List Section) → All (IsSection segments) texts → first_outside segments texts ≡ None → AllPairs (λ s t. clash text_start text_end s t ≡ false) (map (text_of segments) texts)
texts_apart segments texts sections none i j d lt within =
    let z : Section = record { kind = 0; flags = 0; at = 0; offset = 0; size = 0 } in
    let len : length (map (text_of segments) texts) ≡ length texts = length-map texts (text_of segments) in
    let j_in : j < length texts = omega arith in
    let i_in : i < length texts = omega arith in
    rw (get_or-map (text_of segments) texts i z d i_in, get_or-map (text_of segments) texts j z d j_in) (clash_is segments (get_or texts i z) (get_or texts j z) (sections i z i_in) (sections j z j_in) (sections_apart segments texts none i j z lt j_in))

-- the text sections of a file are text
pub are_text : (elf : Elf) → All (λ s. is_text s ≡ true) (text_sections elf)
unfolding text_sections
are_text elf = filter_passes is_text elf.sections

pub all_sections : (elf : Elf) → first_misaligned (text_sections elf) ≡ None → first_outside elf.segments (text_sections elf) ≡ None → All (IsSection elf.segments) (text_sections elf)
all_sections elf aligned inside = each_section elf.segments (text_sections elf) (are_text elf) aligned inside

pub ends_fit : (elf : Elf) → All IsSegment elf.segments → first_misaligned (text_sections elf) ≡ None → first_outside elf.segments (text_sections elf) ≡ None → All (λ s. section_end s ≤ 0x08000000) (text_sections elf)
ends_fit elf fit aligned inside = sections_fit elf.segments (text_sections elf) fit (all_sections elf aligned inside)

pub all_fit : (elf : Elf) → All IsSegment elf.segments → first_misaligned (text_sections elf) ≡ None → first_outside elf.segments (text_sections elf) ≡ None → All IsText (texts_of elf)
unfolding texts_of
all_fit elf fit aligned inside = texts_fit elf.segments (text_sections elf) fit (all_sections elf aligned inside)

-- the same for the lists that were read
pub ends_fit_in : (elf : Elf) (segments : List Segment) (sections : List Section) → segments ≡ elf.segments → sections ≡ text_sections elf → All IsSegment elf.segments → first_misaligned sections ≡ None → first_outside segments sections ≡ None → All (λ s. section_end s ≤ 0x08000000) sections
ends_fit_in elf segments sections same is fit aligned inside =
    let text : All (λ s. is_text s ≡ true) sections = rw is (are_text elf) in
    sections_fit segments sections (rw same fit) (each_section segments sections text aligned inside)

pub all_fit_in : (elf : Elf) (segments : List Segment) (sections : List Section) → segments ≡ elf.segments → sections ≡ text_sections elf → All IsSegment elf.segments → first_misaligned sections ≡ None → first_outside segments sections ≡ None → All IsText (map (text_of segments) sections)
all_fit_in elf segments sections same is fit aligned inside =
    let text : All (λ s. is_text s ≡ true) sections = rw is (are_text elf) in
    texts_fit segments sections (rw same fit) (each_section segments sections text aligned inside)

-- the text sections of a file have bytes
pub all_sized : (elf : Elf) (sections : List Section) → sections ≡ text_sections elf → All (λ s. 0 < s.size) sections
all_sized elf sections is = rw is (λ i d lt. sized (get_or (text_sections elf) i d) (are_text elf i d lt))
