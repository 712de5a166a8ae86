-- A file without a fault has segments that fit and lie apart.
use Rattle.std.proofs.Common.{◌≡◌, ℕ, ◌+◌, ◌<◌, ◌≤◌, ◌^◌, Bool, true, false, List, length, map, take, drop, get_or, None, inl, inr, refl, sym, ap, ◌∙◌, ◌⊎◌, arith}
use Rattle.std.specs.Prelude.{◌&&◌, ◌||◌, ◌==◌, nat_lt}
use Rattle.std.specs.List.{All, AllPairs, filter, list_any, range_with_len}
use Rattle.std.specs.Option.{option_map_or}
use Rattle.std.proofs.lemmas.Bool.{ltb-false, ltb-true, and_cases, and_parts}
use Rattle.std.proofs.lemmas.Option.{slice_get-get_or}
use Rattle.std.proofs.lemmas.List.{get_or-map, length-map, length-take, length-take-le, get_or-take}
use Rattle.std.proofs.lemmas.List.Elements.{All-map, All-filter, filter_passes}
use Rattle.std.proofs.lemmas.List.FromFn.{get_or-range_with_len, length-range_with_len}
use Rattle.std.proofs.lemmas.List.Kept.{AllPairs-filter}
use Rattle.finite.proofs.Finding.{find_none, any_none}
use Rattle.elf_read.specs.declared.tables.ProgramHeader.{ProgramHeader}
use Rattle.elf_read.specs.declared.tables.SectionHeader.{SectionHeader}
use Rattle.elf_read.specs.Faults.{is_loaded, overlap, is_bad, is_bad_at, first_bad_segment, leaves_space, is_too_large, program_headers}
use Rattle.elf_read.specs.Fields.{range_of}
use Rattle.elf_read.specs.Parts.{segment, segments, parts_of}
use Rattle.elf_read.specs.Whole.{IsSegment, IsWhole, AreApart}

both_fail : (a b : Bool) → (a || b) ≡ false → (a ≡ false) × (b ≡ false)
both_fail true b e = absurd cc
both_fail false b e = (refl, e)

second_fails : (a b : Bool) → (a && b) ≡ false → a ≡ true → b ≡ false
second_fails true b e h = e
second_fails false b e h = absurd cc

pub not_bad : (headers : List ProgramHeader) (i : ℕ) (d : ProgramHeader) → first_bad_segment headers ≡ None → i < length headers → is_bad (take i headers) (get_or headers i d) ≡ false
unfolding first_bad_segment
not_bad headers i d none lt =
    let at = find_none (is_bad_at headers) (range_with_len 0 (length headers)) i 0 none (omega (arith, length-range_with_len 0 (length headers))) in
    let zero : 0 + i ≡ i = omega arith in
    let place = get_or-range_with_len 0 (length headers) i 0 lt ∙ zero in
    let there = slice_get-get_or headers i d lt in
    sym (ap (λ o. option_map_or (is_bad (take i headers)) o false) there) ∙ sym (ap (is_bad_at headers) place) ∙ at

-- a loaded segment that isn't bad
record IsGood (earlier : List ProgramHeader) (h : ProgramHeader) : Type 0 where
  filled : h.file_size ≤ h.memory_size
  alone : list_any (λ e. is_loaded e && overlap e h) earlier ≡ false

good : (earlier : List ProgramHeader) (h : ProgramHeader) → is_bad earlier h ≡ false → is_loaded h ≡ true → IsGood earlier h
good earlier h e loaded =
    let some = both_fail (nat_lt h.memory_size h.file_size) _ (second_fails (is_loaded h) _ e loaded) in
    let rest = both_fail (nat_lt (2 ^ 64) (h.address + h.memory_size)) _ some.1 in
    record { filled = ltb-false _ _ some.0; alone = rest.1 }

no_header : ProgramHeader
no_header = record { kind = 0; flags = 0; offset = 0; address = 0; file_size = 0; memory_size = 0 }

-- two program headers of loaded segments share no address
abbrev HeadersApart : ProgramHeader → ProgramHeader → Type 0
HeadersApart h g = is_loaded h ≡ true → is_loaded g ≡ true → (h.address + h.memory_size ≤ g.address) ⊎ (g.address + g.memory_size ≤ h.address)

apart_by_test : (h g : ProgramHeader) → overlap h g ≡ false → (h.address + h.memory_size ≤ g.address) ⊎ (g.address + g.memory_size ≤ h.address)
apart_by_test h g e =
    elim (and_cases (nat_lt h.address (g.address + g.memory_size)) (nat_lt g.address (h.address + h.memory_size)) e) [
      | inl first ↦ inr (ltb-false _ _ first)
      | inr second ↦ inl (ltb-false _ _ second)
    ]

headers_apart : (headers : List ProgramHeader) → first_bad_segment headers ≡ None → AllPairs HeadersApart headers
headers_apart headers none i j d lt within = λ h_loaded g_loaded.
    let one = good (take j headers) (get_or headers j d) (not_bad headers j d none within) g_loaded in
    let test : ProgramHeader → Bool = λ e. is_loaded e && overlap e (get_or headers j d) in
    let there : get_or (take j headers) i d ≡ get_or headers i d = get_or-take j headers i d lt in
    let len : length (take j headers) ≡ j = length-take-le j headers (omega arith) in
    let fails = any_none test (take j headers) i d one.alone (omega arith) in
    let same : test (get_or headers i d) ≡ false = sym (ap test there) ∙ fails in
    apart_by_test (get_or headers i d) (get_or headers j d) (second_fails (is_loaded (get_or headers i d)) _ same h_loaded)

loaded_apart : (headers : List ProgramHeader) → first_bad_segment headers ≡ None → AllPairs HeadersApart (filter is_loaded headers)
loaded_apart headers none = AllPairs-filter HeadersApart is_loaded headers (headers_apart headers none)

segment_pair : (bytes : List ℕ) (h g : ProgramHeader) → HeadersApart h g → is_loaded h ≡ true → is_loaded g ≡ true → AreApart (segment bytes h) (segment bytes g)
unfolding segment
segment_pair bytes h g apart a b = apart a b

pub segments_apart : (bytes : List ℕ) (headers : List ProgramHeader) → first_bad_segment headers ≡ None → AllPairs AreApart (segments bytes headers)
unfolding segments
segments_apart bytes headers none i j d lt within =
    let hs = filter is_loaded headers in
    let len : length (map (segment bytes) hs) ≡ length hs = length-map hs (segment bytes) in
    let j_in : j < length hs = omega arith in
    let h = no_header in
    let at_i = get_or-map (segment bytes) hs i h d (omega arith) in
    let at_j = get_or-map (segment bytes) hs j h d (omega arith) in
    rw (at_i, at_j) (segment_pair bytes (get_or hs i h) (get_or hs j h) (loaded_apart headers none i j h lt j_in) (filter_passes is_loaded headers i h (omega arith)) (filter_passes is_loaded headers j h j_in))

few_bytes : (bytes : List ℕ) (start size : ℕ) → length (range_of bytes start size) ≤ size
few_bytes bytes start size = let e = length-take size (drop start bytes) in omega (arith, e)

fits : (bytes : List ℕ) (h : ProgramHeader) → is_loaded h ≡ true → h.file_size ≤ h.memory_size → leaves_space h ≡ false → IsSegment (segment bytes h)
unfolding segment
fits bytes h loaded filled room =
    let space = both_fail (nat_lt h.address 0x1000) _ (second_fails (is_loaded h) _ room loaded) in
    let some = and_parts (h.kind == 1) (nat_lt 0 h.memory_size) loaded in
    record {
      some = ltb-true _ _ some.1;
      low = ltb-false _ _ space.0;
      high = ltb-false _ _ space.1;
      filled = (let few = few_bytes bytes h.offset h.file_size in omega (arith, few, filled));
    }

no_space_left : (headers : List ProgramHeader) (sections : List SectionHeader) → is_too_large headers sections ≡ false → list_any leaves_space headers ≡ false
unfolding is_too_large
no_space_left headers sections e = (both_fail (list_any leaves_space headers) _ e).0

each_fits : (bytes : List ℕ) (headers : List ProgramHeader) (sections : List SectionHeader) → first_bad_segment headers ≡ None → is_too_large headers sections ≡ false → All IsSegment (segments bytes headers)
unfolding segments
each_fits bytes headers sections none room =
    let each : All (λ h. is_loaded h ≡ true → IsSegment (segment bytes h)) headers = λ i d lt. λ loaded. (
    let one = good (take i headers) (get_or headers i d) (not_bad headers i d none lt) loaded in
    fits bytes (get_or headers i d) loaded one.filled (any_none leaves_space headers i d (no_space_left headers sections room) lt)) in
    let kept = All-filter is_loaded (λ h. is_loaded h ≡ true → IsSegment (segment bytes h)) headers each in
    All-map IsSegment (segment bytes) (filter is_loaded headers) (λ i d lt. kept i d lt (filter_passes is_loaded headers i d lt))

pub whole : (bytes : List ℕ) (headers : List ProgramHeader) (sections : List SectionHeader) → headers ≡ program_headers bytes → first_bad_segment headers ≡ None → is_too_large headers sections ≡ false → IsWhole (parts_of bytes)
unfolding parts_of
whole bytes headers sections is none room = record {
  each = rw (← is) (each_fits bytes headers sections none room);
  apart = rw (← is) (segments_apart bytes headers none);
}
