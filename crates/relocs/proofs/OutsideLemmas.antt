-- The first text section that is outside, found one after another.
use Rattle.std.proofs.Common.{◌≡◌, ℕ, ◌+◌, ◌-◌, ◌<◌, Bool, true, false, ltb, leb, List, [], ◌∷◌, ◌++◌, length, take, get_or, Some, None, inl, inr, refl, sym, ap, ◌∙◌, arith}
use Rattle.std.specs.Prelude.{◌&&◌, ◌||◌}
use Rattle.std.specs.List.{All, list_any}
use Rattle.std.specs.Option.{option_map, option_map_or}
use Rattle.std.proofs.lemmas.Bool.{cases_lt}
use Rattle.std.proofs.lemmas.Bool.Decides.{nat_tests}
use Rattle.std.proofs.lemmas.Option.{slice_get-get_or}
use Rattle.std.proofs.lemmas.List.Folds.{list_any-append}
use Rattle.finite.specs.Spans.{meets}
use Rattle.finite.proofs.Finding.{list_any_agree}
use Rattle.finite.proofs.LeastFound.{first_below, none_below}
use Rattle.elf_read.specs.declared.elf.Section.{Section}
use Rattle.elf_read.specs.declared.elf.Segment.{Segment}
use Rattle.relocs.specs.Sections.{section_end, has_bytes, overlap, is_outside, is_outside_at, first_outside, start_at, section_start}
use Rattle.relocs.specs.Spans.{span_of, AreSpansOf}

met : (a m b n : ℕ) → 0 < m → 0 < n → (ltb a (b + n) && ltb b (a + m)) ≡ (leb a (b + (n - 1)) && leb b (a + (m - 1)))
met a m b n some more = grind (arith, nat_tests)

-- a section overlaps one of these where it meets one of their spans
pub overlaps_meet : (earlier : List Section) (spans : List (ℕ × ℕ)) (s : Section) → All (λ e. 0 < e.size) earlier → AreSpansOf earlier spans → 0 < s.size → list_any (overlap s) earlier ≡ list_any (meets s.at (s.at + (s.size - 1))) spans
overlaps_meet earlier spans s each are some = list_any_agree (overlap s) (λ e. meets s.at (s.at + (s.size - 1)) (span_of e)) earlier (λ i d lt. met s.at s.size (get_or earlier i d).at (get_or earlier i d).size some (each i d lt)) ∙ sym (are (meets s.at (s.at + (s.size - 1))))

or_false : (a : Bool) → (a || false) ≡ a
or_false true = refl
or_false false = refl

or_flips : (a b : Bool) → (a || b) ≡ (b || a)
or_flips true true = refl
or_flips true false = refl
or_flips false true = refl
or_flips false false = refl

-- a section that joins them adds its span
pub spans_more : (earlier : List Section) (spans gained : List (ℕ × ℕ)) (s : Section) → AreSpansOf earlier spans → ((test : ℕ × ℕ → Bool) → list_any test gained ≡ (test (span_of s) || list_any test spans)) → AreSpansOf (earlier ++ s ∷ []) gained
spans_more earlier spans gained s are more test =
    let p : Section → Bool = λ e. test (span_of e) in
    more test ∙ ap (λ (b : Bool). test (span_of s) || b) (are test) ∙ sym (list_any-append p earlier (s ∷ []) ∙ ap (λ (b : Bool). list_any p earlier || b) (or_false (test (span_of s))) ∙ or_flips (list_any p earlier) (test (span_of s)))

-- a held section that meets none of the spans is inside
pub inside_by_spans : (segments : List Segment) (earlier : List Section) (spans : List (ℕ × ℕ)) (s : Section) → All (λ e. 0 < e.size) earlier → AreSpansOf earlier spans → 0 < s.size → list_any (has_bytes s.at (section_end s)) segments ≡ true → list_any (meets s.at (s.at + (s.size - 1))) spans ≡ false → false ≡ is_outside segments earlier s
inside_by_spans segments earlier spans s each are some held free = rw (held, overlaps_meet earlier spans s each are some, free) refl

outside_at : (segments : List Segment) (texts : List Section) (i : ℕ) (d : Section) → i < length texts → is_outside_at segments texts i ≡ is_outside segments (take i texts) (get_or texts i d)
outside_at segments texts i d lt = ap (λ o. option_map_or (is_outside segments (take i texts)) o false) (slice_get-get_or texts i d lt)

-- none of the first n is outside
abbrev pub AreInside : List Segment → List Section → ℕ → Type 0
AreInside segments texts n = (k : ℕ) → k < n → is_outside_at segments texts k ≡ false

pub inside_more : (segments : List Segment) (texts : List Section) (i : ℕ) (d : Section) → i < length texts → AreInside segments texts i → is_outside segments (take i texts) (get_or texts i d) ≡ false → AreInside segments texts (i + 1)
inside_more segments texts i d lt inside fails k below =
    elim (cases_lt k i) [
      | inl before ↦ inside k before
      | inr past ↦ (let same : k ≡ i = omega (arith, below, past) in ap (is_outside_at segments texts) same ∙ outside_at segments texts i d lt ∙ fails)
    ]

pub outside_there : (segments : List Segment) (texts : List Section) (i : ℕ) (d : Section) → i < length texts → AreInside segments texts i → is_outside segments (take i texts) (get_or texts i d) ≡ true → Some (get_or texts i d).at ≡ first_outside segments texts
unfolding first_outside
outside_there segments texts i d lt inside is =
    let at = ap (λ o. option_map_or section_start o 0) (slice_get-get_or texts i d lt) in
    ap (λ (n : ℕ). Some n) (sym at) ∙ ap (option_map (start_at texts)) (first_below (is_outside_at segments texts) (length texts) i lt inside (outside_at segments texts i d lt ∙ is))

pub outside_nowhere : (segments : List Segment) (texts : List Section) → AreInside segments texts (length texts) → None ≡ first_outside segments texts
unfolding first_outside
outside_nowhere segments texts inside = ap (option_map (start_at texts)) (none_below (is_outside_at segments texts) (length texts) inside)
