-- The pages that aren't taken are those that are regions.
use Rattle.std.proofs.Common.{◌≡◌, ◌∙◌, ℕ, ◌+◌, ◌*◌, ◌/◌, ◌<◌, ◌≤◌, ◌⊎◌, inl, inr, Bool, false, List, All, length, slice_get, slice_index_or, Some, replicate, take, ◌++◌, arith, sym, ap, subst}
use Rattle.std.specs.List.{Any}
use Rattle.std.proofs.Math.Seq.{take-append_seam}
use Rattle.std.proofs.lemmas.Bool.{cases_lt}
use Rattle.std.proofs.lemmas.List.{length-replicate, get_or-replicate}
use Rattle.std.proofs.lemmas.Option.{slice_get-get_or, slice_get_within}
use Rattle.image.specs.declared.ranges.TextRange.{TextRange}
use Rattle.image.specs.declared.ranges.Part.{Part}
use Rattle.image.specs.Texts.{text_end, targets}
use Rattle.image.specs.Picture.{IsText, IsPart, IsRegion, IsFree}
use Rattle.near_region.specs.Pages.{pages_range, AreTaken, Touches, IsAimed, TakesRun, TakesTexts, TakesParts}
use Rattle.near_region.proofs.Taking.{any_at}

abbrev IsOfTexts : List TextRange → ℕ → Type 0
IsOfTexts texts page = Any (λ t. Touches t.from (text_end t + 4) page) texts ⊎ IsAimed texts page

abbrev IsOfParts : List Part → ℕ → Type 0
IsOfParts parts page = Any (λ s. Touches s.range.from s.range.to page) parts

-- a page whose addresses are all outside has none of them
outside : (from to p : ℕ) → from < to → ((a : ℕ) → 4096 * p ≤ a → a < 4096 * (p + 1) → (a < from) ⊎ (to ≤ a)) → Touches from to p → ⊥
outside from to p some out touch = elim (cases_lt from (4096 * p)) [
  | inl before ↦ never (4096 * p) (omega (arith, before)) touch.1 (out (4096 * p) (omega arith) (omega arith))
  | inr after ↦ (let low = touch.0 in never from (omega arith) some (out from after low))
]
  where
    never : (a : ℕ) → from ≤ a → a < to → (a < from) ⊎ (to ≤ a) → ⊥
    never a low high (inl less) = omega (arith, low, less)
    never a low high (inr more) = omega (arith, high, more)

apart : (from to p a : ℕ) → (Touches from to p → ⊥) → 4096 * p ≤ a → a < 4096 * (p + 1) → (a < from) ⊎ (to ≤ a)
apart from to p a none low high = elim (cases_lt a from) [
  | inl less ↦ inl less
  | inr more ↦ elim (cases_lt a to) [
    | inl inside ↦ absurd (none (omega (arith, more, high), omega (arith, inside, low)))
    | inr past ↦ inr past
  ]
]

off_page : (p a : ℕ) → (a / 4096 ≡ p → ⊥) → (a < 4096 * p) ⊎ (4096 * (p + 1) ≤ a)
off_page p a none = elim (cases_lt a (4096 * p)) [
  | inl less ↦ inl less
  | inr more ↦ elim (cases_lt a (4096 * (p + 1))) [
    | inl inside ↦ absurd (none (omega (arith, more, inside)))
    | inr past ↦ inr past
  ]
]

not_on_page : (p a : ℕ) → (a < 4096 * p) ⊎ (4096 * (p + 1) ≤ a) → a / 4096 ≡ p → ⊥
not_on_page p a (inl less) e = omega (arith, less, e)
not_on_page p a (inr more) e = omega (arith, more, e)

module _ (texts : List TextRange) (parts : List Part) (p : ℕ) where
  free_page : 1 ≤ p → p < 32768 → (IsOfTexts texts p → ⊥) → (IsOfParts parts p → ⊥) → IsRegion texts parts (pages_range p (p + 1))
  free_page low high no_text no_part = record {
    pages = record { ordered = omega arith; first = omega arith; last = omega arith };
    free = λ a from to. record {
      low = omega (arith, low, from);
      high = omega (arith, high, to);
      no_text = λ k d lt. let t = slice_index_or texts k d in
          apart t.from (text_end t + 4) p a (λ touch. no_text (inl (any_at (λ t. Touches t.from (text_end t + 4) p) texts k d lt touch))) from to;
      no_part = λ k d lt. let s = slice_index_or parts k d in
          apart s.range.from s.range.to p a (λ touch. no_part (any_at (λ s. Touches s.range.from s.range.to p) parts k d lt touch)) from to;
    };
    no_aims = λ k d lt. off_page p (slice_index_or (targets texts) k d) (λ e. no_text (inr (any_at (λ a. a / 4096 ≡ p) (targets texts) k d lt e)));
  }

  no_text_here : All IsText texts → IsRegion texts parts (pages_range p (p + 1)) → IsOfTexts texts p → ⊥
  no_text_here fit region (inl (k, t, lt, e, touch)) =
      let f : IsText t = subst IsText e (fit k t lt) in let some = f.some in
      outside t.from (text_end t + 4) p (omega (arith, some)) (λ a low high. subst (λ (t : TextRange). (a < t.from) ⊎ (text_end t + 4 ≤ a)) e ((region.free a low high).no_text k t lt)) touch
  no_text_here fit region (inr (k, a, lt, e, on)) = not_on_page p a (subst (λ (a : ℕ). (a < 4096 * p) ⊎ (4096 * (p + 1) ≤ a)) e (region.no_aims k a lt)) on

  no_part_here : All IsPart parts → IsRegion texts parts (pages_range p (p + 1)) → IsOfParts parts p → ⊥
  no_part_here fit region (k, s, lt, e, touch) =
      let f : IsPart s = subst IsPart e (fit k s lt) in
      outside s.range.from s.range.to p f.some (λ a low high. subst (λ (s : Part). (a < s.range.from) ⊎ (s.range.to ≤ a)) e ((region.free a low high).no_part k s lt)) touch

pub pages_taken : (texts : List TextRange) (parts : List Part) → All IsText texts → All IsPart parts → (a b c d : List Bool) → a ≡ replicate 32768 false → TakesRun 0 1 a b → TakesTexts texts b c → TakesParts parts c d → AreTaken texts parts d
pages_taken texts parts texts_fit parts_fit a b c d new first one two p = (to, back)
  where
    size : length a ≡ 32768
    size = ap length new ∙ length-replicate 32768 false

    to : slice_get d p ≡ Some false → IsRegion texts parts (pages_range p (p + 1))
    to free =
        let x = (two.each p).0 free in let y = (one.each p).0 x.0 in let z = (first.each p).0 y.0 in
        let within = slice_get_within a p false z.0 in let n = size in
        let low : 1 ≤ p = elim (cases_lt p 1) [
          | inl zero ↦ absurd (z.1 (omega arith, zero))
          | inr some ↦ some
        ] in
        free_page texts parts p low (omega (arith, within, n)) y.1 x.1

    back : IsRegion texts parts (pages_range p (p + 1)) → slice_get d p ≡ Some false
    back region =
        let at : IsFree texts parts (4096 * p) = region.free (4096 * p) (omega arith) (omega arith) in
        let low = at.low in let high = at.high in let n = size in
        let within : p < length a = omega (arith, high, n) in
        let start : slice_get a p ≡ Some false = subst (λ (l : List Bool). slice_get l p ≡ Some false) (sym new)
        (slice_get-get_or (replicate 32768 false) p false (let m = length-replicate 32768 false in omega (arith, high, m)) ∙ ap Some (get_or-replicate 32768 p false false (omega (arith, high)))) in
        (two.each p).1 ((one.each p).1 ((first.each p).1 (start, λ s. let h = s.1 in omega (arith, low, h)), no_text_here texts parts p texts_fit region), no_part_here texts parts p parts_fit region)

-- what was written to a whole list is the list
pub written : (n : ℕ) (new old : List Bool) → length new ≡ 32768 → n ≡ 32768 → take n (new ++ old) ≡ new
written n new old size len = ap (λ k. take k (new ++ old)) (len ∙ sym size) ∙ take-append_seam new old
