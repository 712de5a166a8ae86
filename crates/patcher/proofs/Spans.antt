-- What holds of ranges of text because of where they are.
use Rattle.std.proofs.Common.{◌≡◌, ℕ, ◌<◌, ◌≤◌, List, length, get_or, map, sym, ◌∙◌, ap, arith}
use Rattle.std.specs.Prelude.{All, AllPairs}
use Rattle.std.proofs.lemmas.List.{get_or-map, length-map}
use Rattle.image.specs.declared.ranges.TextRange.{TextRange}
use Rattle.image.specs.Texts.{text_end}
use Rattle.image.specs.Picture.{IsText}
use Rattle.patcher.specs.Texts.{text_span, AreTexts}

module _ (ts us : List TextRange) (same : map text_span ts ≡ map text_span us) where
  pub as_many : length ts ≡ length us
  as_many = sym (length-map ts text_span) ∙ ap length same ∙ length-map us text_span

  same_span : (k : ℕ) (d : TextRange) → k < length ts → text_span (get_or ts k d) ≡ text_span (get_or us k d)
  same_span k d lt =
      let n = as_many in
      sym (get_or-map text_span ts k d (text_span d) lt) ∙ ap (λ (xs : List (ℕ × ℕ)). get_or xs k (text_span d)) same ∙ get_or-map text_span us k d (text_span d) (omega (arith, n, lt))

  from_is : (k : ℕ) (d : TextRange) → k < length ts → (get_or ts k d).from ≡ (get_or us k d).from
  from_is k d lt = ap (λ (u : ℕ × ℕ). u.0) (same_span k d lt)

  length_is : (k : ℕ) (d : TextRange) → k < length ts → length ((get_or ts k d).words) ≡ length ((get_or us k d).words)
  length_is k d lt = ap (λ (u : ℕ × ℕ). u.1) (same_span k d lt)

  is_text : (s t : TextRange) → s.from ≡ t.from → length s.words ≡ length t.words → IsText t → IsText s
  is_text s t f n h =
      let some = h.some in
      let whole = h.whole in
      let low = h.low in
      let high = h.high in
      record { some = omega (arith, f, n, some); whole = rw f whole; low = omega (arith, f, low); high = omega (arith, f, n, high) }

  pub are_texts : AreTexts us → AreTexts ts
  are_texts h = record { fit = fit; rise = rise }
    where
      fit : All IsText ts
      fit k d lt = let n = as_many in is_text (get_or ts k d) (get_or us k d) (from_is k d lt) (length_is k d lt) (h.fit k d (omega (arith, n, lt)))

      rise : AllPairs (λ s t. text_end s ≤ t.from) ts
      rise i j d lt in' =
          let n = as_many in
          let f = from_is i d (omega (arith, lt, in')) in
          let m = length_is i d (omega (arith, lt, in')) in
          let g = from_is j d in' in
          let le = h.rise i j d lt (omega (arith, n, in')) in
          omega (arith, f, m, g, le)
