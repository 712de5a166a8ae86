-- What words aim at, one word or one text range more.
use Rattle.std.proofs.Common.{◌≡◌, ℕ, ◌+◌, ◌*◌, ◌<◌, List, [], ◌∷◌, ◌++◌, length, take, drop, get_or, Option, refl, sym, ◌≤◌, inl, inr, arith}
use Rattle.std.specs.List.{filter_map, flat_map, cons_option, list_any}
use Rattle.std.proofs.lemmas.List.{drop_more, take_more, append-nil, get_or_default}
use Rattle.std.proofs.lemmas.List.Elements.{filter_map-append}
use Rattle.std.proofs.lemmas.List.Folds.{list_any_at, list_any_none}
use Rattle.std.proofs.lemmas.Bool.{eq-eqb, ne_eqb, cases_lt}
use Rattle.std.specs.Prelude.{◌==◌, is_ok, Result, Ok, Err, MatchResult}
use Rattle.std.proofs.lemmas.Grind.{flat_map-append}
use Rattle.image.specs.Texts.{words_from, text_words}
use Rattle.image.specs.declared.ranges.TextRange.{TextRange}

pub aims_more : (f : ℕ × ℕ → Option ℕ) (a i d : ℕ) (ws : List ℕ) → i < length ws → filter_map f (words_from (a + 4 * i) (drop i ws)) ≡ cons_option (f (a + 4 * i, get_or ws i d)) (filter_map f (words_from (a + 4 * (i + 1)) (drop (i + 1) ws)))
aims_more f a i d ws lt =
    let e : a + 4 * i + 4 ≡ a + 4 * (i + 1) = omega arith in
    rw (drop_more ws i d lt, e) refl

pub aims_of_text : (f : ℕ × ℕ → Option ℕ) (ts : List TextRange) (i : ℕ) (d : TextRange) → i < length ts → filter_map f (flat_map text_words (take (i + 1) ts)) ≡ filter_map f (flat_map text_words (take i ts)) ++ filter_map f (text_words (get_or ts i d))
aims_of_text f ts i d lt = rw (take_more ts i d lt, flat_map-append text_words (take i ts) (get_or ts i d ∷ []), append-nil (text_words (get_or ts i d))) (filter_map-append f (flat_map text_words (take i ts)) (text_words (get_or ts i d)))

-- what a search answers is whether the list has the number
pub found_by_search : (xs : List ℕ) (a : ℕ) (r : Result ℕ ℕ) → MatchResult r (λ i. (i < length xs) × (get_or xs i 0 ≡ a)) (λ i. (i ≤ length xs) × ((k : ℕ) → k < i → get_or xs k 0 < a) × ((k : ℕ) → i ≤ k → k < length xs → a < get_or xs k 0)) → is_ok r ≡ list_any (λ t. t == a) xs
found_by_search xs a (Ok i) h = sym (list_any_at (λ (t : ℕ). t == a) xs i 0 h.0 (eq-eqb _ _ h.1))
found_by_search xs a (Err i) h =
    sym (list_any_none (λ (t : ℕ). t == a) xs (λ k d lt. ne_eqb _ _ (λ e. (
    let same : get_or xs k d ≡ get_or xs k 0 = get_or_default xs k d 0 lt in
    elim (cases_lt k i) [
      | inl before ↦ (let b = h.1 k before in omega arith)
      | inr past ↦ (let b = h.2 k past lt in omega arith)
    ]))))
