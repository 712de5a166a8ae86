-- The region: one range, one word or one text range more.
use Rattle.std.proofs.Common.{◌≡◌, ℕ, ◌+◌, ◌*◌, ◌-◌, ◌^◌, ◌<◌, ◌≤◌, Bool, true, false, cond, min, max, List, [], ◌∷◌, ◌++◌, length, map, take, drop, get_or, Option, Some, None, ◌⊎◌, inl, inr, refl, sym, ap, ◌∙◌, arith}
use Rattle.std.specs.Prelude.{◌||◌, nat_le, nat_lt}
use Rattle.std.specs.List.{filter, flat_map, fold, list_any, reduce}
use Rattle.std.proofs.lemmas.Bool.{cases_lt, or_cases, or_left, or_right, and_parts, and_from, leb-true, ltb-true, le-leb, lt-ltb}
use Rattle.std.proofs.lemmas.Bool.Decides.{nat_tests}
use Rattle.std.proofs.lemmas.List.{map_more, drop_more, drop_all, take_more, append-nil}
use Rattle.std.proofs.lemmas.List.Folds.{list_any_more, list_any-append}
use Rattle.std.proofs.lemmas.List.Sums.{fold_push}
use Rattle.std.proofs.lemmas.Grind.{flat_map-append}
use Rattle.oc_base.specs.declared.range.Range.{Range}
use Rattle.finite.specs.Least.{IsLeastOf}
use Rattle.finite.proofs.LeastFound.{Passes, least_same, least_found}
use Rattle.elf_read.specs.declared.elf.Section.{Section}
use Rattle.elf_read.specs.declared.elf.Segment.{Segment}
use Rattle.elf_read.specs.Whole.{segment_end}
use Rattle.image.specs.declared.ranges.TextRange.{TextRange}
use Rattle.image.specs.Texts.{text_words, words_from}
use Rattle.relocs.specs.Regions.{highest_end, is_between, in_segment, follows, is_taken, first_taken, is_aimed, address_of, least_of, segment_range, after_section, taken_ranges, in_range, Shares, lesser}

pub highest_more : (gs : List Segment) (i : ℕ) (d : Segment) → i < length gs → highest_end (take (i + 1) gs) ≡ max (highest_end (take i gs)) (segment_end (get_or gs i d))
unfolding highest_end
highest_more gs i d lt = rw (map_more segment_end gs i d lt) (fold_push max 0 (map segment_end (take i gs)) (segment_end (get_or gs i d)))

-- ---- the least taken address

-- what holds of R holds of P or of Q
pub record IsEither (P Q R : ℕ → Type 0) : Type 0 where
  pub split : (b : ℕ) → R b → P b ⊎ Q b
  pub left : (b : ℕ) → P b → R b
  pub right : (b : ℕ) → Q b → R b

lesser_holds : (R : ℕ → Type 0) (a c : ℕ) → R a → R c → R (min a c)
lesser_holds R a c x y =
    elim (cases_lt a c) [
      | inl h ↦ (let e : min a c ≡ a = omega arith in rw e x)
      | inr h ↦ (let e : min a c ≡ c = omega arith in rw e y)
    ]

pub least_of_two : (P Q R : ℕ → Type 0) (o p : Option ℕ) → IsEither P Q R → IsLeastOf P o → IsLeastOf Q p → IsLeastOf R (lesser o p)
least_of_two P Q R None None e h k = λ b r. elim (e.split b r) [ inl x ↦ h b x | inr y ↦ k b y ]
least_of_two P Q R None (Some a) e h k = (e.right a k.0, λ b r. elim (e.split b r) [ inl x ↦ absurd (h b x) | inr y ↦ k.1 b y ])
least_of_two P Q R (Some a) None e h k = (e.left a h.0, λ b r. elim (e.split b r) [ inl x ↦ h.1 b x | inr y ↦ absurd (k b y) ])
least_of_two P Q R (Some a) (Some c) e h k =
    (lesser_holds R a c (e.left a h.0) (e.right c k.0), λ b r. elim (e.split b r) [ inl x ↦ (let le = h.1 b x in omega arith) | inr y ↦ (let le = k.1 b y in omega arith) ])

pub one_more : (rs : List Range) (region : Range) (i : ℕ) (d : Range) → i < length rs → IsEither (Shares (take i rs) region) (λ a. (region.from ≤ a) × (a < region.to) × ((get_or rs i d).from ≤ a) × (a < (get_or rs i d).to)) (Shares (take (i + 1) rs) region)
one_more rs region i d lt =
    record {
      split = λ b r. (
          let both : (list_any (in_range b) (take i rs) || in_range b (get_or rs i d)) ≡ true = rw (← list_any_more (in_range b) rs i d lt) r.2 in
          elim (or_cases _ _ both) [
            | inl x ↦ inl (r.0, r.1, x)
            | inr y ↦ (let z = and_parts (nat_le (get_or rs i d).from b) (nat_lt b (get_or rs i d).to) y in inr (r.0, r.1, leb-true _ _ z.0, ltb-true _ _ z.1))
          ]);
      left = λ b x. (x.0, x.1, rw (list_any_more (in_range b) rs i d lt) (or_left _ _ x.2));
      right = λ b y. (y.0, y.1, rw (list_any_more (in_range b) rs i d lt) (or_right _ _ (and_from _ _ (le-leb _ _ y.2) (lt-ltb _ _ y.3))));
    }

in_segments : (a : ℕ) (gs : List Segment) → list_any (in_range a) (map segment_range gs) ≡ list_any (in_segment a) gs
in_segments a [] = refl
in_segments a (g ∷ gs) = ap (λ (b : Bool). in_segment a g || b) (in_segments a gs)

in_ends : (a : ℕ) (ss : List Section) → list_any (in_range a) (map after_section ss) ≡ list_any (follows a) ss
in_ends a [] = refl
in_ends a (s ∷ ss) = ap (λ (b : Bool). follows a s || b) (in_ends a ss)

four : (p q r s : Bool) → (((p || q) || (r || false)) || (s || false)) ≡ (p || (q || (r || s)))
four true q r s = refl
four false true r s = refl
four false false true s = refl
four false false false true = refl
four false false false false = refl

low_test : (a : ℕ) → is_between 0 0x1000 a ≡ nat_lt a 0x1000
low_test a = grind (arith, nat_tests)

high_test : (a : ℕ) → a < 2 ^ 64 - 1 → is_between 0x08000000 (2 ^ 64 - 1) a ≡ nat_le 0x08000000 a
high_test a lt = grind (arith, nat_tests)

-- the ranges have the taken addresses
pub taken_by_ranges : (gs : List Segment) (ss : List Section) (a : ℕ) → a < 2 ^ 64 - 1 → list_any (in_range a) (taken_ranges gs ss) ≡ is_taken gs ss a
unfolding taken_ranges
taken_by_ranges gs ss a lt =
    let low : Range = record { from = 0; to = 0x1000 } in
    let high : Range = record { from = 0x08000000; to = 2 ^ 64 - 1 } in
    let p = in_range a in
    list_any-append p ((map segment_range gs ++ map after_section ss) ++ low ∷ []) (high ∷ [])
    ∙ ap (λ (b : Bool). b || (p high || false)) (list_any-append p (map segment_range gs ++ map after_section ss) (low ∷ []))
    ∙ ap (λ (b : Bool). (b || (p low || false)) || (p high || false)) (list_any-append p (map segment_range gs) (map after_section ss))
    ∙ four (list_any p (map segment_range gs)) (list_any p (map after_section ss)) (p low) (p high)
    ∙ (rw (in_segments a gs, in_ends a ss, low_test a, high_test a lt) refl)

shares_passes : (gs : List Segment) (ss : List Section) (region : Range) (a : ℕ) → region.from ≤ region.to → region.to < 2 ^ 64 → Shares (taken_ranges gs ss) region a → Passes (is_taken gs ss) region.from (region.to - region.from) a
shares_passes gs ss region a ordered fits h = (h.0, omega (arith, h.1, ordered), sym (taken_by_ranges gs ss a (omega (arith, h.1, fits))) ∙ h.2)

passes_shares : (gs : List Segment) (ss : List Section) (region : Range) (a : ℕ) → region.from ≤ region.to → region.to < 2 ^ 64 → Passes (is_taken gs ss) region.from (region.to - region.from) a → Shares (taken_ranges gs ss) region a
passes_shares gs ss region a ordered fits h = (h.0, omega (arith, h.1, ordered), taken_by_ranges gs ss a (omega (arith, h.1, ordered, fits)) ∙ h.2)

pub first_by_ranges : (gs : List Segment) (ss : List Section) (region : Range) (o : Option ℕ) → region.from ≤ region.to → region.to < 2 ^ 64 → IsLeastOf (Shares (taken_ranges gs ss) region) o → o ≡ first_taken gs ss region
unfolding first_taken
first_by_ranges gs ss region o ordered fits h = least_found (is_taken gs ss) region.from (region.to - region.from) o (least_same (Shares (taken_ranges gs ss) region) (Passes (is_taken gs ss) region.from (region.to - region.from)) o (λ a. shares_passes gs ss region a ordered fits) (λ a. passes_shares gs ss region a ordered fits) h)

-- ---- the least word that goes into the region

pub lesser_assoc : (a b c : Option ℕ) → lesser (lesser a b) c ≡ lesser a (lesser b c)
lesser_assoc None b c = refl
lesser_assoc (Some a) None c = refl
lesser_assoc (Some a) (Some b) None = refl
lesser_assoc (Some a) (Some b) (Some c) = ap (λ (m : ℕ). Some m) (omega arith)

fold_min : (a : ℕ) (xs : List ℕ) → Some (fold min a xs) ≡ lesser (Some a) (reduce min xs)
fold_min a [] = refl
fold_min a (x ∷ xs) = fold_min (min a x) xs ∙ lesser_assoc (Some a) (Some x) (reduce min xs) ∙ ap (lesser (Some a)) (sym (fold_min x xs))

least_push : (b : Bool) (x : ℕ) (xs : List ℕ) → reduce min (cond b (x ∷ xs) xs) ≡ lesser (cond b (Some x) None) (reduce min xs)
least_push true x xs = fold_min x xs
least_push false x xs = refl

map_cond : (b : Bool) (e : ℕ × ℕ) (es : List (ℕ × ℕ)) → map address_of (cond b (e ∷ es) es) ≡ cond b (e.0 ∷ map address_of es) (map address_of es)
map_cond true e es = refl
map_cond false e es = refl

pub least_cons : (region : Range) (e : ℕ × ℕ) (es : List (ℕ × ℕ)) → least_of region (e ∷ es) ≡ lesser (cond (is_aimed region e) (Some e.0) None) (least_of region es)
unfolding least_of
least_cons region e es = ap (reduce min) (map_cond (is_aimed region e) e (filter (is_aimed region) es)) ∙ least_push (is_aimed region e) e.0 (map address_of (filter (is_aimed region) es))

pub least_none : (region : Range) → least_of region [] ≡ None
unfolding least_of
least_none region = refl

pub least_append : (region : Range) (xs ys : List (ℕ × ℕ)) → least_of region (xs ++ ys) ≡ lesser (least_of region xs) (least_of region ys)
least_append region [] ys = rw (least_none region) refl
least_append region (x ∷ xs) ys = least_cons region x (xs ++ ys) ∙ ap (lesser (cond (is_aimed region x) (Some x.0) None)) (least_append region xs ys) ∙ sym (lesser_assoc (cond (is_aimed region x) (Some x.0) None) (least_of region xs) (least_of region ys)) ∙ ap (λ o. lesser o (least_of region ys)) (sym (least_cons region x xs))

pub least_more : (region : Range) (a i d : ℕ) (ws : List ℕ) → i < length ws → least_of region (words_from (a + 4 * i) (drop i ws)) ≡ lesser (cond (is_aimed region (a + 4 * i, get_or ws i d)) (Some (a + 4 * i)) None) (least_of region (words_from (a + 4 * (i + 1)) (drop (i + 1) ws)))
least_more region a i d ws lt =
    let e : a + 4 * i + 4 ≡ a + 4 * (i + 1) = omega arith in
    rw (drop_more ws i d lt, ← e) (least_cons region (a + 4 * i, get_or ws i d) (words_from (a + 4 * i + 4) (drop (i + 1) ws)))

pub least_texts : (region : Range) (ts : List TextRange) (i : ℕ) (d : TextRange) → i < length ts → least_of region (flat_map text_words (take (i + 1) ts)) ≡ lesser (least_of region (flat_map text_words (take i ts))) (least_of region (text_words (get_or ts i d)))
least_texts region ts i d lt = rw (take_more ts i d lt, flat_map-append text_words (take i ts) (get_or ts i d ∷ []), append-nil (text_words (get_or ts i d))) (least_append region (flat_map text_words (take i ts)) (text_words (get_or ts i d)))

lesser_none : (o : Option ℕ) → o ≡ lesser o None
lesser_none None = refl
lesser_none (Some a) = refl

pub least_end : (region : Range) (a n : ℕ) (ws : List ℕ) (o : Option ℕ) → length ws ≤ n → o ≡ lesser o (least_of region (words_from a (drop n ws)))
least_end region a n ws o le = rw (drop_all n ws le, least_none region) (lesser_none o)
