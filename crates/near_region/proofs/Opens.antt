-- The longest gap among the near pages is the best region.
use Rattle.std.proofs.Common.{◌≡◌, ◌∙◌, ℕ, ◌+◌, ◌-◌, ◌*◌, ◌/◌, ◌<◌, ◌≤◌, ◌⊎◌, ◌↔◌, ◌&&◌, inl, inr, Bool, true, false, List, [], ◌∷◌, All, length, slice_index_or, get_or, take, min, Some, None, arith, refl, sym, ap, subst}
use Rattle.std.specs.List.{list_all}
use Rattle.std.proofs.lemmas.Bool.{cases_lt, false≢true}
use Rattle.std.proofs.lemmas.List.{take_more, take_all}
use Rattle.std.proofs.lemmas.List.Folds.{list_all-append}
use Rattle.oc_base.specs.declared.range.Range.{Range}
use Rattle.image.specs.declared.ranges.TextRange.{TextRange}
use Rattle.image.specs.declared.ranges.Part.{Part}
use Rattle.image.specs.Texts.{targets}
use Rattle.image.specs.Picture.{IsText, IsRegion, IsFree, IsPaged}
use Rattle.near_region.specs.Regions.{is_beside, IsNear, IsOpen, IsBetter, IsBest}
use Rattle.near_region.specs.Pages.{pages_range, AreTaken, AreNearPages, AreCut, IsGap, IsLongest}
use Rattle.near_region.proofs.Besides.{some_near}

-- ---- near pages, one text range after another
pub none_near : (last : ℕ) → last ≡ 32768 → AreNearPages [] 0 last
none_near last e p q some fits = ((λ _. (omega arith, omega (arith, fits, e))), (λ _. refl))

both : (x y : Bool) → (x && y) ≡ true → (x ≡ true) × (y ≡ true)
both true y e = (refl, e)
both false y e = absurd (false≢true e)

join : (x y : Bool) → x ≡ true → y ≡ true → (x && y) ≡ true
join true y e f = f
join false y e f = e

all_one : (f : TextRange → Bool) (t : TextRange) → (list_all f (t ∷ []) ≡ true) ↔ (f t ≡ true)
all_one f t = ((λ e. (both (f t) true e).0), (λ e. join (f t) true e refl))

all_more : (f : TextRange → Bool) (ts : List TextRange) (i : ℕ) (d : TextRange) → i < length ts → (list_all f (take (i + 1) ts) ≡ true) ↔ ((list_all f (take i ts) ≡ true) × (f (get_or ts i d) ≡ true))
all_more f ts i d lt = (to, back)
  where
    e : list_all f (take (i + 1) ts) ≡ (list_all f (take i ts) && list_all f (get_or ts i d ∷ []))
    e = ap (list_all f) (take_more ts i d lt) ∙ list_all-append f (take i ts) (get_or ts i d ∷ [])

    to : list_all f (take (i + 1) ts) ≡ true → (list_all f (take i ts) ≡ true) × (f (get_or ts i d) ≡ true)
    to all = let s = both (list_all f (take i ts)) (list_all f (get_or ts i d ∷ [])) (sym e ∙ all) in (s.0, (all_one f (get_or ts i d)).0 s.1)

    back : (list_all f (take i ts) ≡ true) × (f (get_or ts i d) ≡ true) → list_all f (take (i + 1) ts) ≡ true
    back s = e ∙ join (list_all f (take i ts)) (list_all f (get_or ts i d ∷ [])) s.0 ((all_one f (get_or ts i d)).1 s.1)

pub near_more : (ts : List TextRange) (i : ℕ) (d : TextRange) (first last low high : ℕ) → i < length ts → AreNearPages (take i ts) first last → AreCut (get_or ts i d) first last low high → AreNearPages (take (i + 1) ts) low high
near_more ts i d first last low high lt near cut p q some fits =
    let n = near p q some fits in let c = cut p q some in let m = all_more (is_beside (pages_range p q)) ts i d lt in
    ((λ all. let s = m.0 all in c.0 (n.0 s.0, s.1)), (λ s. let h = c.1 s in m.1 (n.1 h.0, h.1)))

-- the first page is no later than the last
pub near_ordered : (ts : List TextRange) (i first last low : ℕ) → length ts ≤ i → low ≡ min first last → AreNearPages (take i ts) first last → AreNearPages ts low last
near_ordered ts i first last low done e near = subst (λ (l : List TextRange). AreNearPages l low last) (take_all i ts done) (λ p q some fits. (
    let n = near p q some fits in (
      (λ all. let s = n.0 all in let from = s.0 in (omega (arith, e, from), s.1)),
      (λ s. let from = s.0 in let to = s.1 in n.1 (omega (arith, e, from, to, some), to)),
    )))

-- ---- gaps and open regions
module _ (texts : List TextRange) (parts : List Part) (fit : All IsText texts) (taken : List Bool) (pages : AreTaken texts parts taken) (first last : ℕ) (within : last ≤ 32768) (near : AreNearPages texts first last) where
  is_near : (p q : ℕ) → p < q → (list_all (is_beside (pages_range p q)) texts ≡ true) ↔ IsNear texts (pages_range p q)
  is_near p q some = some_near texts (pages_range p q) fit (record { ordered = omega (arith, some); first = omega arith; last = omega arith }) (λ e. let same : 4096 * p ≡ 4096 * q = e in omega (arith, same, some)) (list_all (is_beside (pages_range p q)) texts) refl

  gap_region : (p q : ℕ) → IsGap taken first last p q → IsRegion texts parts (pages_range p q)
  gap_region p q gap = let some = gap.some in record {
    pages = record { ordered = omega (arith, some); first = omega arith; last = omega arith };
    free = λ a from to. (page (a / 4096) (omega (arith, from)) (omega (arith, to))).free a (omega arith) (omega arith);
    no_aims = λ k d lt. aim k d lt (slice_index_or (targets texts) k d) refl;
  }
    where
      page : (n : ℕ) → p ≤ n → n < q → IsRegion texts parts (pages_range n (n + 1))
      page n from to = (pages n).0 (gap.free n from to)

      never : (a : ℕ) → (a < 4096 * (a / 4096)) ⊎ (4096 * (a / 4096 + 1) ≤ a) → ⊥
      never a (inl less) = omega (arith, less)
      never a (inr more) = omega (arith, more)

      aim : (k d : ℕ) → k < length (targets texts) → (a : ℕ) → slice_index_or (targets texts) k d ≡ a → (a < 4096 * p) ⊎ (4096 * q ≤ a)
      aim k d lt a e = elim (cases_lt a (4096 * p)) [
        | inl less ↦ inl less
        | inr from ↦ elim (cases_lt a (4096 * q)) [
          | inl to ↦ absurd (never a (subst (λ (x : ℕ). (x < 4096 * (a / 4096)) ⊎ (4096 * (a / 4096 + 1) ≤ x)) e ((page (a / 4096) (omega (arith, from)) (omega (arith, to))).no_aims k d lt)))
          | inr past ↦ inr past
        ]
      ]

  gap_open : (p q : ℕ) → IsGap taken first last p q → IsOpen texts parts (pages_range p q)
  gap_open p q gap = let some = gap.some in let high = gap.high in let fits = within in record {
    some = omega (arith, some);
    region = gap_region p q gap;
    near = (is_near p q some).0 ((near p q some (omega (arith, high, fits))).1 (gap.low, gap.high));
  }

  one_page : (p q n : ℕ) → IsRegion texts parts (pages_range p q) → p ≤ n → n < q → IsRegion texts parts (pages_range n (n + 1))
  one_page p q n region from to = record {
    pages = record { ordered = omega arith; first = omega arith; last = omega arith };
    free = λ a low high. region.free a (omega (arith, low, from)) (omega (arith, high, to));
    no_aims = λ k d lt. off (slice_index_or (targets texts) k d) (region.no_aims k d lt);
  }
    where
      off : (a : ℕ) → (a < 4096 * p) ⊎ (4096 * q ≤ a) → (a < 4096 * n) ⊎ (4096 * (n + 1) ≤ a)
      off a (inl less) = inl (omega (arith, less, from))
      off a (inr more) = inr (omega (arith, more, to))

  open_gap : (p q : ℕ) → IsOpen texts parts (pages_range p q) → IsGap taken first last p q
  open_gap p q is =
      let less : 4096 * p < 4096 * q = is.some in
      let some : p < q = omega (arith, less) in
      let end : IsFree texts parts (4096 * q - 1) = is.region.free (4096 * q - 1) (omega (arith, some)) (omega (arith, some)) in
      let high = end.high in
      let ends = (near p q some (omega (arith, high))).0 ((is_near p q some).1 is.near) in
      record { some = some; low = ends.0; high = ends.1; free = λ n from to. (pages n).1 (one_page p q n is.region from to) }

  paged : (r : Range) → IsPaged r → r ≡ pages_range (r.from / 4096) (r.to / 4096)
  paged r is =
      let f = is.first in let l = is.last in
      let from : r.from ≡ 4096 * (r.from / 4096) = omega (arith, f) in
      let to : r.to ≡ 4096 * (r.to / 4096) = omega (arith, l) in
      ap (λ x. record { from = x; to = r.to }) from ∙ ap (λ x. record { from = 4096 * (r.from / 4096); to = x }) to

  better : (p q x y : ℕ) → (y - x < q - p) ⊎ ((y - x ≡ q - p) × (p ≤ x)) → IsBetter (pages_range p q) (pages_range x y)
  better p q x y (inl less) = inl (omega (arith, less))
  better p q x y (inr s) = let e = s.0 in let l = s.1 in inr (omega (arith, e), omega (arith, l))

  pub best_gap : (p q : ℕ) → IsLongest taken first last (Some (p, q)) → IsBest texts parts (Some (pages_range p q))
  best_gap p q (gap, most) = (
    gap_open p q gap,
    λ s is.
        subst (λ (r : Range). IsBetter (pages_range p q) r) (sym (paged s is.region.pages))
        (better p q (s.from / 4096) (s.to / 4096) (most (s.from / 4096) (s.to / 4096) (open_gap (s.from / 4096) (s.to / 4096) (subst (λ (r : Range). IsOpen texts parts r) (paged s is.region.pages) is)))),
  )

  pub no_best : IsLongest taken first last None → IsBest texts parts None
  no_best none s is = none (s.from / 4096) (s.to / 4096) (open_gap (s.from / 4096) (s.to / 4096) (subst (λ (r : Range). IsOpen texts parts r) (paged s is.region.pages) is))
