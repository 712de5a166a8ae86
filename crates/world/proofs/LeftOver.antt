-- A list without the elements at some positions.
use Rattle.std.proofs.Common.{◌≡◌, ℕ, zero, suc, ◌+◌, ◌-◌, ◌<◌, ◌≤◌, List, [], ◌∷◌, length, get_or, take, drop, refl, sym, ap, ◌∙◌, subst, inl, inr, arith}
use Rattle.std.specs.Prelude.{◌⊎◌, All, AllPairs, Contains, Some, slice_get}
use Rattle.std.proofs.lemmas.Bool.{cases_lt, cases_order}
use Rattle.std.proofs.lemmas.List.Edits.{length-remove, get_or-remove_below, get_or-remove_above}
use Rattle.std.proofs.lemmas.List.Elements.{All-head, All-tail, All-take, All-drop, All-append}
use Rattle.std.proofs.lemmas.List.Quantifiers.{all_pairs_remove}
use Rattle.std.proofs.lemmas.Option.{slice_get_within, get_or_from_slice_get, slice_get_read}
use Rattle.world.specs.Retiring.{without}

-- positions that ascend
abbrev pub Climbs : List ℕ → Type 0
Climbs [] = Unit {0}
Climbs (k ∷ ks) = All (λ q. k < q) ks × Climbs ks

pub climbs : (ks : List ℕ) → AllPairs (λ j k. j < k) ks → Climbs ks
climbs [] h = tt
climbs (k ∷ ks) h = (
  λ i d lt. h zero (suc i) d (omega arith) (omega (arith, lt)),
  climbs ks (λ i j d lt within. h (suc i) (suc j) d (omega (arith, lt)) (omega (arith, within))),
)

all_lower : (j k : ℕ) (ks : List ℕ) → j ≤ k → All (λ q. k < q) ks → All (λ q. j < q) ks
all_lower j k ks le h i d lt = let p = h i d lt in omega (arith, le, p)

-- ---- what holds of all of them, or of each two
pub all_without : {X : Type 0} (P : X → Type 0) (ks : List ℕ) (xs : List X) → All P xs → All P (without ks xs)
all_without P [] xs h = h
all_without P (k ∷ ks) xs h =
    let ys = without ks xs in
    let rest = all_without P ks xs h in
    All-append P (take k ys) (drop (suc k) ys) (All-take P k ys rest) (All-drop P (suc k) ys rest)

-- each position before these is one of the list that is left
pub long : {X : Type 0} (ks : List ℕ) (xs : List X) (m : ℕ) → Climbs ks → All (λ k. k < length xs) ks → m < length xs → All (λ q. m < q) ks → m < length (without ks xs)
long [] xs m c w lt h = lt
long (k ∷ ks) xs m c w lt h =
    let ys = without ks xs in
    let there = long ks xs k c.1 (All-tail (λ k. k < length xs) k ks w) (All-head (λ k. k < length xs) k ks w) c.0 in
    let size = length-remove ys k there in
    let p = All-head (λ q. m < q) k ks h in
    omega (arith, there, size, p)

pub is_there : {X : Type 0} (k : ℕ) (ks : List ℕ) (xs : List X) → Climbs (k ∷ ks) → All (λ k. k < length xs) (k ∷ ks) → k < length (without ks xs)
is_there k ks xs c w = long ks xs k c.1 (All-tail (λ k. k < length xs) k ks w) (All-head (λ k. k < length xs) k ks w) c.0

pub pairs_without : {X : Type 0} (R : X → X → Type 0) (ks : List ℕ) (xs : List X) → Climbs ks → All (λ k. k < length xs) ks → AllPairs R xs → AllPairs R (without ks xs)
pairs_without R [] xs c w h = h
pairs_without R (k ∷ ks) xs c w h =
    all_pairs_remove R (without ks xs) k (is_there k ks xs c w) (pairs_without R ks xs c.1 (All-tail (λ k. k < length xs) k ks w) h)

pub lengths_without : {X Y : Type 0} (ks : List ℕ) (xs : List X) (ys : List Y) → Climbs ks → All (λ k. k < length xs) ks → length xs ≡ length ys → length (without ks xs) ≡ length (without ks ys)
lengths_without [] xs ys c w e = e
lengths_without (k ∷ ks) xs ys c w e =
    let tail = All-tail (λ k. k < length xs) k ks w in
    let rest = lengths_without ks xs ys c.1 tail e in
    let there = is_there k ks xs c w in
    let one = length-remove (without ks xs) k there in
    let other = length-remove (without ks ys) k (omega (arith, there, rest)) in
    omega (arith, rest, one, other)

-- ---- from where an element came
pub record Came {X : Type 0} (ks : List ℕ) (xs : List X) (i : ℕ) : Type 0 where
  pub at : ℕ
  pub within : at < length xs
  pub later : i ≤ at
  pub early : All (λ q. i < q) ks → at ≡ i
  pub left : Contains ks at → ⊥
  pub same : (d : X) → get_or (without ks xs) i d ≡ get_or xs at d

cons_cases : (k : ℕ) (ks : List ℕ) (n : ℕ) → Contains (k ∷ ks) n → (k ≡ n) ⊎ Contains ks n
cons_cases k ks n (zero, lt, e) = inl e
cons_cases k ks n (suc i, lt, e) = inr (i, omega (arith, lt), e)

pub came : {X : Type 0} (ks : List ℕ) (xs : List X) (i : ℕ) → Climbs ks → All (λ k. k < length xs) ks → i < length (without ks xs) → Came ks xs i
came [] xs i c w lt = record { at = i; within = lt; later = omega arith; early = λ h. refl; left = none; same = λ d. refl }
  where
    none : Contains [] i → ⊥
    none (n, l, e) = omega (arith, l)
came {X} (k ∷ ks) xs i c w lt =
    let there = is_there k ks xs c w in
    let size = length-remove (without ks xs) k there in
    elim (cases_lt i k) [
      | inl below ↦ by_below below (came ks xs i c.1 (All-tail (λ k. k < length xs) k ks w) (omega (arith, lt, size)))
      | inr above ↦ by_above above (came ks xs (i + 1) c.1 (All-tail (λ k. k < length xs) k ks w) (omega (arith, lt, size)))
    ]
  where
    here : k < length (without ks xs)
    here = is_there k ks xs c w

    by_below : i < k → Came ks xs i → Came (k ∷ ks) xs i
    by_below below h =
        let stays : h.at ≡ i = h.early (all_lower i k ks (omega (arith, below)) c.0) in
        record {
          at = h.at;
          within = h.within;
          later = h.later;
          early = λ all. stays;
          left = λ n. elim (cons_cases k ks h.at n) [
            | inl e ↦ omega (arith, e, stays, below)
            | inr m ↦ h.left m
          ];
          same = λ d. get_or-remove_below (without ks xs) k d i below here ∙ h.same d;
        }

    by_above : k ≤ i → Came ks xs (i + 1) → Came (k ∷ ks) xs i
    by_above above h =
        let later = h.later in
        record {
          at = h.at;
          within = h.within;
          later = omega (arith, later);
          early = λ all. (let p = All-head (λ q. i < q) k ks all in absurd (omega (arith, p, above)));
          left = λ n. elim (cons_cases k ks h.at n) [
            | inl e ↦ omega (arith, e, later, above)
            | inr m ↦ h.left m
          ];
          same = λ d. get_or-remove_above (without ks xs) k d i above here ∙ h.same d;
        }

-- ---- where an element that is left goes
pub record Went {X : Type 0} (ks : List ℕ) (xs : List X) (k : ℕ) : Type 0 where
  pub at : ℕ
  pub within : at < length (without ks xs)
  pub early : All (λ q. at < q) ks → at ≡ k
  pub same : (d : X) → get_or (without ks xs) at d ≡ get_or xs k d

pub went : {X : Type 0} (ks : List ℕ) (xs : List X) (k : ℕ) → Climbs ks → All (λ k. k < length xs) ks → k < length xs → (Contains ks k → ⊥) → Went ks xs k
went [] xs k c w lt n = record { at = k; within = lt; early = λ h. refl; same = λ d. refl }
went {X} (q ∷ ks) xs k c w lt n = by_rest (went ks xs k c.1 (All-tail (λ k. k < length xs) q ks w) lt (λ m. n (more m)))
  where
    more : Contains ks k → Contains (q ∷ ks) k
    more (i, l, e) = (suc i, omega (arith, l), e)

    here : q < length (without ks xs)
    here = is_there q ks xs c w

    by_rest : Went ks xs k → Went (q ∷ ks) xs k
    by_rest h =
        let size = length-remove (without ks xs) q here in
        let within = h.within in
        elim (cases_order h.at q) [
          | inl same ↦ absurd (n (zero, omega arith, sym same ∙ h.early (subst (λ (m : ℕ). All (λ r. m < r) ks) (sym same) c.0)))
          | inr (inl below) ↦ record {
            at = h.at;
            within = omega (arith, size, below, here);
            early = λ all. h.early (All-tail (λ r. h.at < r) q ks all);
            same = λ d. get_or-remove_below (without ks xs) q d h.at below here ∙ h.same d;
          }
          | inr (inr above) ↦ record {
            at = h.at - 1;
            within = omega (arith, size, above, within);
            early = λ all. (let p = All-head (λ r. h.at - 1 < r) q ks all in absurd (omega (arith, p, above)));
            same = λ d. get_or-remove_above (without ks xs) q d (h.at - 1) (omega (arith, above)) here ∙ back d above ∙ h.same d;
          }
        ]
      where
        back : (d : X) → q < h.at → get_or (without ks xs) (h.at - 1 + 1) d ≡ get_or (without ks xs) h.at d
        back d above = let e : h.at - 1 + 1 ≡ h.at = omega (arith, above) in ap (λ (m : ℕ). get_or (without ks xs) m d) e

-- ---- in words of reads
pub came_from : {X : Type 0} (ks : List ℕ) (xs : List X) (i : ℕ) (x : X) → Climbs ks → All (λ k. k < length xs) ks → slice_get (without ks xs) i ≡ Some x
    → (k : ℕ) × (slice_get xs k ≡ Some x) × (Contains ks k → ⊥)
came_from ks xs i x c w e =
    let h = came ks xs i c w (slice_get_within (without ks xs) i x e) in
    (h.at, slice_get_read xs (length xs) h.at x refl h.within (sym (sym (h.same x) ∙ get_or_from_slice_get (without ks xs) i x x e)), h.left)

pub went_to : {X : Type 0} (ks : List ℕ) (xs : List X) (k : ℕ) (x : X) → Climbs ks → All (λ k. k < length xs) ks → slice_get xs k ≡ Some x → (Contains ks k → ⊥)
    → (i : ℕ) × (slice_get (without ks xs) i ≡ Some x)
went_to ks xs k x c w e n =
    let h = went ks xs k c w (slice_get_within xs k x e) n in
    (h.at, slice_get_read (without ks xs) (length (without ks xs)) h.at x refl h.within (sym (h.same x ∙ get_or_from_slice_get xs k x x e)))

-- before these positions nothing has moved
pub before_all : {X : Type 0} (k : ℕ) (ks : List ℕ) (xs : List X) (d : X) → Climbs (k ∷ ks) → All (λ k. k < length xs) (k ∷ ks) → get_or (without ks xs) k d ≡ get_or xs k d
before_all k ks xs d c w =
    let h = came ks xs k c.1 (All-tail (λ k. k < length xs) k ks w) (is_there k ks xs c w) in
    h.same d ∙ ap (λ (m : ℕ). get_or xs m d) (h.early c.0)

pub read_before : {X : Type 0} (k : ℕ) (ks : List ℕ) (xs : List X) (x : X) → Climbs (k ∷ ks) → All (λ k. k < length xs) (k ∷ ks) → slice_get xs k ≡ Some x → slice_get (without ks xs) k ≡ Some x
read_before k ks xs x c w e =
    slice_get_read (without ks xs) (length (without ks xs)) k x refl (is_there k ks xs c w) (sym (before_all k ks xs x c w ∙ get_or_from_slice_get xs k x x e))

pub climbs_drop : (i : ℕ) (ks : List ℕ) → Climbs ks → Climbs (drop i ks)
climbs_drop zero ks c = c
climbs_drop (suc i) [] c = tt
climbs_drop (suc i) (k ∷ ks) c = climbs_drop i ks c.1

-- positions below n are at most n
room : (n low : ℕ) (ks : List ℕ) → Climbs ks → All (λ k. k < n) ks → low ≤ n → All (λ k. low ≤ k) ks → low + length ks ≤ n
room n low [] c w le h = omega (arith, le)
room n low (k ∷ ks) c w le h =
    let one = All-head (λ k. low ≤ k) k ks h in
    let below = All-head (λ k. k < n) k ks w in
    let rest = room n (k + 1) ks c.1 (All-tail (λ k. k < n) k ks w) (omega (arith, below)) (λ i d lt. (let p = c.0 i d lt in omega (arith, p))) in
    omega (arith, one, rest)

pub at_most : (n : ℕ) (ks : List ℕ) → Climbs ks → All (λ k. k < n) ks → length ks ≤ n
at_most n ks c w = let r = room n 0 ks c w (omega arith) (λ i d lt. omega arith) in omega (arith, r)
