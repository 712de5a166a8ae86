-- A layout that is given up, and its range, which is free then.
use Rattle.std.proofs.Common.{◌≡◌, ◌≢◌, ℕ, zero, suc, ◌+◌, ◌*◌, ◌%◌, ◌^◌, ◌<◌, ◌≤◌, ◌==◌, eqb, Bool, true, false, not, List, [], ◌∷◌, length, map, get_or, refl, sym, ap, ◌∙◌, subst, inl, inr, arith}
use Rattle.std.specs.Prelude.{nat_le, nat_lt, ◌&&◌, ◌||◌, ◌⊎◌, ◌↔◌, All, AllPairs, Some, slice_get, if◌then◌else◌}
use Rattle.std.specs.List.{list_any, remove}
use Rattle.std.proofs.lemmas.Bool.{cases_lt, and_parts, leb-true, ltb-true, le-leb, lt-ltb, eqb-true, eq-eqb}
use Rattle.std.proofs.lemmas.List.{length-map, get_or-map}
use Rattle.std.proofs.lemmas.List.Edits.{length-remove, get_or-remove_below, get_or-remove_above}
use Rattle.std.proofs.lemmas.List.Elements.{All-take, All-drop, All-append, recursion_from_All, All-from_recursion}
use Rattle.std.proofs.lemmas.List.Folds.{list_any_none, Any-from_list_any}
use Rattle.std.proofs.lemmas.List.Quantifiers.{all_pairs_remove}
use Rattle.std.proofs.lemmas.Map.Made.{IsDistinct-from_AllPairs}
use Rattle.std.proofs.lemmas.Map.Steps.{length-le_from_distinct_below}
use Rattle.std.proofs.lemmas.Option.{slice_get_within, get_or_from_slice_get}
use Rattle.oc_base.specs.declared.range.Range.{Range}
use Rattle.layout.specs.Laid.{Laid, IsLaid}
use Rattle.layout.specs.Apart.{LieApart, covers}
use Rattle.layout.specs.Points.{in_range}
use Rattle.region.specs.Free.{is_free, range, put_before, put_here, put_in, given}
use Rattle.region.proofs.Giving.{given_rises, given_addresses}
use Rattle.world.specs.Retiring.{AreSpread, range_of}
use Rattle.world.proofs.FreeRanges.{AreWhole, same_test, covers_is}

-- ---- free ranges begin at whole words
whole_before : (r : Range) (rs : List Range) → r.from % 4 ≡ 0 → AreWhole rs → AreWhole (put_before r rs)
whole_before r [] e h = (e, tt)
whole_before r (s ∷ rs) e h = by_test (r.to == s.from)
  where
    by_test : (b : Bool) → AreWhole (if b then range r.from s.to ∷ rs else r ∷ s ∷ rs)
    by_test true = (e, h.1)
    by_test false = (e, h)

whole_here : (r : Range) (rs : List Range) → r.from % 4 ≡ 0 → AreWhole rs → AreWhole (put_here r rs)
whole_here r [] e h = (e, tt)
whole_here r (s ∷ rs) e h = by_test (s.to == r.from)
  where
    by_test : (b : Bool) → AreWhole (if b then put_before (range s.from r.to) rs else put_before r (s ∷ rs))
    by_test true = whole_before (range s.from r.to) rs h.0 h.1
    by_test false = whole_before r (s ∷ rs) e h

whole_in : (r : Range) (rs : List Range) → r.from % 4 ≡ 0 → AreWhole rs → AreWhole (put_in r rs)
whole_in r [] e h = (e, tt)
whole_in r (s ∷ rs) e h = by_test (nat_le r.from s.to) (whole_in r rs e h.1)
  where
    by_test : (b : Bool) → AreWhole (put_in r rs) → AreWhole (if b then put_here r (s ∷ rs) else s ∷ put_in r rs)
    by_test true rest = whole_here r (s ∷ rs) e h
    by_test false rest = (h.0, rest)

given_whole : (r : Range) (rs : List Range) → r.from % 4 ≡ 0 → All (λ (s : Range). s.from % 4 ≡ 0) rs → All (λ (s : Range). s.from % 4 ≡ 0) (given r rs)
unfolding given
given_whole r rs e h = by_test (nat_lt r.from r.to)
  where
    by_test : (b : Bool) → All (λ (s : Range). s.from % 4 ≡ 0) (if b then put_in r rs else rs)
    by_test true = All-from_recursion (λ (s : Range). s.from % 4 ≡ 0) (put_in r rs) (whole_in r rs e (recursion_from_All (λ (s : Range). s.from % 4 ≡ 0) rs h))
    by_test false = h

-- ---- the layout at a position and the others
any_more : {X : Type 0} (p : X → Bool) (xs : List X) (k : ℕ) (x : X) → slice_get xs k ≡ Some x → list_any p xs ≡ (p x || list_any p (remove xs k))
any_more p [] k x e = absurd (cc)
any_more p (y ∷ ys) zero x e = let same : y ≡ x = cc in ap (λ z. p z || list_any p ys) same
any_more p (y ∷ ys) (suc k) x e = ap (λ b. p y || b) (any_more p ys k x e) ∙ turn (p y) (p x) (list_any p (remove ys k))
  where
    turn : (a b c : Bool) → (a || (b || c)) ≡ (b || (a || c))
    turn true true c = refl
    turn true false c = refl
    turn false b c = refl

apart_turn : (l m : Laid) → LieApart l m → LieApart m l
apart_turn l m (inl h) = inr h
apart_turn l m (inr h) = inl h

apart_others : (lives : List Laid) (k : ℕ) (l : Laid) → slice_get lives k ≡ Some l → AllPairs LieApart lives → All (LieApart l) (remove lives k)
apart_others lives k l e apart i d lt =
    let there = slice_get_within lives k l e in
    let size = length-remove lives k there in
    elim (cases_lt i k) [
      | inl below ↦ subst (λ (m : Laid). LieApart l m) (sym (get_or-remove_below lives k d i below there))
          (apart_turn (get_or lives i d) l (subst (λ (m : Laid). LieApart (get_or lives i d) m) (get_or_from_slice_get lives k l d e) (apart i k d below there)))
      | inr above ↦ subst (λ (m : Laid). LieApart l m) (sym (get_or-remove_above lives k d i above there))
          (subst (λ (m : Laid). LieApart m (get_or lives (i + 1) d)) (get_or_from_slice_get lives k l d e) (apart k (i + 1) d (omega (arith, above)) (omega (arith, lt, size))))
    ]

pub covers_parts : (a : ℕ) (l : Laid) → covers a l ≡ true → (l.base ≤ a) × (a < l.base + 4 * length l.words)
covers_parts a l e = let q = and_parts (nat_le l.base a) (nat_lt a (l.base + 4 * length l.words)) e in (leb-true l.base a q.0, ltb-true a (l.base + 4 * length l.words) q.1)

not_covered : (a : ℕ) (l m : Laid) → covers a l ≡ true → LieApart l m → covers a m ≡ false
not_covered a l m e h = by_test (covers a m) refl
  where
    both : LieApart l m → covers a m ≡ true → ⊥
    both (inl g) f = let p = covers_parts a l e in let q = covers_parts a m f in omega (arith, p.1, q.0, g)
    both (inr g) f = let p = covers_parts a l e in let q = covers_parts a m f in omega (arith, p.0, q.1, g)

    by_test : (b : Bool) → covers a m ≡ b → covers a m ≡ false
    by_test true f = absurd (both h f)
    by_test false f = f

others_free : (a : ℕ) (l : Laid) (ms : List Laid) → covers a l ≡ true → All (LieApart l) ms → list_any (covers a) ms ≡ false
others_free a l ms e h = list_any_none (covers a) ms (λ i d lt. not_covered a l (get_or ms i d) e (h i d lt))

-- ---- one layout is given up
module _ (r : Range) (lives : List Laid) (free : List Range) (k : ℕ) (l : Laid) (e : slice_get lives k ≡ Some l) (s : AreSpread r lives free) where
  there : k < length lives
  there = slice_get_within lives k l e

  of_it : (P : Laid → Type 0) → All P lives → P l
  of_it P h = subst P (get_or_from_slice_get lives k l l e) (h k l there)

  pub has_words : 0 < length l.words
  has_words = of_it (λ (m : Laid). 0 < length m.words) s.some

  pub lies : (r.from ≤ l.base) × (l.base + 4 * length l.words ≤ r.to)
  lies = of_it (λ (m : Laid). (r.from ≤ m.base) × (m.base + 4 * length m.words ≤ r.to)) s.within

  -- its bytes are used before
  pub used : (a : ℕ) → l.base ≤ a → a < l.base + 4 * length l.words → is_free free a ≡ true → ⊥
  used a p q f = by_rest (in_range r a) (sym (s.rest a) ∙ f)
    where
      covered : list_any (covers a) lives ≡ true
      covered = any_more (covers a) lives k l e ∙ ap (λ b. b || list_any (covers a) (remove lives k)) (covers_is a l p q)

      by_rest : (b : Bool) → (b && not (list_any (covers a) lives)) ≡ true → ⊥
      by_rest true g = let h = sym (ap not covered) ∙ g in absurd (cc)
      by_rest false g = absurd (cc)

  part : Range
  part = range_of l

  rest_again : (a : ℕ) → is_free (given (range_of l) free) a ≡ (in_range r a && not (list_any (covers a) (remove lives k)))
  rest_again a = same_test (is_free (given (range_of l) free) a) (in_range r a && not (list_any (covers a) (remove lives k))) there_is back
    where
      addresses : (is_free (given (range_of l) free) a ≡ true) ↔ ((is_free free a ≡ true) ⊎ ((l.base ≤ a) × (a < l.base + 4 * length l.words)))
      addresses = given_addresses (range_of l) r.from r.to free a (let p = has_words in omega (arith, p)) s.rises used

      parts : (x y z : Bool) → (x && not (y || z)) ≡ true → (x ≡ true) × (z ≡ false)
      parts true true z g = absurd (cc)
      parts true false true g = absurd (cc)
      parts true false false g = (refl, refl)
      parts false y z g = absurd (cc)

      inside : (l.base ≤ a) × (a < l.base + 4 * length l.words) → in_range r a ≡ true
      inside c = let p = lies in rw (le-leb r.from a (omega (arith, c.0, p.0)), lt-ltb a r.to (omega (arith, c.1, p.1))) refl

      there_is : is_free (given (range_of l) free) a ≡ true → (in_range r a && not (list_any (covers a) (remove lives k))) ≡ true
      there_is f = elim (addresses.0 f) [
        | inl g ↦ (
            let q = parts (in_range r a) (covers a l) (list_any (covers a) (remove lives k))
            (ap (λ b. in_range r a && not b) (sym (any_more (covers a) lives k l e)) ∙ sym (s.rest a) ∙ g) in
            rw (q.0, q.1) refl)
        | inr c ↦ rw (inside c, others_free a l (remove lives k) (covers_is a l c.0 c.1) (apart_others lives k l e s.apart)) refl
      ]

      back : (in_range r a && not (list_any (covers a) (remove lives k))) ≡ true → is_free (given (range_of l) free) a ≡ true
      back f = by_test (covers a l) refl
        where
          by_test : (b : Bool) → covers a l ≡ b → is_free (given (range_of l) free) a ≡ true
          by_test true c = addresses.1 (inr (covers_parts a l c))
          by_test false c =
              addresses.1 (inl (s.rest a ∙ ap (λ b. in_range r a && not b) (any_more (covers a) lives k l e ∙ ap (λ b. b || list_any (covers a) (remove lives k)) c) ∙ f))

  all_others : (P : Laid → Type 0) → All P lives → All P (remove lives k)
  all_others P h = All-append P _ _ (All-take P k lives h) (All-drop P (suc k) lives h)

  pub spread_again : AreSpread r (remove lives k) (given (range_of l) free)
  spread_again = record {
    laid = all_others IsLaid s.laid;
    some = all_others (λ (m : Laid). 0 < length m.words) s.some;
    within = all_others (λ (m : Laid). (r.from ≤ m.base) × (m.base + 4 * length m.words ≤ r.to)) s.within;
    apart = all_pairs_remove LieApart lives k there s.apart;
    rises = (let p = has_words in given_rises (range_of l) r.from r.to free lies.0 (omega (arith, p)) lies.1 s.rises used);
    whole = given_whole (range_of l) free (of_it IsLaid s.laid).whole s.whole;
    rest = rest_again;
  }

-- ---- how many there can be
abbrev base_of : Laid → ℕ
base_of l = l.base

-- each has a base of its own
bases_differ : (r : Range) (lives : List Laid) (free : List Range) (d : Laid) → AreSpread r lives free → AllPairs (λ x y. x ≢ y) (map base_of lives)
bases_differ r lives free d s i j e lt within same =
    let size = length-map lives base_of in
    let there : j < length lives = omega (arith, within, size) in
    let first : get_or (map base_of lives) i e ≡ (get_or lives i d).base = get_or-map base_of lives i d e (omega (arith, lt, there)) in
    let second : get_or (map base_of lives) j e ≡ (get_or lives j d).base = get_or-map base_of lives j d e there in
    clash (get_or lives i d) (get_or lives j d) (s.apart i j d lt there) (s.some i d (omega (arith, lt, there))) (s.some j d there) (sym first ∙ same ∙ second)
  where
    clash : (l m : Laid) → LieApart l m → 0 < length l.words → 0 < length m.words → l.base ≡ m.base → ⊥
    clash l m (inl h) p q e = omega (arith, h, p, e)
    clash l m (inr h) p q e = omega (arith, h, q, e)

-- below the end of the guest's addresses
bases_low : (r : Range) (lives : List Laid) (free : List Range) (d : Laid) → AreSpread r lives free → (q : ℕ) → list_any (eqb q) (map base_of lives) ≡ true → q < 0x08000000
bases_low r lives free d s q e =
    let a = Any-from_list_any (eqb q) (map base_of lives) e in
    let lt = a.2 in
    let size = length-map lives base_of in
    let there : a.0 < length lives = omega (arith, lt, size) in
    let same : get_or (map base_of lives) a.0 a.1 ≡ (get_or lives a.0 d).base = get_or-map base_of lives a.0 d a.1 there in
    let is : q ≡ (get_or lives a.0 d).base = eqb-true q a.1 a.4 ∙ sym a.3 ∙ same in
    let high = (s.laid a.0 d there).high in
    let some = s.some a.0 d there in
    omega (arith, is, high, some)

pub few : (r : Range) (lives : List Laid) (free : List Range) → AreSpread r lives free → length lives < 2 ^ 32
few r [] free s = omega arith
few r (l ∷ ls) free s =
    let size = length-map (l ∷ ls) base_of in
    let most = length-le_from_distinct_below (map base_of (l ∷ ls)) 0x08000000
    (IsDistinct-from_AllPairs (λ a b. (eqb-true a b, eq-eqb a b)) (map base_of (l ∷ ls)) (bases_differ r (l ∷ ls) free l s)) (bases_low r (l ∷ ls) free l s) in
    omega (arith, size, most)
