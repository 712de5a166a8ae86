-- The free ranges after a layout has taken its part, and why what is placed in free ranges lies apart from the live layouts.
use Rattle.std.proofs.Common.{◌≡◌, ℕ, zero, suc, ◌+◌, ◌*◌, ◌%◌, ◌<◌, ◌≤◌, Bool, true, false, not, List, [], ◌∷◌, ◌++◌, length, get_or, refl, sym, ap, ◌∙◌, inl, inr, arith}
use Rattle.std.specs.Prelude.{nat_le, nat_lt, ◌&&◌, ◌||◌, ◌⊎◌, ◌↔◌, All, if◌then◌else◌}
use Rattle.std.specs.List.{flat_map, list_any, AllByRecursion}
use Rattle.std.proofs.lemmas.Bool.{cases_lt, and_parts, and_from, leb-true, ltb-true, le-leb, lt-ltb}
use Rattle.std.proofs.lemmas.Bool.Decides.{nat_tests}
use Rattle.std.proofs.lemmas.List.Elements.{recursion_from_All, All-from_recursion}
use Rattle.std.proofs.lemmas.List.Folds.{list_any-append, list_any_at}
use Rattle.oc_base.specs.declared.range.Range.{Range}
use Rattle.layout.specs.Laid.{Laid}
use Rattle.layout.specs.Apart.{LieApart, covers}
use Rattle.layout.specs.Points.{in_range}
use Rattle.region.specs.Free.{Rises, AreFree, is_free, range, piece, without, taken}
use Rattle.region.proofs.Taking.{took, taken_addresses, taken_none, none_addresses}

abbrev pub AreWhole : List Range → Type 0
AreWhole rs = AllByRecursion (λ r. r.from % 4 ≡ 0) rs

whole_append : (rs ss : List Range) → AreWhole rs → AreWhole ss → AreWhole (rs ++ ss)
whole_append [] ss h g = g
whole_append (r ∷ rs) ss h g = (h.0, whole_append rs ss h.1 g)

whole_piece : (from to : ℕ) → from % 4 ≡ 0 → AreWhole (piece from to)
whole_piece from to e = by_test (nat_lt from to)
  where
    by_test : (b : Bool) → AreWhole (if b then range from to ∷ [] else [])
    by_test true = (e, tt)
    by_test false = tt

whole_without : (from to : ℕ) (r : Range) → to % 4 ≡ 0 → r.from % 4 ≡ 0 → AreWhole (without from to r)
whole_without from to r e f = by_test (nat_le r.from from && nat_le to r.to)
  where
    by_test : (b : Bool) → AreWhole (if b then piece r.from from ++ piece to r.to else r ∷ [])
    by_test true = whole_append (piece r.from from) (piece to r.to) (whole_piece r.from from f) (whole_piece to r.to e)
    by_test false = (f, tt)

whole_each : (from to : ℕ) (rs : List Range) → to % 4 ≡ 0 → AreWhole rs → AreWhole (flat_map (without from to) rs)
whole_each from to [] e h = tt
whole_each from to (r ∷ rs) e h = whole_append (without from to r) (flat_map (without from to) rs) (whole_without from to r e h.0) (whole_each from to rs e h.1)

pub taken_whole : (from to : ℕ) (rs : List Range) → to % 4 ≡ 0 → All (λ (r : Range). r.from % 4 ≡ 0) rs → All (λ (r : Range). r.from % 4 ≡ 0) (taken from to rs)
unfolding taken
taken_whole from to rs e h = by_test (nat_lt from to)
  where
    by_test : (b : Bool) → All (λ (r : Range). r.from % 4 ≡ 0) (if b then flat_map (without from to) rs else rs)
    by_test true = All-from_recursion (λ (r : Range). r.from % 4 ≡ 0) (flat_map (without from to) rs) (whole_each from to rs e (recursion_from_All (λ (r : Range). r.from % 4 ≡ 0) rs h))
    by_test false = h

pub same_test : (x z : Bool) → (x ≡ true → z ≡ true) → (z ≡ true → x ≡ true) → x ≡ z
same_test true true f g = refl
same_test false false f g = refl
same_test true false f g = sym (f refl)
same_test false true f g = g refl

-- the bytes of one layout more are used
abbrev pub Rest : (before after : List Range) → Laid → Type 0
Rest before after l = (a : ℕ) → (is_free after a ≡ true) ↔ ((is_free before a ≡ true) × ((a < l.base) ⊎ (l.base + 4 * length l.words ≤ a)))

-- where y says whether the layouts so far use the byte
rest_by : (x y : Bool) (before after : List Range) (l : Laid) (a : ℕ) → is_free before a ≡ (x && not y) → (is_free after a ≡ true) ↔ ((is_free before a ≡ true) × ((a < l.base) ⊎ (l.base + 4 * length l.words ≤ a)))
    → is_free after a ≡ (x && not (y || (covers a l || false)))
rest_by x y before after l a s t = same_test (is_free after a) (x && not (y || (covers a l || false))) there back
  where
    away : (a < l.base) ⊎ (l.base + 4 * length l.words ≤ a) → covers a l ≡ false
    away (inl lt) = grind (arith, nat_tests, lt)
    away (inr le) = grind (arith, nat_tests, le)

    apart : covers a l ≡ false → (a < l.base) ⊎ (l.base + 4 * length l.words ≤ a)
    apart e = by_tests (nat_le l.base a) (nat_lt a (l.base + 4 * length l.words)) refl refl e
      where
        by_tests : (x y : Bool) → nat_le l.base a ≡ x → nat_lt a (l.base + 4 * length l.words) ≡ y → (x && y) ≡ false → (a < l.base) ⊎ (l.base + 4 * length l.words ≤ a)
        by_tests false y f g e = inl (grind (arith, nat_tests, f))
        by_tests true false f g e = inr (grind (arith, nat_tests, g))
        by_tests true true f g e = absurd (cc)

    both : (x y z : Bool) → (x && not y) ≡ true → z ≡ false → (x && not (y || (z || false))) ≡ true
    both true false z e f = rw f refl
    both true true z e f = absurd (cc)
    both false y z e f = e

    parts : (x y z : Bool) → (x && not (y || (z || false))) ≡ true → ((x && not y) ≡ true) × (z ≡ false)
    parts true false false e = (refl, refl)
    parts true false true e = absurd (cc)
    parts true true z e = absurd (cc)
    parts false y z e = absurd (cc)

    there : is_free after a ≡ true → (x && not (y || (covers a l || false))) ≡ true
    there e = let k = t.0 e in both x y (covers a l) (sym s ∙ k.0) (away k.1)

    back : (x && not (y || (covers a l || false))) ≡ true → is_free after a ≡ true
    back e = let k = parts x y (covers a l) e in t.1 (s ∙ k.0, apart k.1)

-- one layout more covers its bytes
pub rest_more : (r : Range) (before after : List Range) (lives : List Laid) (l : Laid) → ((a : ℕ) → is_free before a ≡ (in_range r a && not (list_any (covers a) lives))) → Rest before after l
    → (a : ℕ) → is_free after a ≡ (in_range r a && not (list_any (covers a) (lives ++ l ∷ [])))
rest_more r before after lives l s t a =
    rest_by (in_range r a) (list_any (covers a) lives) before after l a (s a) (t a) ∙ ap (λ b. in_range r a && not b) (sym (list_any-append (covers a) lives (l ∷ [])))

pub left_rises : (low high : ℕ) (rs : List Range) (at n : ℕ) → Rises low high rs → AreFree rs at n → Rises low high (taken at (at + n) rs)
left_rises low high rs at zero h f = rw (taken_none rs at) h
left_rises low high rs at (suc n) h f = (took low high rs at (suc n) h (omega arith) f).rises

pub left_addresses : (low high : ℕ) (rs : List Range) (at n a : ℕ) → Rises low high rs → AreFree rs at n
    → (is_free (taken at (at + n) rs) a ≡ true) ↔ ((is_free rs a ≡ true) × ((a < at) ⊎ (at + n ≤ a)))
left_addresses low high rs at zero a h f = rw (taken_none rs at) (none_addresses rs at a)
left_addresses low high rs at (suc n) a h f = taken_addresses low high rs at (suc n) a h (omega arith) f

-- ---- layouts that lie apart
pub covers_is : (a : ℕ) (l : Laid) → l.base ≤ a → a < l.base + 4 * length l.words → covers a l ≡ true
covers_is a l low high = and_from (nat_le l.base a) (nat_lt a (l.base + 4 * length l.words)) (le-leb l.base a low) (lt-ltb a (l.base + 4 * length l.words) high)

-- layouts that have words, and no byte in common
lie_apart : (l m : Laid) → 0 < length l.words → 0 < length m.words → ((a : ℕ) → covers a l ≡ true → covers a m ≡ true → ⊥) → LieApart l m
lie_apart l m some other clash = by_order (cases_lt m.base (l.base + 4 * length l.words)) (cases_lt l.base (m.base + 4 * length m.words)) (cases_lt m.base l.base)
  where
    by_order : (m.base < l.base + 4 * length l.words) ⊎ (l.base + 4 * length l.words ≤ m.base) → (l.base < m.base + 4 * length m.words) ⊎ (m.base + 4 * length m.words ≤ l.base)
        → (m.base < l.base) ⊎ (l.base ≤ m.base) → LieApart l m
    by_order (inr le) q r = inl le
    by_order (inl lt) (inr le) r = inr le
    by_order (inl lt) (inl gt) (inl r) = absurd (clash l.base (covers_is l.base l (omega arith) (omega (arith, some))) (covers_is l.base m (omega (arith, r)) gt))
    by_order (inl lt) (inl gt) (inr r) = absurd (clash m.base (covers_is m.base l r lt) (covers_is m.base m (omega arith) (omega (arith, other))))

-- what is placed at free addresses lies apart from every live layout
pub apart_from_lives : (r : Range) (free : List Range) (lives : List Laid) (l : Laid) → ((a : ℕ) → is_free free a ≡ (in_range r a && not (list_any (covers a) lives)))
    → All (λ m. 0 < length m.words) lives → 0 < length l.words → AreFree free l.base (4 * length l.words) → All (LieApart l) lives
apart_from_lives r free lives l rest some own unused i d lt = lie_apart l (get_or lives i d) own (some i d lt) both
  where
    used : (x y : Bool) → y ≡ true → (x && not y) ≡ true → ⊥
    used true true e f = cc
    used true false e f = cc
    used false y e f = cc

    both : (a : ℕ) → covers a l ≡ true → covers a (get_or lives i d) ≡ true → ⊥
    both a e f =
        let k = and_parts (nat_le l.base a) (nat_lt a (l.base + 4 * length l.words)) e in
        used (in_range r a) (list_any (covers a) lives) (list_any_at (covers a) lives i d lt f)
        (sym (rest a) ∙ unused a (leb-true l.base a k.0) (ltb-true a (l.base + 4 * length l.words) k.1))
