-- Pairs of a profile, each counted once.
use Rattle.std.proofs.Common.{◌≡◌, ℕ, suc, ◌+◌, ◌<◌, ◌≤◌, ◌^◌, Bool, true, false, not, cond, length, take, get_or, List, [], ◌∷◌, ◌⊎◌, inl, inr, refl, sym, ap, subst, ◌∙◌, arith}
use Rattle.std.specs.Prelude.{◌==◌, ◌&&◌, ◌||◌, if◌then◌else◌, AllPairs, Contains, slice_get}
use Rattle.std.specs.List.{filter, list_any, sum_by}
use Rattle.std.specs.BTreeMap.{is_at}
use Rattle.std.specs.BTreeSet.{BTreeSet, contains}
use Rattle.std.proofs.lemmas.Bool.{and_parts}
use Rattle.std.proofs.lemmas.List.Sums.{sum_by-cons, sum_by-le-sum_by}
use Rattle.image.specs.declared.ranges.Func.{Func}
use Rattle.branch_ring.specs.declared.counted.Counted.{Counted}
use Rattle.branch_ring.specs.Profiles.{Precedes, count_of, IsKept}
use Rattle.place_funcs.specs.Edges.{is_in, is_held, count_from, count}
use Rattle.place_funcs.specs.Links.{names_cmp}
use Rattle.std.proofs.lemmas.List.{take_all, take_more}
use Rattle.std.proofs.lemmas.List.Elements.{Contains-get_or}
use Rattle.std.proofs.lemmas.List.Folds.{list_any-append}
use Rattle.place_funcs.specs.Rows.{leaving}
use Rattle.place_funcs.specs.Counts.{has_pair, counted_in, is_same}
use Rattle.branch_ring.proofs.Ascending.{in_head, in_tail, in_none, split_at}
use Rattle.place_funcs.proofs.Members.{from_filter, to_filter}
use Rattle.place_funcs.proofs.LinkLaws.{alike, same_true}
use Rattle.place_funcs.proofs.Places.{at_names}

-- sums that agree at each element
sum_agrees : (n m : Counted → ℕ) (ps : List Counted) → ((c : Counted) → Contains ps c → n c ≡ m c) → sum_by n ps ≡ sum_by m ps
sum_agrees n m [] h = refl
sum_agrees n m (c ∷ ps) h =
    let a = sum_by-cons n c ps in
    let b = sum_by-cons m c ps in
    let e = h c (in_head c ps) in
    let r = sum_agrees n m ps (λ d i. h d (in_tail c ps d i)) in
    omega (arith, a, b, e, r)

or_true : (b : Bool) → (b || true) ≡ true
or_true true = refl
or_true false = refl

or_false : (b : Bool) → (b || false) ≡ b
or_false true = refl
or_false false = refl

same_self : (c : Counted) → is_same c c ≡ true
same_self c = ap (λ (t : Bool). t && (c.to == c.to)) (alike c.from) ∙ alike c.to

tail_precedes : (c : Counted) (ps : List Counted) → AllPairs Precedes (c ∷ ps) → AllPairs Precedes ps
tail_precedes c ps up i j d lt within = up (suc i) (suc j) d (omega (arith, lt)) (omega (arith, within))

precedes_in : (c : Counted) (ps : List Counted) (d : Counted) → AllPairs Precedes (c ∷ ps) → Contains ps d → Precedes c d
precedes_in c ps d up h = subst (λ y. Precedes c y) h.2 (up 0 (suc h.0) d (omega arith) (omega (arith, h.1)))

-- a pair that precedes another isn't the same
apart : (c d : Counted) → Precedes c d → (is_same c d ≡ false) × (is_same d c ≡ false)
apart c d h = (by_test (is_same c d) refl, by_turned (is_same d c) refl)
  where
    both_false : c.from ≡ d.from → c.to ≡ d.to → ⊥
    both_false e f = grind arith

    by_test : (t : Bool) → is_same c d ≡ t → t ≡ false
    by_test true e = let p = and_parts (d.from == c.from) (d.to == c.to) e in absurd (both_false (sym (same_true d.from c.from p.0)) (sym (same_true d.to c.to p.1)))
    by_test false e = refl

    by_turned : (t : Bool) → is_same d c ≡ t → t ≡ false
    by_turned true e = let p = and_parts (c.from == d.from) (c.to == d.to) e in absurd (both_false (same_true c.from d.from p.0) (same_true c.to d.to p.1))
    by_turned false e = refl

abbrev sum_if : (Counted → Bool) → List Counted → ℕ
sum_if has ps = sum_by (λ c. if has c then c.count else 0) ps

-- one pair more is seen
sum_more : (has : Counted → Bool) (row : Counted) (ps : List Counted) → AllPairs Precedes ps → Contains ps row → has row ≡ false → sum_if (λ c. has c || is_same row c) ps ≡ sum_if has ps + row.count
sum_more has row [] up i e = absurd (in_none row i)
sum_more has row (c ∷ ps) up i e = by_place (split_at c ps row i) (λ j. sum_more has row ps (tail_precedes c ps up) j e)
  where
    a : sum_if (λ c. has c || is_same row c) (c ∷ ps) ≡ (if has c || is_same row c then c.count else 0) + sum_if (λ c. has c || is_same row c) ps
    a = sum_by-cons (λ c. if has c || is_same row c then c.count else 0) c ps

    b : sum_if has (c ∷ ps) ≡ (if has c then c.count else 0) + sum_if has ps
    b = sum_by-cons (λ c. if has c then c.count else 0) c ps

    by_place : (row ≡ c) ⊎ Contains ps row → (Contains ps row → sum_if (λ c. has c || is_same row c) ps ≡ sum_if has ps + row.count) → sum_if (λ c. has c || is_same row c) (c ∷ ps) ≡ sum_if has (c ∷ ps) + row.count
    by_place (inl s) ih =
        let here : (if has c || is_same row c then c.count else 0) ≡ row.count = subst (λ (x : Counted). (if has x || is_same row x then x.count else 0) ≡ row.count) s (ap (λ (t : Bool). if has row || t then row.count else 0) (same_self row) ∙ ap (λ (t : Bool). if t then row.count else 0) (or_true (has row))) in
        let was : (if has c then c.count else 0) ≡ 0 = subst (λ (x : Counted). (if has x then x.count else 0) ≡ 0) s (ap (λ (t : Bool). if t then row.count else 0) e) in
        let rest : sum_if (λ c. has c || is_same row c) ps ≡ sum_if has ps =
        sum_agrees (λ c. if has c || is_same row c then c.count else 0) (λ c. if has c then c.count else 0) ps
        (λ d j. ap (λ (t : Bool). if has d || t then d.count else 0) (apart row d (subst (λ (x : Counted). Precedes x d) (sym s) (precedes_in c ps d up j))).0 ∙ ap (λ (t : Bool). if t then d.count else 0) (or_false (has d))) in
        omega (arith, a, b, here, was, rest)
    by_place (inr j) ih =
        let here : (if has c || is_same row c then c.count else 0) ≡ (if has c then c.count else 0) = ap (λ (t : Bool). if has c || t then c.count else 0) (apart c row (precedes_in c ps row up j)).1 ∙ ap (λ (t : Bool). if t then c.count else 0) (or_false (has c)) in
        let rest = ih j in
        omega (arith, a, b, here, rest)

turned_pair : (row c : Counted) → is_at (names_cmp (row.from, row.to)) (c.from, c.to) ≡ is_same row c
turned_pair row c = at_names row.from row.to c.from c.to

seen_after : (t : Bool) (d : Bool) → cond t true d ≡ (d || t)
seen_after true d = sym (or_true d)
seen_after false d = sym (or_false d)

pub now_seen : (old new : BTreeSet (ℕ × ℕ)) (row : Counted) → ((q : ℕ × ℕ) → contains names_cmp new q ≡ cond (is_at (names_cmp (row.from, row.to)) q) true (contains names_cmp old q))
    → (c : Counted) → has_pair new c ≡ (has_pair old c || is_same row c)
now_seen old new row h c = h (c.from, c.to) ∙ ap (λ (t : Bool). cond t true (has_pair old c)) (turned_pair row c) ∙ seen_after (is_same row c) (has_pair old c)

module _ (old new : BTreeSet (ℕ × ℕ)) (row : Counted) (ps : List Counted) (kept : IsKept ps) (there : Contains ps row) (seen : (c : Counted) → has_pair new c ≡ (has_pair old c || is_same row c)) where
  new_sum : sum_by (counted_in new) ps ≡ sum_if (λ c. has_pair old c || is_same row c) ps
  new_sum = sum_agrees (counted_in new) (λ c. if has_pair old c || is_same row c then c.count else 0) ps (λ c i. ap (λ (t : Bool). if t then c.count else 0) (seen c))

  pub one_more : has_pair old row ≡ false → sum_by (counted_in new) ps ≡ sum_by (counted_in old) ps + row.count
  one_more e = new_sum ∙ sum_more (has_pair old) row ps kept.ascends there e

  pub none_more : has_pair old row ≡ true → sum_by (counted_in new) ps ≡ sum_by (counted_in old) ps
  none_more e = new_sum ∙ sum_agrees (λ c. if has_pair old c || is_same row c then c.count else 0) (counted_in old) ps (λ c i. ap (λ (t : Bool). if t then c.count else 0) (absorbed c (is_same row c) refl))
    where
      absorbed : (c : Counted) (t : Bool) → is_same row c ≡ t → (has_pair old c || t) ≡ has_pair old c
      absorbed c true s =
          let p = and_parts (c.from == row.from) (c.to == row.to) s in
          let same : has_pair old c ≡ true = ap (λ (x : ℕ). contains names_cmp old (x, c.to)) (same_true c.from row.from p.0) ∙ ap (λ (x : ℕ). contains names_cmp old (row.from, x)) (same_true c.to row.to p.1) ∙ e in
          or_true (has_pair old c) ∙ sym same
      absorbed c false s = or_false (has_pair old c)

pub low_sum : (seen : BTreeSet (ℕ × ℕ)) (ps : List Counted) → IsKept ps → sum_by (counted_in seen) ps < 2 ^ 62
low_sum seen ps kept = let a = sum_by-le-sum_by (counted_in seen) count_of ps (λ c. low (has_pair seen c) c.count) in let b = kept.small in omega (arith, a, b)
  where
    low : (t : Bool) (n : ℕ) → (if t then n else 0) ≤ n
    low true n = omega arith
    low false n = omega arith

-- a pair of the profile is among those that go from a function if it does
any_true : {X : Type 0} (p : X → Bool) (xs : List X) (x : X) → Contains xs x → p x ≡ true → list_any p xs ≡ true
any_true p [] x h e = absurd (in_none x h)
any_true {X} p (y ∷ ys) x h e = by_place (split_at y ys x h) (λ i. any_true p ys x i e)
  where
    by_place : (x ≡ y) ⊎ Contains ys x → (Contains ys x → list_any p ys ≡ true) → (p y || list_any p ys) ≡ true
    by_place (inl s) ih = ap (λ (t : Bool). t || list_any p ys) (ap p (sym s) ∙ e)
    by_place (inr i) ih = ap (λ (t : Bool). p y || t) (ih i) ∙ or_true (p y)

any_is : {X : Type 0} (p : X → Bool) (xs : List X) → list_any p xs ≡ true → (x : X) × Contains xs x × (p x ≡ true)
any_is p [] e = absurd cc
any_is {X} p (y ∷ ys) e = by_test (p y) refl e (λ k. any_is p ys k)
  where
    by_test : (t : Bool) → p y ≡ t → (t || list_any p ys) ≡ true → (list_any p ys ≡ true → (x : X) × Contains ys x × (p x ≡ true)) → (x : X) × Contains (y ∷ ys) x × (p x ≡ true)
    by_test true s k ih = (y, in_head y ys, s)
    by_test false s k ih = let r = ih k in (r.0, in_tail y ys r.0 r.1, r.2)

pub among : (funcs : List Func) (ps : List Counted) (f : ℕ) (c : Counted) → Contains ps c → list_any (λ r. is_same r c) (filter (λ d. is_in d.from (slice_get funcs f)) ps) ≡ is_in c.from (slice_get funcs f)
among funcs ps f c i = by_test (is_in c.from (slice_get funcs f)) refl
  where
    from_f : Counted → Bool
    from_f d = is_in d.from (slice_get funcs f)

    by_any : (t : Bool) → list_any (λ r. is_same r c) (filter (λ d. is_in d.from (slice_get funcs f)) ps) ≡ t → is_in c.from (slice_get funcs f) ≡ false → t ≡ false
    by_any false e s = refl
    by_any true e s =
        let r = any_is (λ r. is_same r c) (filter (λ d. is_in d.from (slice_get funcs f)) ps) e in
        let k = from_filter (λ (d : Counted). is_in d.from (slice_get funcs f)) ps r.0 r.1 in
        let p = and_parts (c.from == r.0.from) (c.to == r.0.to) r.2 in
        let q : is_in c.from (slice_get funcs f) ≡ true = ap (λ (x : ℕ). is_in x (slice_get funcs f)) (same_true c.from r.0.from p.0) ∙ k.1 in
        sym q ∙ s

    by_test : (t : Bool) → is_in c.from (slice_get funcs f) ≡ t → list_any (λ r. is_same r c) (filter (λ d. is_in d.from (slice_get funcs f)) ps) ≡ t
    by_test true e = any_true (λ r. is_same r c) (filter (λ d. is_in d.from (slice_get funcs f)) ps) c (to_filter (λ (d : Counted). is_in d.from (slice_get funcs f)) ps c i e) (same_self c)
    by_test false e = by_any (list_any (λ r. is_same r c) (filter (λ d. is_in d.from (slice_get funcs f)) ps)) refl e

pub all_counted : (funcs : List Func) (ps : List Counted) (fs : List ℕ) (seen : BTreeSet (ℕ × ℕ)) → ((c : Counted) → Contains ps c → has_pair seen c ≡ is_held funcs fs c.from) → sum_by (counted_in seen) ps ≡ count funcs ps fs
unfolding count
all_counted funcs ps fs seen h = sum_agrees (counted_in seen) (count_from funcs ps fs) ps (λ c i. ap (λ (t : Bool). if t then c.count else 0) (h c i))

pub none_counted : (ps : List Counted) (seen : BTreeSet (ℕ × ℕ)) → seen.keys ≡ [] → (0 ≡ sum_by (counted_in seen) ps) × ((c : Counted) → has_pair seen c ≡ false)
none_counted ps seen e = (sym (sum_agrees (counted_in seen) (λ c. 0) ps (λ c i. ap (λ (t : Bool). if t then c.count else 0) (nothing c)) ∙ zeros ps), nothing)
  where
    nothing : (c : Counted) → has_pair seen c ≡ false
    nothing c = ap (λ (ks : List (ℕ × ℕ)). list_any (is_at (names_cmp (c.from, c.to))) ks) e

    zeros : (ps : List Counted) → sum_by (λ (c : Counted). 0) ps ≡ 0
    zeros [] = refl
    zeros (c ∷ ps) = let a = sum_by-cons (λ (c : Counted). 0) c ps in let r = zeros ps in omega (arith, a, r)

pub not_yet : (had added : Bool) → added ≡ not had → added ≡ true → had ≡ false
not_yet true added e f = absurd (let t : true ≡ false = sym f ∙ e in cc)
not_yet false added e f = refl

pub already : (had added : Bool) → added ≡ not had → added ≡ false → had ≡ true
already true added e f = refl
already false added e f = absurd (let t : true ≡ false = sym e ∙ f in cc)

-- a pair that goes from a function is one of the profile
pub row_there : (funcs : List Func) (ps rows : List Counted) (f i : ℕ) (d : Counted) → rows ≡ leaving funcs ps f → i < length rows → Contains ps (get_or rows i d)
row_there funcs ps rows f i d e lt =
    (from_filter (λ (c : Counted). is_in c.from (slice_get funcs f)) ps (get_or rows i d)
    (subst (λ (xs : List Counted). Contains xs (get_or rows i d)) e (Contains-get_or rows i d lt))).0

-- when all that go from a function are counted
pub leaving_counted : (funcs : List Func) (ps rows : List Counted) (f i : ℕ) (was now : Counted → Bool) → rows ≡ leaving funcs ps f → length rows ≤ i → ((c : Counted) → now c ≡ (was c || list_any (λ r. is_same r c) (take i rows)))
    → (c : Counted) → Contains ps c → now c ≡ (was c || is_in c.from (slice_get funcs f))
leaving_counted funcs ps rows f i was now e le h c there =
    h c
    ∙ ap (λ (xs : List Counted). was c || list_any (λ r. is_same r c) xs) (take_all i rows le ∙ e)
    ∙ ap (λ (t : Bool). was c || t) (among funcs ps f c there)

-- one function more
pub held_more : (funcs : List Func) (fs : List ℕ) (i a : ℕ) (was now : Bool) → i < length fs → was ≡ is_held funcs (take i fs) a → now ≡ (was || is_in a (slice_get funcs (get_or fs i 0))) → now ≡ is_held funcs (take (i + 1) fs) a
held_more funcs fs i a was now lt e h =
    h ∙ ap (λ (t : Bool). t || is_in a (slice_get funcs (get_or fs i 0))) e
    ∙ ap (λ (t : Bool). is_held funcs (take i fs) a || t) (sym (or_false (is_in a (slice_get funcs (get_or fs i 0)))))
    ∙ sym (ap (λ (xs : List ℕ). is_held funcs xs a) (take_more fs i 0 lt) ∙ list_any-append (λ f. is_in a (slice_get funcs f)) (take i fs) (get_or fs i 0 ∷ []))
