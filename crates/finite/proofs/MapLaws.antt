-- What is read of the tables and sets of specs/Maps.antt after each way to make one, and that reads tell all of them.
use Rattle.std.proofs.Common.{◌≡◌, ℕ, zero, suc, ◌+◌, ◌-◌, ◌*◌, ◌/◌, ◌%◌, ◌<◌, ◌≤◌, Bool, true, false, cond, not, ◌&&◌, ◌||◌, nat_eq, Option, Some, None, is_some, List, [], ◌∷◌, T, map as list_map, refl, sym, ap, subst, ◌∙◌, ⊎_elim, add-one, arith}
use Rattle.std.specs.Ordering.{nat_cmp, eq_by_cmp}
use Rattle.std.specs.Cmp.{nat_cmp_total}
use Rattle.std.specs.FinMap as map
use Rattle.std.proofs.lemmas.Bool.{cases_eq, eq-eqb, ne_eqb, and_left, and_right, and_parts, and_from}
use Rattle.std.proofs.lemmas.Bool.Decides.{nat_tests}
use Rattle.finite.specs.Maps.{Table, Places, kept, at, contains, zeros, nowhere, within, fill_one, fill, mark_one, mark, contains_all, items}

unkept : ℕ → Option ℕ
unkept zero = None
unkept (suc n) = Some n

unkept-kept : (x : Option ℕ) → unkept (kept x) ≡ x
unfolding kept unkept
unkept-kept None = refl
unkept-kept (Some n) = refl

kept-inj : (x y : Option ℕ) → kept x ≡ kept y → x ≡ y
kept-inj x y e = sym (unkept-kept x) ∙ ap unkept e ∙ unkept-kept y

tied : (q k : ℕ) → eq_by_cmp nat_cmp q k ≡ nat_eq q k
tied q k = grind (arith, nat_tests)

or_cond : (b c : Bool) → (b || c) ≡ cond b true c
or_cond true c = refl
or_cond false c = refl

and_cond : (b c : Bool) → (not b && c) ≡ cond b false c
and_cond true c = refl
and_cond false c = refl

within-more : (lo n q : ℕ) → within lo (suc n) q ≡ (nat_eq q (lo + n) || within lo n q)
within-more lo n q = grind (arith, nat_tests)

kept-cond : (b : Bool) (x y : Option ℕ) → kept (cond b x y) ≡ cond b (kept x) (kept y)
kept-cond true x y = refl
kept-cond false x y = refl

at-fill_one : (m : Table) (k b q : ℕ) → at (fill_one m k b) q ≡ cond (nat_eq q k) b (at m q)
unfolding at fill_one kept
at-fill_one m k zero q =
    ap kept (map.get-remove nat_cmp_total m k q) ∙ kept-cond _ _ _
    ∙ ap (λ b. cond b 0 (at m q)) (tied q k)
at-fill_one m k (suc b) q =
    ap kept (map.get-insert nat_cmp_total m k b q) ∙ kept-cond _ _ _
    ∙ ap (λ t. cond t (suc b) (at m q)) (tied q k)

is_some-cond : (b : Bool) (x y : Option (Unit {0})) → is_some (cond b x y) ≡ cond b (is_some x) (is_some y)
is_some-cond true x y = refl
is_some-cond false x y = refl

contains-mark_one : (s : Places) (k : ℕ) (b : Bool) (q : ℕ) → contains (mark_one s k b) q ≡ cond (nat_eq q k) b (contains s q)
unfolding mark_one contains
contains-mark_one s k true q =
    ap is_some (map.get-insert nat_cmp_total s k tt q) ∙ is_some-cond (eq_by_cmp nat_cmp q k) (Some tt) (map.get s q)
    ∙ ap (λ t. cond t true (is_some (map.get s q))) (tied q k)
contains-mark_one s k false q =
    ap is_some (map.get-remove nat_cmp_total s k q) ∙ is_some-cond (eq_by_cmp nat_cmp q k) None (map.get s q)
    ∙ ap (λ t. cond t false (is_some (map.get s q))) (tied q k)

-- one more place at the end
one_more : {X : Type 0} (lo n q : ℕ) (f : ℕ → X) (v : X) → cond (nat_eq q (lo + n)) (f (lo + n)) (cond (within lo n q) (f q) v) ≡ cond (within lo (suc n) q) (f q) v
one_more lo n q f v =
    ⊎_elim
    (λ (e : q ≡ lo + n). rw (within-more lo n q, e) (grind (arith, nat_tests)))
    (λ (ne : q ≡ lo + n → ⊥). rw within-more (grind (arith, nat_tests)))
    (cases_eq q (lo + n))

pub at-fill : (m : Table) (lo n : ℕ) (f : ℕ → ℕ) (q : ℕ) → at (fill m lo n f) q ≡ cond (within lo n q) (f q) (at m q)
unfolding fill
at-fill m lo zero f q = grind (arith, nat_tests)
at-fill m lo (suc n) f q =
    at-fill_one (fill m lo n f) (lo + n) (f (lo + n)) q
    ∙ ap (cond (nat_eq q (lo + n)) (f (lo + n))) (at-fill m lo n f q)
    ∙ one_more lo n q f (at m q)

pub contains-mark : (s : Places) (lo n : ℕ) (p : ℕ → Bool) (q : ℕ) → contains (mark s lo n p) q ≡ cond (within lo n q) (p q) (contains s q)
unfolding mark
contains-mark s lo zero p q = grind (arith, nat_tests)
contains-mark s lo (suc n) p q =
    contains-mark_one (mark s lo n p) (lo + n) (p (lo + n)) q
    ∙ ap (cond (nat_eq q (lo + n)) (p (lo + n))) (contains-mark s lo n p q)
    ∙ one_more lo n q p (contains s q)

pub same_table : (m n : Table) → ((q : ℕ) → at m q ≡ at n q) → m ≡ n
unfolding at
same_table m n h = map.same_map nat_cmp_total map.nat_cmp-IsAntisymmetric m n (λ q. kept-inj _ _ (h q))

one_unit : (x y : Option (Unit {0})) → is_some x ≡ is_some y → x ≡ y
one_unit None None e = refl
one_unit None (Some u) e = cc
one_unit (Some u) None e = cc
one_unit (Some u) (Some v) e = refl

pub same_places : (s t : Places) → ((q : ℕ) → contains s q ≡ contains t q) → s ≡ t
unfolding contains
same_places s t h = map.same_map nat_cmp_total map.nat_cmp-IsAntisymmetric s t (λ q. one_unit (map.get s q) (map.get t q) (h q))

pub at-zeros : (q : ℕ) → at zeros q ≡ 0
unfolding at zeros kept
at-zeros q = ap kept (map.get-empty nat_cmp q)

pub contains-nowhere : (q : ℕ) → contains nowhere q ≡ false
unfolding nowhere contains
contains-nowhere q = ap is_some (map.get-empty nat_cmp q)

abbrev pub units : List ℕ → List (ℕ × Unit {0})
units [] = []
units (k ∷ ks) = (k, tt) ∷ units ks

firsts : (ks : List ℕ) → list_map (λ (e : ℕ × Unit {0}). e.0) (units ks) ≡ ks
firsts [] = refl
firsts (k ∷ ks) = ap (λ (xs : List ℕ). k ∷ xs) (firsts ks)

-- the ascending list that has just the numbers of a set
pub items_are : (s : Places) (ks : List ℕ) → T (map.is_sorted nat_cmp (units ks)) → ((q : ℕ) → contains s q ≡ is_some (map.find nat_cmp q (units ks))) → items s ≡ ks
unfolding items contains
items_are s ks h is =
    let t : Places = map.from_sorted (units ks) in
    ap map.keys (same_places s t (λ q. is q ∙ sym (ap is_some (map.get-from_sorted nat_cmp (units ks) q h))))
    ∙ ap (list_map (λ (e : ℕ × Unit {0}). e.0)) (map.entries-from_sorted nat_cmp (units ks) h)
    ∙ firsts ks

pub in_range : (lo n q : ℕ) → lo ≤ q → q < lo + n → within lo n q ≡ true
in_range lo n q a b = grind (arith, nat_tests)

pub out_of_range : (lo n q : ℕ) → (lo ≤ q → q < lo + n → ⊥) → within lo n q ≡ false
out_of_range lo n q h = grind (arith, nat_tests)

-- ---- words of 8 places
-- an alteration of the word w, at the place j of the word v
pub fill_word : (m : Table) (w v j : ℕ) (f : ℕ → ℕ) → j < 8 → at (fill m (8 * w) 8 (λ q. f (q - 8 * w))) (8 * v + j) ≡ cond (nat_eq v w) (f j) (at m (8 * v + j))
fill_word m w v j f h =
    at-fill m (8 * w) 8 (λ q. f (q - 8 * w)) (8 * v + j)
    ∙ ⊎_elim
    (λ (same : v ≡ w).
    let t : within (8 * w) 8 (8 * v + j) ≡ true = in_range (8 * w) 8 (8 * v + j) (omega arith) (omega arith) in
    let d : 8 * v + j - 8 * w ≡ j = omega arith in
    rw (t, d, eq-eqb v w same) refl)
    (λ (other : v ≡ w → ⊥).
    let t : within (8 * w) 8 (8 * v + j) ≡ false = out_of_range (8 * w) 8 (8 * v + j) (λ a b. other (omega arith)) in
    rw (t, ne_eqb v w other) refl)
    (cases_eq v w)

pub mark_at : (s : Places) (w v : ℕ) (b : Bool) → contains (mark s w 1 (λ _. b)) v ≡ cond (nat_eq v w) b (contains s v)
mark_at s w v b =
    contains-mark s w 1 (λ _. b) v
    ∙ ap (λ t. cond t b (contains s v)) (grind (arith, nat_tests))

-- word by word
pub same_by_words : (m n : Table) → ((w j : ℕ) → j < 8 → at m (8 * w + j) ≡ at n (8 * w + j)) → (q : ℕ) → at m q ≡ at n q
same_by_words m n h q =
    let e : 8 * (q / 8) + q % 8 ≡ q = omega arith in
    subst (λ x. at m x ≡ at n x) e (h (q / 8) (q % 8) (omega arith))

-- ---- all of a run of places
pub all-none : (s : Places) (lo : ℕ) → contains_all s lo 0 ≡ true
unfolding contains_all
all-none s lo = refl

pub all-more : (s : Places) (lo k : ℕ) → contains_all s lo k ≡ true → contains s (lo + k) ≡ true → contains_all s lo (k + 1) ≡ true
unfolding contains_all
all-more s lo k h e = rw add-one (and_from (contains_all s lo k) (contains s (lo + k)) h e)

-- one place that isn't in the set
pub all-cut : (s : Places) (lo k n : ℕ) → k < n → contains s (lo + k) ≡ false → contains_all s lo n ≡ false
unfolding contains_all
all-cut s lo k zero h e = absurd (omega arith)
all-cut s lo k (suc n) h e =
    ⊎_elim
    (λ (same : k ≡ n). and_right (contains_all s lo n) (contains s (lo + n)) (rw same at e))
    (λ (other : k ≡ n → ⊥). and_left (contains_all s lo n) (contains s (lo + n)) (all-cut s lo k n (omega arith) e))
    (cases_eq k n)

-- the last of a run that is all in the set
pub all-last : (s : Places) (lo n : ℕ) → contains_all s lo (suc n) ≡ true → contains s (lo + n) ≡ true
unfolding contains_all
all-last s lo n h = (and_parts (contains_all s lo n) (contains s (lo + n)) h).1
