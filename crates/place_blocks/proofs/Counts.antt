-- How often each block stands in chains.
use Rattle.std.proofs.Common.{◌≡◌, ℕ, zero, suc, ◌+◌, ◌<◌, ◌≤◌, ◌==◌, Bool, true, false, cond, List, [], ◌∷◌, ◌++◌, map, length, get_or, take, min, inl, inr, refl, sym, ◌∙◌, subst, ap, ap₂, arith}
use Rattle.std.specs.Prelude.{◌||◌, ◌⊎◌, slice_set, nat_lt}
use Rattle.std.specs.List.{range_with_len}
use Rattle.std.proofs.lemmas.Bool.{eq-eqb, ne_eqb, cases_eq, cases_lt, lt-ltb, le-ltb}
use Rattle.std.proofs.lemmas.List.{get_or-set_other, take_more}
use Rattle.std.proofs.lemmas.List.Sums.{sum_by-cons, sum_by-append, sum_by-set}
use Rattle.place_blocks.specs.Orders.{least, is_first, single, singles}
use Rattle.place_blocks.specs.Places.{times, times_in}
use Rattle.place_blocks.specs.Slots.{is_full, slot, chains_in}

abbrev pub pick : Bool → ℕ → ℕ → ℕ
pick b x y = cond b x y

abbrev pub is : ℕ → ℕ → ℕ
is b c = pick (c == b) 1 0

pub times_cons : (b c : ℕ) (chain : List ℕ) → times b (c ∷ chain) ≡ is b c + times b chain
times_cons b c chain = sum_by-cons (is b) c chain

pub times_append : (b : ℕ) (c d : List ℕ) → times b (c ++ d) ≡ times b c + times b d
times_append b c d = sum_by-append (is b) c d

pub times_in_cons : (b : ℕ) (c : List ℕ) (chains : List (List ℕ)) → times_in b (c ∷ chains) ≡ times b c + times_in b chains
times_in_cons b c chains = sum_by-cons (times b) c chains

-- a block that goes from one slot into another
pub joined_times : (b : ℕ) (xs : List (List ℕ)) (h t : ℕ) → h < length xs → t < length xs → (h ≡ t → ⊥) → length (slice_set xs t []) ≡ length xs
    → times_in b (slice_set (slice_set xs t []) h (slot xs h ++ slot xs t)) ≡ times_in b xs
joined_times b xs h t lh lt apart size =
    let one = sum_by-set (times b) xs t [] [] lt in
    let two = sum_by-set (times b) (slice_set xs t []) h (slot xs h ++ slot xs t) [] (omega (arith, size, lh)) in
    let same = ap (times b) (get_or-set_other xs t h [] [] apart) in
    let parts = times_append b (slot xs h) (slot xs t) in
    omega (arith, one, two, same, parts)

pub times_kept : (b : ℕ) (slots : List (List ℕ)) → times_in b (chains_in slots) ≡ times_in b slots
times_kept b [] = refl
times_kept b ([] ∷ slots) = let a = times_in_cons b [] slots in let e = times_kept b slots in omega (arith, a, e)
times_kept b ((k ∷ c) ∷ slots) =
    let a = times_in_cons b (k ∷ c) slots in
    let d = times_in_cons b (k ∷ c) (chains_in slots) in
    let e = times_kept b slots in
    omega (arith, a, d, e)

pub is_here : (b : ℕ) → is b b ≡ 1
is_here b = ap (λ (x : Bool). pick x 1 0) (eq-eqb b b refl)

is_other : (b c : ℕ) → (c ≡ b → ⊥) → is b c ≡ 0
is_other b c f = ap (λ (x : Bool). pick x 1 0) (ne_eqb c b f)

single_times : (b c : ℕ) → times b (c ∷ []) ≡ is b c
single_times b c = let a = times_cons b c [] in omega (arith, a)

-- at first each block stands once
range_times : (b a n : ℕ) → times_in b (map single (range_with_len a n)) ≡ pick (nat_lt b (a + n)) (pick (nat_lt b a) 0 1) 0
range_times b a zero = elim (cases_lt b a) [
  | inl lt ↦ sym (within (nat_lt b (a + zero)) (lt-ltb b a lt))
  | inr ge ↦ sym (ap (λ (x : Bool). pick x (pick (nat_lt b a) 0 1) 0) (le-ltb b (a + zero) (omega (arith, ge))))
]
  where
    within : (x : Bool) → nat_lt b a ≡ true → pick x (pick (nat_lt b a) 0 1) 0 ≡ 0
    within true e = ap (λ (y : Bool). pick y 0 1) e
    within false e = refl
range_times b a (suc n) =
    let head = times_in_cons b (single a) (map single (range_with_len (a + 1) n)) in
    let first = single_times b a in
    let rest = range_times b (a + 1) n in
    elim (cases_lt b a) [
      | inl lt ↦ (
          let f = is_other b a (λ e. omega (arith, lt, e)) in
          let g = out (nat_lt b (a + 1 + n)) (nat_lt b (a + 1)) (lt-ltb b (a + 1) (omega (arith, lt))) in
          let h = out (nat_lt b (a + suc n)) (nat_lt b a) (lt-ltb b a lt) in
          omega (arith, head, first, rest, f, g, h))
      | inr ge ↦ (elim (cases_eq a b) [
        | inl same ↦ (
            let f = subst (λ (c : ℕ). is b c ≡ 1) (sym same) (is_here b) in
            let g = out (nat_lt b (a + 1 + n)) (nat_lt b (a + 1)) (lt-ltb b (a + 1) (omega (arith, same))) in
            let h = into (nat_lt b (a + suc n)) (nat_lt b a) (lt-ltb b (a + suc n) (omega (arith, same))) (le-ltb b a ge) in
            omega (arith, head, first, rest, f, g, h))
        | inr other ↦ (
            let f = is_other b a (λ e. other e) in
            let over : a < b = omega (arith, ge, other) in
            let g = past (nat_lt b (a + 1 + n)) (nat_lt b (a + 1)) (le-ltb b (a + 1) (omega (arith, over))) in
            let h = past (nat_lt b (a + suc n)) (nat_lt b a) (le-ltb b a ge) in
            let k : nat_lt b (a + 1 + n) ≡ nat_lt b (a + suc n) = (let e : a + 1 + n ≡ a + suc n = omega arith in ap (nat_lt b) e) in
            let l = ap (λ (x : Bool). pick x 1 0) k in
            omega (arith, head, first, rest, f, g, h, l))
      ])
    ]
  where
    out : (x y : Bool) → y ≡ true → pick x (pick y 0 1) 0 ≡ 0
    out true true e = refl
    out false true e = refl
    out true false e = absurd cc
    out false false e = refl

    into : (x y : Bool) → x ≡ true → y ≡ false → pick x (pick y 0 1) 0 ≡ 1
    into true false e f = refl
    into true true e f = absurd cc
    into false y e f = absurd cc

    past : (x y : Bool) → y ≡ false → pick x (pick y 0 1) 0 ≡ pick x 1 0
    past x false e = refl
    past x true e = absurd cc

pub times_at_first : (b n : ℕ) → times_in b (singles n) ≡ pick (nat_lt b n) 1 0
times_at_first b n =
    let e : 0 + n ≡ n = omega arith in
    range_times b 0 n ∙ ap (λ (m : ℕ). pick (nat_lt b m) (pick (nat_lt b 0) 0 1) 0) e ∙ lemma (nat_lt b n)
  where
    lemma : (x : Bool) → pick x (pick (nat_lt b 0) 0 1) 0 ≡ pick x 1 0
    lemma true = ap (λ (y : Bool). pick y 0 1) (le-ltb b 0 (omega arith))
    lemma false = refl

-- a block that stands in a list
pub stands : (b : ℕ) (chain : List ℕ) (i : ℕ) (d : ℕ) → i < length chain → get_or chain i d ≡ b → 1 ≤ times b chain
stands b [] i d lt e = absurd (omega (arith, lt))
stands b (c ∷ chain) zero d lt e =
    let a = times_cons b c chain in
    let f = subst (λ (x : ℕ). is b x ≡ 1) (sym e) (is_here b) in
    omega (arith, a, f)
stands b (c ∷ chain) (suc i) d lt e = let a = times_cons b c chain in let s = stands b chain i d (omega (arith, lt)) e in omega (arith, a, s)

min_is : (a b : ℕ) → (min a b ≡ a) ⊎ (min a b ≡ b)
min_is a b =
    elim (cases_lt a b) [
      | inl lt ↦ inl (omega (arith, lt))
      | inr ge ↦ inr (omega (arith, ge))
    ]

pub least_in : (chain : List ℕ) → is_full chain ≡ true → 1 ≤ times (least chain) chain
least_in [] e = absurd cc
least_in (b ∷ []) e = let a = single_times b b in let f = is_here b in omega (arith, a, f)
least_in (b ∷ c ∷ chain) e =
    let a = times_cons (min b (least (c ∷ chain))) b (c ∷ chain) in
    elim (min_is b (least (c ∷ chain))) [
      | inl h ↦ (let f = subst (λ (x : ℕ). is x b ≡ 1) (sym h) (is_here b) in omega (arith, a, f))
      | inr h ↦ (let f = subst (λ (x : ℕ). 1 ≤ times x (c ∷ chain)) (sym h) (least_in (c ∷ chain) refl) in omega (arith, a, f))
    ]

-- a chain has block 0 where that is its least
pub first_is : (chain : List ℕ) → is_full chain ≡ true → is_first chain ≡ (least chain == 0)
first_is [] e = absurd cc
first_is (b ∷ []) e = or_false (b == 0)
  where
    or_false : (x : Bool) → (x || false) ≡ x
    or_false true = refl
    or_false false = refl
first_is (b ∷ c ∷ chain) e = ap (λ (x : Bool). (b == 0) || x) (first_is (c ∷ chain) refl) ∙ either b (least (c ∷ chain))
  where
    or_true : (b : Bool) → (b || true) ≡ true
    or_true true = refl
    or_true false = refl

    either : (x y : ℕ) → ((x == 0) || (y == 0)) ≡ (min x y == 0)
    either x y =
        elim (cases_eq x 0) [
          | inl e ↦ ap (λ (t : Bool). t || (y == 0)) (eq-eqb x 0 e) ∙ sym (eq-eqb (min x y) 0 (omega (arith, e)))
          | inr f ↦ (elim (cases_eq y 0) [
            | inl e ↦ ap (λ (t : Bool). (x == 0) || t) (eq-eqb y 0 e) ∙ or_true (x == 0) ∙ sym (eq-eqb (min x y) 0 (omega (arith, e)))
            | inr g ↦ ap₂ (λ (t u : Bool). t || u) (ne_eqb x 0 f) (ne_eqb y 0 g) ∙ sym (ne_eqb (min x y) 0 (λ h. omega (arith, f, g, h)))
          ])
        ]

-- a chain that one block more is added to
pub least_more : (chain : List ℕ) (b : ℕ) → is_full chain ≡ true → least (chain ++ b ∷ []) ≡ min (least chain) b
least_more [] b e = absurd cc
least_more (c ∷ []) b e = refl
least_more (c ∷ d ∷ chain) b e = let h = least_more (d ∷ chain) b refl in omega (arith, h)

-- one more of a chain's blocks
pub least_step : (chain : List ℕ) (i : ℕ) → 1 ≤ i → i < length chain → least (take (i + 1) chain) ≡ min (least (take i chain)) (get_or chain i 0)
least_step chain i some lt =
    let full : is_full (take i chain) ≡ true = full_take chain i some lt in
    ap least (take_more chain i 0 lt) ∙ least_more (take i chain) (get_or chain i 0) full
  where
    full_take : (c : List ℕ) (k : ℕ) → 1 ≤ k → k < length c → is_full (take k c) ≡ true
    full_take c zero a b = absurd (omega (arith, a))
    full_take [] (suc k) a b = absurd (omega (arith, b))
    full_take (x ∷ c) (suc k) a b = refl
