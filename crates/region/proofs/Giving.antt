-- A part is put among free ranges, with its neighbours.
use Rattle.std.proofs.Common.{◌≡◌, ℕ, suc, ◌+◌, ◌<◌, ◌≤◌, ◌==◌, Bool, true, false, cond, not, List, [], ◌∷◌, ◌++◌, take, drop, refl, sym, ◌∙◌, ap, inl, inr, arith}
use Rattle.std.specs.Prelude.{◌⊎◌, ◌↔◌, ◌&&◌, ◌||◌, nat_le, nat_lt, if◌then◌else◌}
use Rattle.std.specs.List.{position_or_len}
use Rattle.std.proofs.lemmas.Bool.{or_cases, or_left, or_right, cases_eq, eqb-true, eq-eqb, leb-true, ltb-true, le-leb, lt-ltb, cases_lt}
use Rattle.finite.proofs.Finding.{not_passed}
use Rattle.oc_base.specs.declared.range.Range.{Range}
use Rattle.region.specs.Free.{range, is_in, is_free, Rises, put_before, put_here, put_in, given}
use Rattle.region.proofs.FreeLaws.{in_true, in_is}

-- no byte of r is free
abbrev IsUsed : Range → List Range → Type 0
IsUsed r rs = (a : ℕ) → r.from ≤ a → a < r.to → is_free rs a ≡ true → ⊥

-- a range whose bytes are used lies before a free one or behind it
apart : (r s : Range) (rs : List Range) → IsUsed r (s ∷ rs) → r.from < r.to → s.from < s.to → (s.to ≤ r.from) ⊎ (r.to ≤ s.from)
apart r s rs u l h =
    elim (cases_lt r.from s.to) [
      | inr p ↦ inl p
      | inl p ↦ elim (cases_lt s.from r.to) [
        | inr q ↦ inr q
        | inl q ↦ absurd (elim (cases_lt s.from r.from) [
          | inl t ↦ u r.from (omega arith) l (or_left (is_in r.from s) (is_free rs r.from) (in_is r.from s (omega (arith, t)) p))
          | inr t ↦ u s.from t q (or_left (is_in s.from s) (is_free rs s.from) (in_is s.from s (omega arith) h))
        ])
      ]
    ]

used_rest : (r s : Range) (rs : List Range) → IsUsed r (s ∷ rs) → IsUsed r rs
used_rest r s rs u = λ a p q e. u a p q (or_right (is_in a s) (is_free rs a) e)

-- ranges behind the begin of r begin at its end or behind it
behind : (r : Range) (low high : ℕ) (rs : List Range) → Rises low high rs → r.from < low → r.from < r.to → IsUsed r rs → Rises r.to high rs
behind r low high [] h m l u = tt
behind r low high (s ∷ rs) h m l u =
    elim (apart r s rs u l h.1) [
      | inl p ↦ absurd (omega (arith, p, h.0, h.1, m))
      | inr p ↦ (p, h.1, h.2, h.3)
    ]

before_rises : (r : Range) (low high : ℕ) (rs : List Range) → low ≤ r.from → r.from < r.to → r.to ≤ high → Rises r.to high rs → Rises low high (put_before r rs)
before_rises r low high [] p l q h = (p, l, q, tt)
before_rises r low high (s ∷ rs) p l q h =
    elim (cases_eq r.to s.from) [
      | inl e ↦ rw (eq-eqb r.to s.from e) (p, omega (arith, l, e, h.1), h.2, h.3)
      | inr n ↦ rw (not_passed (r.to == s.from) (λ t. n (eqb-true r.to s.from t))) (p, l, q, (omega (arith, h.0, n), h.1, h.2, h.3))
    ]

here_rises : (r s : Range) (low high : ℕ) (rs : List Range) → low ≤ r.from → r.from < r.to → r.to ≤ high → Rises low high (s ∷ rs) → IsUsed r (s ∷ rs) → r.from ≤ s.to → Rises low high (put_here r (s ∷ rs))
here_rises r s low high rs p l q h u t =
    elim (cases_eq s.to r.from) [
      | inl e ↦ rw (eq-eqb s.to r.from e)
          (before_rises (range s.from r.to) low high rs h.0 (omega (arith, h.1, e, l)) q (behind r (s.to + 1) high rs h.3 (omega (arith, e)) l (used_rest r s rs u)))
      | inr n ↦ rw (not_passed (s.to == r.from) (λ k. n (eqb-true s.to r.from k)))
          (before_rises r low high (s ∷ rs) p l q (elim (apart r s rs u l h.1) [
            | inl k ↦ absurd (omega (arith, k, t, n))
            | inr k ↦ (k, h.1, h.2, h.3)
          ]))
    ]

in_rises : (r : Range) (low high : ℕ) (rs : List Range) → low ≤ r.from → r.from < r.to → r.to ≤ high → Rises low high rs → IsUsed r rs → Rises low high (put_in r rs)
in_rises r low high [] p l q h u = (p, l, q, tt)
in_rises r low high (s ∷ rs) p l q h u =
    by_side (cases_lt s.to r.from) (λ k. in_rises r (s.to + 1) high rs (omega (arith, k)) l q h.3 (used_rest r s rs u))
  where
    by_side : (s.to < r.from) ⊎ (r.from ≤ s.to) → (s.to < r.from → Rises (s.to + 1) high (put_in r rs)) → Rises low high (put_in r (s ∷ rs))
    by_side (inl k) j = rw (not_passed (nat_le r.from s.to) (λ e. omega (arith, k, leb-true r.from s.to e))) (h.0, h.1, h.2, j k)
    by_side (inr k) j = rw (le-leb r.from s.to k) (here_rises r s low high rs p l q h u k)

-- ---- addresses

-- two ranges that touch have the bytes of the one made of them
joined : (x y z a : ℕ) → x ≤ y → y ≤ z → is_in a (range x z) ≡ (is_in a (range x y) || is_in a (range y z))
joined x y z a p q =
    elim (cases_lt a y) [
      | inl l ↦ rw (lt-ltb a y l, lt-ltb a z (omega (arith, l, q)), not_passed (nat_le y a) (λ e. omega (arith, l, leb-true y a e))) (one (nat_le x a))
      | inr l ↦ rw (le-leb x a (omega (arith, l, p)), le-leb y a l, not_passed (nat_lt a y) (λ e. omega (arith, l, ltb-true a y e))) refl
    ]
  where
    one : (b : Bool) → (b && true) ≡ ((b && true) || false)
    one true = refl
    one false = refl

or_assoc : (a b c : Bool) → ((a || b) || c) ≡ (a || (b || c))
or_assoc true b c = refl
or_assoc false b c = refl

or_turn : (a b c : Bool) → (a || (b || c)) ≡ (b || (a || c))
or_turn true true c = refl
or_turn true false c = refl
or_turn false b c = refl

before_has : (r : Range) (high : ℕ) (rs : List Range) (a : ℕ) → r.from < r.to → Rises r.to high rs → is_free (put_before r rs) a ≡ (is_in a r || is_free rs a)
before_has r high [] a l h = refl
before_has r high (s ∷ rs) a l h =
    elim (cases_eq r.to s.from) [
      | inl e ↦ rw (eq-eqb r.to s.from e) (ap (λ (b : Bool). b || is_free rs a) (joined r.from r.to s.to a (omega (arith, l)) (omega (arith, e, h.1)) ∙ ap (λ (y : ℕ). is_in a r || is_in a (range y s.to)) e)
          ∙ or_assoc (is_in a r) (is_in a s) (is_free rs a))
      | inr n ↦ rw (not_passed (r.to == s.from) (λ t. n (eqb-true r.to s.from t))) refl
    ]

here_has : (r s : Range) (low high : ℕ) (rs : List Range) (a : ℕ) → r.from < r.to → Rises low high (s ∷ rs) → IsUsed r (s ∷ rs) → r.from ≤ s.to
    → is_free (put_here r (s ∷ rs)) a ≡ (is_in a r || is_free (s ∷ rs) a)
here_has r s low high rs a l h u t =
    elim (cases_eq s.to r.from) [
      | inl e ↦ rw (eq-eqb s.to r.from e)
          (before_has (range s.from r.to) high rs a (omega (arith, h.1, e, l)) (behind r (s.to + 1) high rs h.3 (omega (arith, e)) l (used_rest r s rs u))
          ∙ ap (λ (b : Bool). b || is_free rs a) (joined s.from s.to r.to a (omega (arith, h.1)) (omega (arith, e, l)) ∙ ap (λ (y : ℕ). is_in a s || is_in a (range y r.to)) e)
          ∙ or_assoc (is_in a s) (is_in a r) (is_free rs a) ∙ or_turn (is_in a s) (is_in a r) (is_free rs a))
      | inr n ↦ rw (not_passed (s.to == r.from) (λ k. n (eqb-true s.to r.from k)))
          (before_has r high (s ∷ rs) a l (elim (apart r s rs u l h.1) [
            | inl k ↦ absurd (omega (arith, k, t, n))
            | inr k ↦ (k, h.1, h.2, h.3)
          ]))
    ]

in_has : (r : Range) (low high : ℕ) (rs : List Range) (a : ℕ) → r.from < r.to → Rises low high rs → IsUsed r rs → is_free (put_in r rs) a ≡ (is_in a r || is_free rs a)
in_has r low high [] a l h u = refl
in_has r low high (s ∷ rs) a l h u =
    by_side (cases_lt s.to r.from) (in_has r (s.to + 1) high rs a l h.3 (used_rest r s rs u))
  where
    by_side : (s.to < r.from) ⊎ (r.from ≤ s.to) → is_free (put_in r rs) a ≡ (is_in a r || is_free rs a) → is_free (put_in r (s ∷ rs)) a ≡ (is_in a r || is_free (s ∷ rs) a)
    by_side (inl k) j =
        rw (not_passed (nat_le r.from s.to) (λ e. omega (arith, k, leb-true r.from s.to e))) (ap (λ (b : Bool). is_in a s || b) j ∙ or_turn (is_in a s) (is_in a r) (is_free rs a))
    by_side (inr k) j = rw (le-leb r.from s.to k) (here_has r s low high rs a l h u k)

-- ---- what `give_back` does at a place

pub in_at : (r : Range) (rs : List Range) (i : ℕ) → i ≡ position_or_len (λ s. nat_le r.from s.to) rs → take i rs ++ put_here r (drop i rs) ≡ put_in r rs
in_at r rs i e = rw e (at_place rs)
  where
    at_place : (rs : List Range) → take (position_or_len (λ s. nat_le r.from s.to) rs) rs ++ put_here r (drop (position_or_len (λ s. nat_le r.from s.to) rs) rs) ≡ put_in r rs
    at_place [] = refl
    at_place (s ∷ rs) = by_test (nat_le r.from s.to) (at_place rs)
      where
        by_test : (b : Bool) → take (position_or_len (λ s. nat_le r.from s.to) rs) rs ++ put_here r (drop (position_or_len (λ s. nat_le r.from s.to) rs) rs) ≡ put_in r rs
            → take (cond (not b) (1 + position_or_len (λ s. nat_le r.from s.to) rs) 0) (s ∷ rs) ++ put_here r (drop (cond (not b) (1 + position_or_len (λ s. nat_le r.from s.to) rs) 0) (s ∷ rs))
            ≡ (if b then put_here r (s ∷ rs) else s ∷ put_in r rs)
        by_test true h = refl
        by_test false h =
            let q : 1 + position_or_len (λ s. nat_le r.from s.to) rs ≡ suc (position_or_len (λ s. nat_le r.from s.to) rs) = omega arith in
            rw q (ap (λ (xs : List Range). s ∷ xs) h)

given_is : (r : Range) (rs : List Range) → r.from < r.to → given r rs ≡ put_in r rs
unfolding given
given_is r rs l = rw (lt-ltb r.from r.to l) refl

pub given_at : (r : Range) (rs : List Range) (i : ℕ) → r.from < r.to → i ≡ position_or_len (λ s. nat_le r.from s.to) rs → take i rs ++ put_here r (drop i rs) ≡ given r rs
given_at r rs i l e = in_at r rs i e ∙ sym (given_is r rs l)

pub given_rises : (r : Range) (low high : ℕ) (rs : List Range) → low ≤ r.from → r.from < r.to → r.to ≤ high → Rises low high rs → IsUsed r rs → Rises low high (given r rs)
given_rises r low high rs p l q h u = rw (given_is r rs l) (in_rises r low high rs p l q h u)

pub given_addresses : (r : Range) (low high : ℕ) (rs : List Range) (a : ℕ) → r.from < r.to → Rises low high rs → IsUsed r rs
    → (is_free (given r rs) a ≡ true) ↔ ((is_free rs a ≡ true) ⊎ ((r.from ≤ a) × (a < r.to)))
given_addresses r low high rs a l h u =
    let e : is_free (given r rs) a ≡ (is_in a r || is_free rs a) = ap (λ (xs : List Range). is_free xs a) (given_is r rs l) ∙ in_has r low high rs a l h u in (
      λ t. elim (or_cases (is_in a r) (is_free rs a) (sym e ∙ t)) [
        | inl p ↦ inr (in_true a r p)
        | inr p ↦ inl p
      ],
      λ o. e ∙ elim o [
        | inl p ↦ or_right (is_in a r) (is_free rs a) p
        | inr p ↦ or_left (is_in a r) (is_free rs a) (in_is a r p.0 p.1)
      ],
    )

-- of no bytes nothing becomes free
pub given_none : (r : Range) (rs : List Range) → r.from ≡ r.to → given r rs ≡ rs
unfolding given
given_none r rs e = rw (not_passed (nat_lt r.from r.to) (λ t. omega (arith, e, ltb-true r.from r.to t))) refl

pub none_given : (r : Range) (rs : List Range) (a : ℕ) → r.from ≡ r.to → (is_free rs a ≡ true) ↔ ((is_free rs a ≡ true) ⊎ ((r.from ≤ a) × (a < r.to)))
none_given r rs a e = (
  λ t. inl t,
  λ o. elim o [
    | inl p ↦ p
    | inr p ↦ absurd (omega (arith, e, p))
  ],
)
