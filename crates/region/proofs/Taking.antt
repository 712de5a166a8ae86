-- A part is taken out of the range that holds it.
use Rattle.std.proofs.Common.{◌≡◌, ℕ, zero, suc, ◌+◌, ◌<◌, ◌≤◌, Bool, true, false, List, [], ◌∷◌, ◌++◌, length, take, drop, set, get_or, refl, sym, ◌∙◌, subst, ap, inl, inr, arith}
use Rattle.std.specs.Prelude.{◌⊎◌, ◌↔◌, ◌&&◌, ◌||◌, nat_le, nat_lt, if◌then◌else◌}
use Rattle.std.specs.List.{flat_map, position_or_len}
use Rattle.std.proofs.lemmas.Bool.{and_parts, and_from, or_cases, or_left, or_right, leb-true, ltb-true, le-leb, lt-ltb, cases_lt}
use Rattle.std.proofs.lemmas.List.Folds.{list_any-append}
use Rattle.finite.proofs.Finding.{not_passed}
use Rattle.oc_base.specs.declared.range.Range.{Range}
use Rattle.region.specs.Free.{range, is_in, is_free, AreFree, Rises, piece, without, taken}
use Rattle.region.proofs.FreeLaws.{in_true, in_is, rest_free, stay_in}

piece_in : (x y a : ℕ) → is_free (piece x y) a ≡ true → (x ≤ a) × (a < y)
piece_in x y a e = by_test (nat_lt x y) e
  where
    by_test : (b : Bool) → is_free (if b then range x y ∷ [] else []) a ≡ true → (x ≤ a) × (a < y)
    by_test true e =
        elim (or_cases (is_in a (range x y)) false e) [
          | inl p ↦ in_true a (range x y) p
          | inr p ↦ absurd cc
        ]
    by_test false e = absurd cc

in_piece : (x y a : ℕ) → x ≤ a → a < y → is_free (piece x y) a ≡ true
in_piece x y a p q = rw (lt-ltb x y (omega (arith, p, q))) (or_left (is_in a (range x y)) false (in_is a (range x y) p q))

-- the range that holds a part, and those before it and after it
pub record Held (rs : List Range) (from to i : ℕ) : Type 0 where
  pub before : List Range
  pub one : Range
  pub after : List Range
  pub is : rs ≡ before ++ one ∷ after
  pub place : i ≡ length before
  pub starts : one.from ≤ from
  pub ends : to ≤ one.to

pub held : (low high : ℕ) (rs : List Range) (at n : ℕ) → Rises low high rs → 0 < n → AreFree rs at n → Held rs at (at + n) (position_or_len (λ r. nat_lt at r.to) rs)
held low high [] at n h p f = absurd (let g = f at (omega arith) (omega (arith, p)) in cc)
held low high (r ∷ rs) at n h p f = by_side (cases_lt at r.to) (λ l. held (r.to + 1) high rs at n h.3 p (rest_free r rs at n l f))
  where
    here : at < r.to → Held (r ∷ rs) at (at + n) 0
    here l = let s = stay_in low high r rs at n h l f p in record { before = []; one = r; after = rs; is = refl; place = refl; starts = s.0; ends = s.1 }

    later : (k : ℕ) → Held rs at (at + n) k → Held (r ∷ rs) at (at + n) (1 + k)
    later k d =
        let e : r ∷ rs ≡ r ∷ (d.before ++ d.one ∷ d.after) = ap (λ (xs : List Range). r ∷ xs) d.is in
        let q : 1 + k ≡ suc (length d.before) = omega (arith, d.place) in
        record { before = r ∷ d.before; one = d.one; after = d.after; is = e; place = q; starts = d.starts; ends = d.ends }

    by_side : (at < r.to) ⊎ (r.to ≤ at) → (r.to ≤ at → Held rs at (at + n) (position_or_len (λ r. nat_lt at r.to) rs)) → Held (r ∷ rs) at (at + n) (position_or_len (λ r. nat_lt at r.to) (r ∷ rs))
    by_side (inl l) j = rw (lt-ltb at r.to l) (here l)
    by_side (inr l) j = rw (not_passed (nat_lt at r.to) (λ e. omega (arith, l, ltb-true at r.to e))) (later (position_or_len (λ r. nat_lt at r.to) rs) (j l))

-- a range that doesn't hold the part stays
not_held : (from to : ℕ) (s : Range) → ((s.from ≤ from) × (to ≤ s.to) → ⊥) → without from to s ≡ s ∷ []
not_held from to s n = rw (not_passed (nat_le s.from from && nat_le to s.to) tested) refl
  where
    tested : (nat_le s.from from && nat_le to s.to) ≡ true → ⊥
    tested e = let p = and_parts (nat_le s.from from) (nat_le to s.to) e in n (leb-true s.from from p.0, leb-true to s.to p.1)

cut_after : (from to low high : ℕ) (rs : List Range) → Rises low high rs → from < low → flat_map (without from to) rs ≡ rs
cut_after from to low high [] h l = refl
cut_after from to low high (s ∷ rs) h l =
    rw (not_held from to s (λ p. omega (arith, p.0, h.0, l)), cut_after from to (s.to + 1) high rs h.3 (omega (arith, h.0, h.1, l))) refl

begins : (low high : ℕ) (xs : List Range) (r : Range) (ys : List Range) → Rises low high (xs ++ r ∷ ys) → low ≤ r.from
begins low high [] r ys h = h.0
begins low high (s ∷ xs) r ys h = omega (arith, h.0, h.1, begins (s.to + 1) high xs r ys h.3)

cut_at : (from to low high : ℕ) (xs : List Range) (r : Range) (ys : List Range) → Rises low high (xs ++ r ∷ ys) → r.from ≤ from → from < to → to ≤ r.to
    → flat_map (without from to) (xs ++ r ∷ ys) ≡ xs ++ ((piece r.from from ++ piece to r.to) ++ ys)
cut_at from to low high [] r ys h p l q =
    rw (and_from (nat_le r.from from) (nat_le to r.to) (le-leb r.from from p) (le-leb to r.to q), cut_after from to (r.to + 1) high ys h.3 (omega (arith, l, q))) refl
cut_at from to low high (s ∷ xs) r ys h p l q =
    rw (not_held from to s (λ g. omega (arith, g.1, l, p, begins (s.to + 1) high xs r ys h.3)), cut_at from to (s.to + 1) high xs r ys h.3 p l q) refl

weaker : (low more high : ℕ) (rs : List Range) → low ≤ more → Rises more high rs → Rises low high rs
weaker low more high [] l h = tt
weaker low more high (r ∷ rs) l h = (omega (arith, l, h.0), h.1, h.2, h.3)

-- pieces of a range, before others
pieces_rise : (low high a b c d : ℕ) (ys : List Range) → low ≤ a → a ≤ b → b < c → c ≤ d → d ≤ high → Rises (d + 1) high ys → Rises low high ((piece a b ++ piece c d) ++ ys)
pieces_rise low high a b c d ys l p q r t h = by_tests (cases_lt a b) (cases_lt c d)
  where
    second : (more : ℕ) → more ≤ c → (c < d) ⊎ (d ≤ c) → Rises more high (piece c d ++ ys)
    second more m (inl u) = rw (lt-ltb c d u) (m, u, t, h)
    second more m (inr u) = rw (not_passed (nat_lt c d) (λ e. omega (arith, u, ltb-true c d e))) (weaker more (d + 1) high ys (omega (arith, m, r)) h)

    by_tests : (a < b) ⊎ (b ≤ a) → (c < d) ⊎ (d ≤ c) → Rises low high ((piece a b ++ piece c d) ++ ys)
    by_tests (inl u) v = rw (lt-ltb a b u) (l, u, omega (arith, q, r, t), second (b + 1) (omega (arith, q)) v)
    by_tests (inr u) v = rw (not_passed (nat_lt a b) (λ e. omega (arith, u, ltb-true a b e))) (second low (omega (arith, l, p, q)) v)

cut_rises : (from to low high : ℕ) (xs : List Range) (r : Range) (ys : List Range) → Rises low high (xs ++ r ∷ ys) → r.from ≤ from → from < to → to ≤ r.to
    → Rises low high (xs ++ ((piece r.from from ++ piece to r.to) ++ ys))
cut_rises from to low high [] r ys h p l q = pieces_rise low high r.from from to r.to ys h.0 p l q h.2 h.3
cut_rises from to low high (s ∷ xs) r ys h p l q = (h.0, h.1, h.2, cut_rises from to (s.to + 1) high xs r ys h.3 p l q)

-- what stands in a list before a place, there and after it
pub take_front : {X : Type 0} (xs ys : List X) → take (length xs) (xs ++ ys) ≡ xs
take_front [] ys = refl
take_front (x ∷ xs) ys = ap (λ zs. x ∷ zs) (take_front xs ys)

pub drop_front : {X : Type 0} (xs : List X) (y : X) (ys : List X) → drop (length xs + 1) (xs ++ y ∷ ys) ≡ ys
drop_front [] y ys = refl
drop_front (x ∷ xs) y ys = let e : suc (length xs) + 1 ≡ suc (length xs + 1) = omega arith in rw e (drop_front xs y ys)

pub get_front : {X : Type 0} (xs : List X) (y : X) (ys : List X) (d : X) → get_or (xs ++ y ∷ ys) (length xs) d ≡ y
get_front [] y ys d = refl
get_front (x ∷ xs) y ys d = get_front xs y ys d

pub length_front : {X : Type 0} (xs : List X) (y : X) (ys : List X) → length xs < length (xs ++ y ∷ ys)
length_front [] y ys = omega arith
length_front (x ∷ xs) y ys = omega (arith, length_front xs y ys)

-- what `take` does at a place
pub record Took (rs : List Range) (at n i low high : ℕ) : Type 0 where
  pub within : i < length rs
  pub ends : (d : Range) → at + n ≤ (get_or rs i d).to
  pub is : (d : Range) → take i rs ++ ((piece (get_or rs i d).from at ++ piece (at + n) (get_or rs i d).to) ++ drop (i + 1) rs) ≡ taken at (at + n) rs
  pub rises : Rises low high (taken at (at + n) rs)

front_is : (at to : ℕ) (rs xs : List Range) (r : Range) (ys : List Range) (i : ℕ) (d : Range) → rs ≡ xs ++ r ∷ ys → i ≡ length xs
    → take i rs ++ ((piece (get_or rs i d).from at ++ piece to (get_or rs i d).to) ++ drop (i + 1) rs) ≡ xs ++ ((piece r.from at ++ piece to r.to) ++ ys)
front_is at to rs xs r ys i d e p = rw (p, e, take_front xs (r ∷ ys), get_front xs r ys d, drop_front xs r ys) refl

end_is : (rs xs : List Range) (r : Range) (ys : List Range) (i : ℕ) (d : Range) (to : ℕ) → rs ≡ xs ++ r ∷ ys → i ≡ length xs → to ≤ r.to → to ≤ (get_or rs i d).to
end_is rs xs r ys i d to e p l = rw (p, e, get_front xs r ys d) l

taken_is : (at to : ℕ) (rs : List Range) → at < to → taken at to rs ≡ flat_map (without at to) rs
unfolding taken
taken_is at to rs l = rw (lt-ltb at to l) refl

pub took : (low high : ℕ) (rs : List Range) (at n : ℕ) → Rises low high rs → 0 < n → AreFree rs at n → Took rs at n (position_or_len (λ r. nat_lt at r.to) rs) low high
took low high rs at n h p f =
    let d = held low high rs at n h p f in
    let g : Rises low high (d.before ++ d.one ∷ d.after) = subst (Rises low high) d.is h in
    let l : at < at + n = omega (arith, p) in
    let c : taken at (at + n) rs ≡ d.before ++ ((piece d.one.from at ++ piece (at + n) d.one.to) ++ d.after) =
    taken_is at (at + n) rs l ∙ ap (flat_map (without at (at + n))) d.is ∙ cut_at at (at + n) low high d.before d.one d.after g d.starts l d.ends in
    let within : position_or_len (λ r. nat_lt at r.to) rs < length rs = omega (arith, d.place, length_front d.before d.one d.after, ap (λ (xs : List Range). length xs) d.is) in
    record {
      within = within;
      ends = λ x. end_is rs d.before d.one d.after (position_or_len (λ r. nat_lt at r.to) rs) x (at + n) d.is d.place d.ends;
      is = λ x. front_is at (at + n) rs d.before d.one d.after (position_or_len (λ r. nat_lt at r.to) rs) x d.is d.place ∙ sym c;
      rises = subst (Rises low high) (sym c) (cut_rises at (at + n) low high d.before d.one d.after g d.starts l d.ends);
    }

-- ---- addresses

-- each range holds the part or lies apart from it
abbrev Splits : ℕ → ℕ → List Range → Type 0
Splits from to [] = Unit {0}
Splits from to (r ∷ rs) = (((r.from ≤ from) × (to ≤ r.to)) ⊎ ((r.to ≤ from) ⊎ (to ≤ r.from))) × Splits from to rs

splits_after : (from to low high : ℕ) (rs : List Range) → Rises low high rs → to ≤ low → Splits from to rs
splits_after from to low high [] h l = tt
splits_after from to low high (s ∷ rs) h l = (inr (inr (omega (arith, h.0, l))), splits_after from to (s.to + 1) high rs h.3 (omega (arith, h.0, h.1, l)))

splits_at : (from to low high : ℕ) (xs : List Range) (r : Range) (ys : List Range) → Rises low high (xs ++ r ∷ ys) → r.from ≤ from → from < to → to ≤ r.to → Splits from to (xs ++ r ∷ ys)
splits_at from to low high [] r ys h p l q = (inl (p, q), splits_after from to (r.to + 1) high ys h.3 (omega (arith, q)))
splits_at from to low high (s ∷ xs) r ys h p l q =
    (inr (inl (omega (arith, p, begins (s.to + 1) high xs r ys h.3))), splits_at from to (s.to + 1) high xs r ys h.3 p l q)

one_kept : (from to a : ℕ) (r : Range) → is_in a r ≡ true → (a < from) ⊎ (to ≤ a) → is_free (without from to r) a ≡ true
one_kept from to a r e k = by_test (nat_le r.from from && nat_le to r.to)
  where
    h : (r.from ≤ a) × (a < r.to)
    h = in_true a r e

    by_side : (a < from) ⊎ (to ≤ a) → is_free (piece r.from from ++ piece to r.to) a ≡ true
    by_side (inl p) = list_any-append (is_in a) (piece r.from from) (piece to r.to) ∙ or_left (is_free (piece r.from from) a) (is_free (piece to r.to) a) (in_piece r.from from a h.0 p)
    by_side (inr p) = list_any-append (is_in a) (piece r.from from) (piece to r.to) ∙ or_right (is_free (piece r.from from) a) (is_free (piece to r.to) a) (in_piece to r.to a p h.1)

    by_test : (b : Bool) → is_free (if b then piece r.from from ++ piece to r.to else r ∷ []) a ≡ true
    by_test true = by_side k
    by_test false = or_left (is_in a r) false e

-- what was free beside the part is free
still_free : (from to : ℕ) (rs : List Range) (a : ℕ) → is_free rs a ≡ true → (a < from) ⊎ (to ≤ a) → is_free (flat_map (without from to) rs) a ≡ true
still_free from to [] a e k = absurd cc
still_free from to (r ∷ rs) a e k =
    list_any-append (is_in a) (without from to r) (flat_map (without from to) rs) ∙ by_cases (or_cases (is_in a r) (is_free rs a) e) (λ h. still_free from to rs a h k)
  where
    by_cases : (is_in a r ≡ true) ⊎ (is_free rs a ≡ true) → (is_free rs a ≡ true → is_free (flat_map (without from to) rs) a ≡ true)
        → (is_free (without from to r) a || is_free (flat_map (without from to) rs) a) ≡ true
    by_cases (inl p) h = or_left (is_free (without from to r) a) (is_free (flat_map (without from to) rs) a) (one_kept from to a r p k)
    by_cases (inr p) h = or_right (is_free (without from to r) a) (is_free (flat_map (without from to) rs) a) (h p)

one_left : (from to a : ℕ) (r : Range) → from < to → ((r.from ≤ from) × (to ≤ r.to)) ⊎ ((r.to ≤ from) ⊎ (to ≤ r.from)) → is_free (without from to r) a ≡ true
    → (is_in a r ≡ true) × ((a < from) ⊎ (to ≤ a))
one_left from to a r l s e = by_test (nat_le r.from from && nat_le to r.to) refl e
  where
    split : (is_free (piece r.from from) a ≡ true) ⊎ (is_free (piece to r.to) a ≡ true) → (r.from ≤ from) × (to ≤ r.to) → (is_in a r ≡ true) × ((a < from) ⊎ (to ≤ a))
    split (inl p) t = let q = piece_in r.from from a p in (in_is a r q.0 (omega (arith, q, t, l)), inl q.1)
    split (inr p) t = let q = piece_in to r.to a p in (in_is a r (omega (arith, q, t, l)) q.1, inr q.0)

    apart : is_in a r ≡ true → ((r.from ≤ from) × (to ≤ r.to)) ⊎ ((r.to ≤ from) ⊎ (to ≤ r.from)) → (nat_le r.from from && nat_le to r.to) ≡ false → (a < from) ⊎ (to ≤ a)
    apart p (inl t) f = absurd (no (and_from (nat_le r.from from) (nat_le to r.to) (le-leb r.from from t.0) (le-leb to r.to t.1)) f)
      where
        no : {b : Bool} → b ≡ true → b ≡ false → ⊥
        no x y = absurd cc
    apart p (inr (inl t)) f = let q = in_true a r p in inl (omega (arith, q, t))
    apart p (inr (inr t)) f = let q = in_true a r p in inr (omega (arith, q, t))

    by_test : (b : Bool) → (nat_le r.from from && nat_le to r.to) ≡ b → is_free (if b then piece r.from from ++ piece to r.to else r ∷ []) a ≡ true
        → (is_in a r ≡ true) × ((a < from) ⊎ (to ≤ a))
    by_test true f e =
        let t = and_parts (nat_le r.from from) (nat_le to r.to) f in
        split (or_cases (is_free (piece r.from from) a) (is_free (piece to r.to) a) (sym (list_any-append (is_in a) (piece r.from from) (piece to r.to)) ∙ e))
        (leb-true r.from from t.0, leb-true to r.to t.1)
    by_test false f e =
        elim (or_cases (is_in a r) false e) [
          | inl p ↦ (p, apart p s f)
          | inr p ↦ absurd cc
        ]

-- what is free afterwards was free, and isn't in the part
was_free : (from to : ℕ) (rs : List Range) (a : ℕ) → from < to → Splits from to rs → is_free (flat_map (without from to) rs) a ≡ true → (is_free rs a ≡ true) × ((a < from) ⊎ (to ≤ a))
was_free from to [] a l s e = absurd cc
was_free from to (r ∷ rs) a l s e =
    by_cases (or_cases (is_free (without from to r) a) (is_free (flat_map (without from to) rs) a) (sym (list_any-append (is_in a) (without from to r) (flat_map (without from to) rs)) ∙ e))
    (λ h. was_free from to rs a l s.1 h)
  where
    by_cases : (is_free (without from to r) a ≡ true) ⊎ (is_free (flat_map (without from to) rs) a ≡ true)
        → (is_free (flat_map (without from to) rs) a ≡ true → (is_free rs a ≡ true) × ((a < from) ⊎ (to ≤ a))) → ((is_in a r || is_free rs a) ≡ true) × ((a < from) ⊎ (to ≤ a))
    by_cases (inl p) h = let q = one_left from to a r l s.0 p in (or_left (is_in a r) (is_free rs a) q.0, q.1)
    by_cases (inr p) h = let q = h p in (or_right (is_in a r) (is_free rs a) q.0, q.1)

-- `take` uses the bytes of the part and no others
pub taken_addresses : (low high : ℕ) (rs : List Range) (at n a : ℕ) → Rises low high rs → 0 < n → AreFree rs at n
    → (is_free (taken at (at + n) rs) a ≡ true) ↔ ((is_free rs a ≡ true) × ((a < at) ⊎ (at + n ≤ a)))
taken_addresses low high rs at n a h p f =
    let d = held low high rs at n h p f in
    let g : Rises low high (d.before ++ d.one ∷ d.after) = subst (Rises low high) d.is h in
    let l : at < at + n = omega (arith, p) in
    let s : Splits at (at + n) rs = subst (Splits at (at + n)) (sym d.is) (splits_at at (at + n) low high d.before d.one d.after g d.starts l d.ends) in
    rw (taken_is at (at + n) rs l) (λ e. was_free at (at + n) rs a l s e, λ q. still_free at (at + n) rs a q.0 q.1)

-- of no bytes nothing becomes used
pub taken_none : (rs : List Range) (at : ℕ) → taken at (at + 0) rs ≡ rs
unfolding taken
taken_none rs at = rw (not_passed (nat_lt at (at + 0)) (λ e. omega (arith, ltb-true at (at + 0) e))) refl

pub none_addresses : (rs : List Range) (at a : ℕ) → (is_free rs a ≡ true) ↔ ((is_free rs a ≡ true) × ((a < at) ⊎ (at + 0 ≤ a)))
none_addresses rs at a = (λ e. (e, beside (cases_lt a at)), λ q. q.0)
  where
    beside : (a < at) ⊎ (at ≤ a) → (a < at) ⊎ (at + 0 ≤ a)
    beside (inl l) = inl l
    beside (inr l) = inr (omega (arith, l))

-- ---- changes at a place

pub set_is : {X : Type 0} (xs : List X) (i : ℕ) (y : X) → i < length xs → set xs i y ≡ take i xs ++ y ∷ drop (i + 1) xs
set_is [] i y l = absurd (omega (arith, l))
set_is (x ∷ xs) zero y l = refl
set_is (x ∷ xs) (suc i) y l = let e : suc i + 1 ≡ suc (i + 1) = omega arith in rw e (ap (λ zs. x ∷ zs) (set_is xs i y (omega (arith, l))))

-- two elements in the place of one: the second is put in behind the first
pub two_for_one : {X : Type 0} (xs ys : List X) (i : ℕ) (a b : X) → i < length xs → ys ≡ take i xs ++ a ∷ drop (i + 1) xs
    → take (i + 1) ys ++ b ∷ drop (i + 1) ys ≡ take i xs ++ a ∷ b ∷ drop (i + 1) xs
two_for_one [] ys i a b l e = absurd (omega (arith, l))
two_for_one (x ∷ xs) ys zero a b l e = rw e refl
two_for_one (x ∷ xs) ys (suc i) a b l e =
    let q : suc i + 1 ≡ suc (i + 1) = omega arith in
    let f : ys ≡ x ∷ (take i xs ++ a ∷ drop (i + 1) xs) = e ∙ rw q refl in
    rw (q, f) (ap (λ zs. x ∷ zs) (two_for_one xs (take i xs ++ a ∷ drop (i + 1) xs) i a b (omega (arith, l)) refl))

get_or_same : {X : Type 0} (xs : List X) (i : ℕ) (d e : X) → i < length xs → get_or xs i d ≡ get_or xs i e
get_or_same [] i d e l = absurd (omega (arith, l))
get_or_same (x ∷ xs) zero d e l = refl
get_or_same (x ∷ xs) (suc i) d e l = get_or_same xs i d e (omega (arith, l))

pub cut_in_two : (rs ys zs : List Range) (i from to : ℕ) (r d : Range) → i < length rs → r ≡ get_or rs i r → r.from < from → to < r.to
    → ys ≡ take i rs ++ range r.from from ∷ drop (i + 1) rs → zs ≡ take (i + 1) ys ++ range to r.to ∷ drop (i + 1) ys
    → zs ≡ take i rs ++ ((piece (get_or rs i d).from from ++ piece to (get_or rs i d).to) ++ drop (i + 1) rs)
cut_in_two rs ys zs i from to r d l e p q f g =
    let same : get_or rs i d ≡ r = get_or_same rs i d r l ∙ sym e in
    rw (same, lt-ltb r.from from p, lt-ltb to r.to q) (g ∙ two_for_one rs ys i (range r.from from) (range to r.to) l f)
