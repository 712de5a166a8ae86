-- What the numbers of lists of numbers add up to, and lists of which one is taken out or goes on.
use Rattle.std.proofs.Common.{◌≡◌, ℕ, zero, suc, ◌+◌, ◌<◌, ◌≤◌, Bool, true, false, cond, not, List, [], ◌∷◌, length, map, get_or, refl, sym, ap, subst, ◌∙◌, arith}
use Rattle.std.specs.Prelude.{◌==◌, ◌||◌, Contains, if◌then◌else◌}
use Rattle.std.specs.List.{filter, flat_map, list_any, range_with_len, sum_by}
use Rattle.std.proofs.lemmas.Bool.{eq-eqb, eqb-true}
use Rattle.std.proofs.lemmas.List.FromFn.{get_or-range_with_len, length-range_with_len}
use Rattle.std.proofs.lemmas.List.Sums.{get_or-le-sum_by, sum_by-append, sum_by-cons}

-- one where y is x
abbrev pub at : ℕ → ℕ → ℕ
at x y = cond (y == x) 1 0

abbrev pub total : (ℕ → ℕ) → List (List ℕ) → ℕ
total f cs = sum_by (sum_by f) cs

pub total-flat : (f : ℕ → ℕ) (cs : List (List ℕ)) → sum_by f (flat_map (λ c. c) cs) ≡ total f cs
total-flat f [] = refl
total-flat f (c ∷ cs) =
    let whole = sum_by-append f c (flat_map (λ d. d) cs) in
    let rest = total-flat f cs in
    let split = sum_by-cons (sum_by f) c cs in
    omega arith

-- no number stands there twice
abbrev pub Once : List (List ℕ) → Type 0
Once cs = (x : ℕ) → total (at x) cs ≤ 1

at_itself : (x : ℕ) → at x x ≡ 1
at_itself x = rw (eq-eqb x x refl) refl

pub has_one : (x : ℕ) (c : List ℕ) → Contains c x → 1 ≤ sum_by (at x) c
has_one x c h =
    let least = get_or-le-sum_by (at x) c h.0 x h.1 in
    let one : at x (get_or c h.0 x) ≡ 1 = subst (λ (y : ℕ). at x y ≡ 1) (sym h.2) (at_itself x) in
    omega arith

-- each list that passes has x
abbrev pub Hold : (List ℕ → Bool) → ℕ → List (List ℕ) → Type 0
Hold q x [] = Unit {0}
Hold q x (c ∷ cs) = (q c ≡ true → Contains c x) × Hold q x cs

-- the first list that passes
abbrev pub first : (List ℕ → Bool) → List (List ℕ) → List ℕ
first q [] = []
first q (c ∷ cs) = if q c then c else first q cs

or_left_false : (b c : Bool) → b ≡ false → c ≡ false → (b || c) ≡ false
or_left_false b c e h = rw (e, h) refl

-- where x stands nowhere, none passes
none_passes : (q : List ℕ → Bool) (x : ℕ) (cs : List (List ℕ)) → Hold q x cs → total (at x) cs ≡ 0 → list_any q cs ≡ false
none_passes q x [] has zero_ = refl
none_passes q x (c ∷ cs) has zero_ =
    let split = sum_by-cons (sum_by (at x)) c cs in
    or_left_false (q c) (list_any q cs) (here (q c) refl) (none_passes q x cs has.1 (omega arith))
  where
    here : (b : Bool) → q c ≡ b → b ≡ false
    here false e = refl
    here true e = let split = sum_by-cons (sum_by (at x)) c cs in let one = has_one x c (has.0 e) in absurd (omega arith)

parts_false : (b c : Bool) → (b || c) ≡ false → (b ≡ false) × (c ≡ false)
parts_false true c e = absurd cc
parts_false false c e = (refl, e)

filter_none : (q : List ℕ → Bool) (cs : List (List ℕ)) → list_any q cs ≡ false → filter (λ c. not (q c)) cs ≡ cs
filter_none q [] e = refl
filter_none q (c ∷ cs) e =
    let parts = parts_false (q c) (list_any q cs) e in
    rw (parts.0) (ap (λ (ds : List (List ℕ)). c ∷ ds) (filter_none q cs parts.1))

map_none : (q : List ℕ → Bool) (h : List ℕ → List ℕ) (cs : List (List ℕ)) → list_any q cs ≡ false → map (λ c. if q c then h c else c) cs ≡ cs
map_none q h [] e = refl
map_none q h (c ∷ cs) e =
    let parts = parts_false (q c) (list_any q cs) e in
    rw (parts.0) (ap (λ (ds : List (List ℕ)). c ∷ ds) (map_none q h cs parts.1))

-- nothing else passes behind one that does
none_behind : (q : List ℕ → Bool) (x : ℕ) (c : List ℕ) (cs : List (List ℕ)) → Hold q x (c ∷ cs) → total (at x) (c ∷ cs) ≤ 1 → q c ≡ true → list_any q cs ≡ false
none_behind q x c cs has once t =
    let split = sum_by-cons (sum_by (at x)) c cs in
    let one = has_one x c (has.0 t) in
    none_passes q x cs has.1 (omega arith)

once_behind : (x : ℕ) (c : List ℕ) (cs : List (List ℕ)) → total (at x) (c ∷ cs) ≤ 1 → total (at x) cs ≤ 1
once_behind x c cs once = let split = sum_by-cons (sum_by (at x)) c cs in omega arith

any_behind : (b c : Bool) → (b || c) ≡ true → b ≡ false → c ≡ true
any_behind true c e f = absurd cc
any_behind false c e f = e

-- the one that passes is taken out
pub taken_out : (f : ℕ → ℕ) (q : List ℕ → Bool) (x : ℕ) (cs : List (List ℕ)) → Hold q x cs → total (at x) cs ≤ 1 → list_any q cs ≡ true
    → total f (filter (λ c. not (q c)) cs) + sum_by f (first q cs) ≡ total f cs
taken_out f q x [] has once some = absurd cc
taken_out f q x (c ∷ cs) has once some = by_test (q c) refl (λ e. taken_out f q x cs has.1 (once_behind x c cs once) (any_behind (q c) (list_any q cs) some e))
  where
    by_test : (b : Bool) → q c ≡ b → (q c ≡ false → total f (filter (λ d. not (q d)) cs) + sum_by f (first q cs) ≡ total f cs)
        → total f (filter (λ d. not (q d)) (c ∷ cs)) + sum_by f (first q (c ∷ cs)) ≡ total f (c ∷ cs)
    by_test true t ih =
        let rest : filter (λ d. not (q d)) cs ≡ cs = filter_none q cs (none_behind q x c cs has once t) in
        let split = sum_by-cons (sum_by f) c cs in
        rw t (rw rest (omega arith))
    by_test false t ih =
        let split = sum_by-cons (sum_by f) c cs in
        let part = sum_by-cons (sum_by f) c (filter (λ d. not (q d)) cs) in
        let rest = ih t in
        rw t (omega arith)

-- the one that passes gives way to another
pub gone_on : (f : ℕ → ℕ) (q : List ℕ → Bool) (h : List ℕ → List ℕ) (n x : ℕ) (cs : List (List ℕ)) → Hold q x cs → total (at x) cs ≤ 1 → list_any q cs ≡ true
    → sum_by f (h (first q cs)) ≡ sum_by f (first q cs) + n → total f (map (λ c. if q c then h c else c) cs) ≡ total f cs + n
gone_on f q h n x [] has once some more = absurd cc
gone_on f q h n x (c ∷ cs) has once some more = by_test (q c) refl more (λ e m. gone_on f q h n x cs has.1 (once_behind x c cs once) (any_behind (q c) (list_any q cs) some e) m)
  where
    by_test : (b : Bool) → q c ≡ b → sum_by f (h (first q (c ∷ cs))) ≡ sum_by f (first q (c ∷ cs)) + n
        → (q c ≡ false → sum_by f (h (first q cs)) ≡ sum_by f (first q cs) + n → total f (map (λ d. if q d then h d else d) cs) ≡ total f cs + n)
        → total f (map (λ d. if q d then h d else d) (c ∷ cs)) ≡ total f (c ∷ cs) + n
    by_test true t m ih =
        let rest : map (λ d. if q d then h d else d) cs ≡ cs = map_none q h cs (none_behind q x c cs has once t) in
        let here : sum_by f (h c) ≡ sum_by f c + n = rw t at m in
        let split = sum_by-cons (sum_by f) c cs in
        let changed = sum_by-cons (sum_by f) (h c) cs in
        rw t (rw rest (omega arith))
    by_test false t m ih =
        let later : sum_by f (h (first q cs)) ≡ sum_by f (first q cs) + n = rw t at m in
        let rest = ih t later in
        let split = sum_by-cons (sum_by f) c cs in
        let changed = sum_by-cons (sum_by f) c (map (λ d. if q d then h d else d) cs) in
        rw t (omega arith)

-- one that passes is the first that does
pub first_is : (q : List ℕ → Bool) (x : ℕ) (cs : List (List ℕ)) (a : List ℕ) → Hold q x cs → total (at x) cs ≤ 1 → Contains cs a → q a ≡ true → Contains a x → first q cs ≡ a
first_is q x [] a has once h p in_a = absurd (omega (arith, h.1))
first_is q x (c ∷ cs) a has once h p in_a = by_test (q c) refl h (λ k. first_is q x cs a has.1 (once_behind x c cs once) k p in_a)
  where
    later : (k : ℕ) → suc k < length (c ∷ cs) → get_or cs k a ≡ a → Contains cs a
    later k lt is = (k, omega arith, is)

    by_test : (b : Bool) → q c ≡ b → Contains (c ∷ cs) a → (Contains cs a → first q cs ≡ a) → first q (c ∷ cs) ≡ a
    by_test true t (zero, lt, is) ih = rw t is
    by_test true t (suc k, lt, is) ih =
        let split = sum_by-cons (sum_by (at x)) c cs in
        let one = has_one x c (has.0 t) in
        let other = has_one x a in_a in
        let part = get_or-le-sum_by (sum_by (at x)) cs k a (omega arith) in
        let same : sum_by (at x) (get_or cs k a) ≡ sum_by (at x) a = ap (sum_by (at x)) is in
        absurd (omega arith)
    by_test false t (zero, lt, is) ih = absurd (let e : q c ≡ q a = ap q is in cc)
    by_test false t (suc k, lt, is) ih = rw t (ih (later k lt is))

-- lists of one number each
abbrev alone : ℕ → List ℕ
alone x = x ∷ []

pub total-alone : (f : ℕ → ℕ) (xs : List ℕ) → total f (map alone xs) ≡ sum_by f xs
total-alone f [] = refl
total-alone f (x ∷ xs) =
    let rest = total-alone f xs in
    let split = sum_by-cons (sum_by f) (alone x) (map alone xs) in
    let one = sum_by-cons f x [] in
    let whole = sum_by-cons f x xs in
    omega arith

-- numbers in a row
none_below : (x a n : ℕ) → x < a → sum_by (at x) (range_with_len a n) ≡ 0
none_below x a zero l = refl
none_below x a (suc n) l =
    let split = sum_by-cons (at x) a (range_with_len (a + 1) n) in
    let rest = none_below x (a + 1) n (omega arith) in
    let here : at x a ≡ 0 = apart (a == x) refl in
    omega arith
  where
    apart : (b : Bool) → (a == x) ≡ b → ◌≡◌ {A = ℕ} (cond b 1 0) 0
    apart false e = refl
    apart true e = absurd (let same : a ≡ x = eqb-true a x e in omega arith)

pub range_once : (x a n : ℕ) → sum_by (at x) (range_with_len a n) ≤ 1
range_once x a zero = omega arith
range_once x a (suc n) = by_test (a == x) refl (range_once x (a + 1) n)
  where
    by_test : (b : Bool) → (a == x) ≡ b → sum_by (at x) (range_with_len (a + 1) n) ≤ 1 → sum_by (at x) (range_with_len a (suc n)) ≤ 1
    by_test true e ih =
        let same : a ≡ x = eqb-true a x e in
        let split : sum_by (at x) (range_with_len a (suc n)) ≡ 1 + sum_by (at x) (range_with_len (a + 1) n) = sum_by-cons (at x) a (range_with_len (a + 1) n) ∙ rw e refl in
        let rest = none_below x (a + 1) n (omega arith) in
        omega arith
    by_test false e ih =
        let split : sum_by (at x) (range_with_len a (suc n)) ≡ 0 + sum_by (at x) (range_with_len (a + 1) n) = sum_by-cons (at x) a (range_with_len (a + 1) n) ∙ rw e refl in
        omega arith

pub range_has : (x n : ℕ) → x < n → 1 ≤ sum_by (at x) (range_with_len 0 n)
range_has x n l = has_one x (range_with_len 0 n) (x, rw length-range_with_len l, get_or-range_with_len 0 n x x l ∙ (omega arith))

-- each of a list passes a test where none that fails stands there
abbrev pub fails : (ℕ → Bool) → ℕ → ℕ
fails t y = cond (t y) 0 1

pub passes : (t : ℕ → Bool) (y : ℕ) → fails t y ≤ 0 → t y ≡ true
passes t y l = by_test (t y) refl l
  where
    by_test : (b : Bool) → t y ≡ b → cond b 0 1 ≤ 0 → b ≡ true
    by_test true e l = refl
    by_test false e l = absurd (omega arith)

pub ones : (xs : List ℕ) → sum_by (λ _. 1) xs ≡ length xs
ones [] = refl
ones (x ∷ xs) = let split = sum_by-cons (λ (_ : ℕ). 1) x xs in let rest = ones xs in omega arith
