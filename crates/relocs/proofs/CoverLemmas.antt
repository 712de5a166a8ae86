-- The running greatest end tells whether one of the ranges so far reaches an address.
use Rattle.std.proofs.Common.{◌≡◌, ℕ, suc, ◌+◌, ◌<◌, ◌≤◌, Bool, true, false, max, leb, List, [], ◌∷◌, length, map, take, drop, get_or, refl, sym, ap, ◌∙◌, arith}
use Rattle.std.specs.Prelude.{◌||◌}
use Rattle.std.specs.List.{list_any, fold, AllWithin}
use Rattle.std.proofs.lemmas.Bool.{le-leb, lt-leb}
use Rattle.std.proofs.lemmas.Bool.Decides.{nat_tests}
use Rattle.std.proofs.lemmas.List.{take-append-drop, map_more, length-take-le, length-drop, get_or-take, get_or-drop}
use Rattle.std.proofs.lemmas.List.Folds.{list_any-append}
use Rattle.std.proofs.lemmas.List.Sums.{fold_push}
use Rattle.relocs.specs.Cover.{end_of, is_held_by, is_held, greatest_end}

leb_max : (t a b : ℕ) → leb t (max a b) ≡ (leb t a || leb t b)
leb_max t a b = grind (arith, nat_tests)

or_nothing : (a : Bool) → a ≡ (a || false)
or_nothing true = refl
or_nothing false = refl

or_assoc : (a b c : Bool) → ((a || b) || c) ≡ (a || (b || c))
or_assoc true b c = refl
or_assoc false b c = refl

reaches_from : (t a : ℕ) (es : List ℕ) → leb t (fold max a es) ≡ (leb t a || list_any (λ e. leb t e) es)
reaches_from t a [] = or_nothing (leb t a)
reaches_from t a (e ∷ es) = reaches_from t (max a e) es ∙ (rw leb_max (or_assoc (leb t a) (leb t e) (list_any (λ x. leb t x) es)))

any_ends : (t : ℕ) (rs : List (ℕ × ℕ)) → list_any (λ e. leb t e) (map end_of rs) ≡ list_any (λ r. leb t r.1) rs
any_ends t [] = refl
any_ends t (r ∷ rs) = ap (λ (b : Bool). leb t r.1 || b) (any_ends t rs)

-- the first n ranges have an end at t or past it where the greatest is
pub reaches : (t n : ℕ) (rs : List (ℕ × ℕ)) → 0 < t → leb t (greatest_end rs n) ≡ list_any (λ r. leb t r.1) (take n rs)
unfolding greatest_end
reaches t n rs lt =
    let none : leb t 0 ≡ false = lt-leb t 0 lt in
    reaches_from t 0 (map end_of (take n rs)) ∙ (rw (none, any_ends t (take n rs)) refl)

held_before : (from to n : ℕ) (rs : List (ℕ × ℕ)) → ((k : ℕ) (d : ℕ × ℕ) → k < length rs → (get_or rs k d).0 ≤ from) → list_any (is_held_by from to) rs ≡ list_any (λ r. leb to r.1) rs
held_before from to n [] h = refl
held_before from to n (r ∷ rs) h =
    let first : leb r.0 from ≡ true = le-leb _ _ (h 0 r (omega arith)) in
    rw first (ap (λ (b : Bool). leb to r.1 || b) (held_before from to n rs (λ k d lt. h (suc k) d (omega arith))))

held_past : (from to : ℕ) (rs : List (ℕ × ℕ)) → ((k : ℕ) (d : ℕ × ℕ) → k < length rs → from < (get_or rs k d).0) → list_any (is_held_by from to) rs ≡ false
held_past from to [] h = refl
held_past from to (r ∷ rs) h =
    let first : leb r.0 from ≡ false = lt-leb _ _ (h 0 r (omega arith)) in
    rw first (held_past from to rs (λ k d lt. h (suc k) d (omega arith)))

pub greatest_end_none : (rs : List (ℕ × ℕ)) → greatest_end rs 0 ≡ 0
unfolding greatest_end
greatest_end_none rs = refl

pub greatest_end_more : (rs : List (ℕ × ℕ)) (i : ℕ) (d : ℕ × ℕ) → i < length rs → greatest_end rs (i + 1) ≡ max (greatest_end rs i) (get_or rs i d).1
unfolding greatest_end
greatest_end_more rs i d lt = rw (map_more end_of rs i d lt) (fold_push max 0 (map end_of (take i rs)) (end_of (get_or rs i d)))

or_false : (a b : Bool) → b ≡ false → (a || b) ≡ a
or_false true b e = refl
or_false false b e = e

-- the ranges up to a place start in time, and those from it on too late
pub held_by_top : (rs : List (ℕ × ℕ)) (from to n : ℕ) → n ≤ length rs → AllWithin (λ r. r.0 ≤ from) rs 0 n → AllWithin (λ r. from < r.0) rs n (length rs) → 0 < to → is_held rs from to ≡ leb to (greatest_end rs n)
held_by_top rs from to n le before past lt =
    let p : ℕ × ℕ → Bool = is_held_by from to in
    let split : list_any p rs ≡ (list_any p (take n rs) || list_any p (drop n rs)) = ap (list_any p) (sym (take-append-drop n rs)) ∙ list_any-append p (take n rs) (drop n rs) in
    let len : length (take n rs) ≡ n = length-take-le n rs le in
    let first : list_any p (take n rs) ≡ list_any (λ r. leb to r.1) (take n rs) = held_before from to n (take n rs) (λ k d h. rw (get_or-take n rs k d (omega arith)) (before k d (omega arith) (omega arith))) in
    let later : list_any p (drop n rs) ≡ false = held_past from to (drop n rs) (λ k d h. rw get_or-drop (past (n + k) d (omega arith) (omega (arith, length-drop n rs)))) in
    split ∙ or_false _ _ later ∙ first ∙ sym (reaches to n rs lt)
