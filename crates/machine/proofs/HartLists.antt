-- Laws of lists of harts.
use Rattle.std.proofs.Common.{◌≡◌, ℕ, zero, suc, ◌+◌, ◌<◌, Bool, true, false, List, [], ◌∷◌, ◌++◌, map, take, drop, length, get_or, set, Option, Some, None, ap, sym, refl, ◌∙◌, arith}
use Rattle.std.specs.Prelude.{◌||◌, ◌==◌, is_some}
use Rattle.std.specs.List.{list_any}
use Rattle.std.proofs.lemmas.List.{set-get_or}
use Rattle.std.proofs.lemmas.List.Elements.{All-tail}
use Rattle.hart.specs.declared.hart.Hart.{Hart}
use Rattle.machine.specs.Harts.{is_live, no_hart, hart_in, lost, unreserved, written_by, is_stalled}
use Rattle.machine.specs.Sharing.{HoldsNone}

-- ---- a live hart was made
pub live_made : (hs : List Hart) (h : ℕ) → is_live (hart_in hs h).status ≡ true → h < length hs
live_made [] h live = absurd cc
live_made (x ∷ xs) zero live = omega arith
live_made (x ∷ xs) (suc h) live = let rest = live_made xs h live in omega (arith, rest)

or_true : (b : Bool) → (b || true) ≡ true
or_true true = refl
or_true false = refl

any_live : (hs : List Hart) (h : ℕ) → is_live (hart_in hs h).status ≡ true → list_any (λ (k : Hart). is_live k.status) hs ≡ true
any_live [] h live = absurd cc
any_live (x ∷ xs) zero live = rw live refl
any_live (x ∷ xs) (suc h) live = rw (any_live xs h live) (or_true (is_live x.status))

-- so with a live hart nothing is stalled
pub not_stalled : (hs : List Hart) (h : ℕ) → is_live (hart_in hs h).status ≡ true → is_stalled hs ≡ false
not_stalled hs h live = rw (any_live hs h live) refl

-- ---- reservations
-- where none is held none is lost
lost_none : (among : ℕ → Bool) (h : Hart) → h.reservation ≡ None → unreserved among h ≡ h
lost_none among h none = (λ i. record h { reservation = (ap (lost among) none ∙ sym none) i })

pub none_lost : (among : ℕ → Bool) (hs : List Hart) → HoldsNone hs → map (unreserved among) hs ≡ hs
none_lost among [] none = refl
none_lost among (x ∷ xs) none = λ i. lost_none among x (none 0 x (omega arith)) i ∷ none_lost among xs (All-tail (λ (k : Hart). k.reservation ≡ None) x xs none) i

-- so a write takes none away
pub none_written : (h block : ℕ) (hs : List Hart) → HoldsNone hs → hs ≡ written_by h block hs
unfolding written_by
none_written h block hs none = sym (ap (λ xs. set xs h (hart_in hs h)) (none_lost (λ b. b == block) hs none) ∙ set-get_or hs h no_hart)

or_left : (a b : Bool) → (a || b) ≡ false → a ≡ false
or_left true b e = absurd cc
or_left false b e = refl

or_right : (a b : Bool) → (a || b) ≡ false → b ≡ false
or_right true b e = absurd cc
or_right false b e = e

none_of : (o : Option ℕ) → is_some o ≡ false → o ≡ None
none_of None e = refl
none_of (Some n) e = absurd cc

pub none_held : (hs : List Hart) → list_any (λ (k : Hart). is_some k.reservation) hs ≡ false → (i : ℕ) (d : Hart) → i < length hs → (get_or hs i d).reservation ≡ None
none_held [] e i d in' = absurd (omega arith)
none_held (x ∷ xs) e zero d in' = none_of x.reservation (or_left (is_some x.reservation) (list_any (λ (k : Hart). is_some k.reservation) xs) e)
none_held (x ∷ xs) e (suc i) d in' = none_held xs (or_right (is_some x.reservation) (list_any (λ (k : Hart). is_some k.reservation) xs) e) i d (omega arith)

-- ---- a loop that changes each
pub changed_more : {X : Type 0} (f : X → X) (xs : List X) (i : ℕ) (d : X) → i < length xs → set (map f (take i xs) ++ drop i xs) i (f (get_or xs i d)) ≡ map f (take (suc i) xs) ++ drop (suc i) xs
changed_more f [] i d in' = absurd (omega arith)
changed_more f (x ∷ xs) zero d in' = refl
changed_more f (x ∷ xs) (suc i) d in' = ap (λ ys. f x ∷ ys) (changed_more f xs i d (omega arith))

pub unchanged_yet : {X : Type 0} (f : X → X) (xs : List X) (i : ℕ) (d : X) → i < length xs → get_or (map f (take i xs) ++ drop i xs) i d ≡ get_or xs i d
unchanged_yet f [] i d in' = absurd (omega arith)
unchanged_yet f (x ∷ xs) zero d in' = refl
unchanged_yet f (x ∷ xs) (suc i) d in' = unchanged_yet f xs i d (omega arith)

-- the harts before i are changed, and i is
pub changed_next : {X : Type 0} (f : X → X) (before now : List X) (i : ℕ) (d y : X) → i < length before → now ≡ map f (take i before) ++ drop i before → y ≡ f (get_or now i d)
    → set now i y ≡ map f (take (i + 1) before) ++ drop (i + 1) before
changed_next f before now i d y in' half y_is =
    let here : get_or now i d ≡ get_or before i d = ap (λ xs. get_or xs i d) half ∙ unchanged_yet f before i d in' in
    let next : i + 1 ≡ suc i = omega arith in
    ap (λ xs. set xs i y) half ∙ ap (set (map f (take i before) ++ drop i before) i) (y_is ∙ ap f here) ∙ changed_more f before i d in'
    ∙ ap (λ n. map f (take n before) ++ drop n before) (sym next)
