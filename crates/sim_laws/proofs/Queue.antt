-- The waiting list after a call: each hart that is left on it waits still, and is there once.
use Rattle.std.proofs.Common.{◌≡◌, ◌≢◌, ℕ, zero, suc, Bool, true, false, List, [], ◌∷◌, ◌++◌, map, get_or, refl, sym, ap, ◌∙◌, subst, arith}
use Rattle.std.specs.Prelude.{◌==◌, ◌||◌, All, AllPairs}
use Rattle.std.proofs.lemmas.Bool.{ne_eqb, eqb-false}
use Rattle.std.proofs.lemmas.List.Elements.{All-nil, All-cons, All-head, All-tail, All-append, All-map}
use Rattle.std.proofs.lemmas.List.Kept.{AllPairs-cons}
use Rattle.guest_sys.specs.declared.state.Waiter.{Waiter}
use Rattle.guest_sys.specs.Waiting.{waits_at, first_at, others, sent_to, requeued}
use Rattle.sim_laws.specs.Related.{is_listed}
use Rattle.guest_sys.proofs.SplitLaws.{first_out, others_out, others_past}

-- ---- pairs
module _ {X : Type 0} (R : X → X → Type 0) where
  pub pairs_head : (x : X) (xs : List X) → AllPairs R (x ∷ xs) → All (R x) xs
  pairs_head x xs h k d l = h zero (suc k) d (omega arith) (omega arith)

  pub pairs_tail : (x : X) (xs : List X) → AllPairs R (x ∷ xs) → AllPairs R xs
  pairs_tail x xs h i j d l within = h (suc i) (suc j) d (omega arith) (omega arith)

  pub pairs_nil : AllPairs R []
  pairs_nil i j d l within = absurd (omega arith)

  -- two lists behind each other
  pub pairs_append : (xs ys : List X) → AllPairs R xs → AllPairs R ys → All (λ x. All (R x) ys) xs → AllPairs R (xs ++ ys)
  pairs_append [] ys a b c = b
  pairs_append (x ∷ xs) ys a b c =
      AllPairs-cons R x (xs ++ ys) (All-append (R x) xs ys (pairs_head x xs a) (All-head (λ x. All (R x) ys) x xs c))
      (pairs_append xs ys (pairs_tail x xs a) b (All-tail (λ x. All (R x) ys) x xs c))

pub pairs_map : {X Y : Type 0} (R : Y → Y → Type 0) (f : X → Y) (xs : List X) → AllPairs (λ x y. R (f x) (f y)) xs → AllPairs R (map f xs)
pairs_map R f [] h = pairs_nil R
pairs_map R f (x ∷ xs) h =
    AllPairs-cons R (f x) (map f xs) (All-map (R (f x)) f xs (pairs_head (λ x y. R (f x) (f y)) x xs h)) (pairs_map R f xs (pairs_tail (λ x y. R (f x) (f y)) x xs h))

-- ---- a waiting list that is split
-- the first ones and the others, each in their order
data Parted : List Waiter → List Waiter → List Waiter → Type 0 where
  none : Parted [] [] []
  first : {fs os ws : List Waiter} (w : Waiter) → Parted fs os ws → Parted (w ∷ fs) os (w ∷ ws)
  other : {fs os ws : List Waiter} (w : Waiter) → Parted fs os ws → Parted fs (w ∷ os) (w ∷ ws)

as_first : (n a : ℕ) (w : Waiter) (ws : List Waiter) → waits_at a w ≡ true → Parted (first_at n a ws) (others n a ws) ws → Parted (first_at (suc n) a (w ∷ ws)) (others (suc n) a (w ∷ ws)) (w ∷ ws)
as_first n a w ws e k = rw e (first w k)

as_other : (n a : ℕ) (w : Waiter) (ws : List Waiter) → first_at n a (w ∷ ws) ≡ first_at n a ws → others n a (w ∷ ws) ≡ w ∷ others n a ws
    → Parted (first_at n a ws) (others n a ws) ws → Parted (first_at n a (w ∷ ws)) (others n a (w ∷ ws)) (w ∷ ws)
as_other n a w ws e f k = subst (λ fs. Parted fs (others n a (w ∷ ws)) (w ∷ ws)) (sym e) (subst (λ os. Parted (first_at n a ws) os (w ∷ ws)) (sym f) (other w k))

by_place : (n a : ℕ) (w : Waiter) (ws : List Waiter) (b : Bool) → waits_at a w ≡ b → Parted (first_at n a ws) (others n a ws) ws
    → Parted (first_at (suc n) a ws) (others (suc n) a ws) ws → Parted (first_at (suc n) a (w ∷ ws)) (others (suc n) a (w ∷ ws)) (w ∷ ws)
by_place n a w ws true e k m = as_first n a w ws e k
by_place n a w ws false e k m = as_other (suc n) a w ws (first_out (suc n) a w ws e) (others_out (suc n) a w ws e) m

parted : (n a : ℕ) (ws : List Waiter) → Parted (first_at n a ws) (others n a ws) ws
parted zero a [] = none
parted (suc n) a [] = none
parted zero a (w ∷ ws) = as_other zero a w ws refl (others_past zero a w ws (omega arith)) (parted zero a ws)
parted (suc n) a (w ∷ ws) = by_place n a w ws (waits_at a w) refl (parted n a ws) (parted (suc n) a ws)

module _ (P : Waiter → Type 0) where
  all_first : {fs os ws : List Waiter} → Parted fs os ws → All P ws → All P fs
  all_first none h = h
  all_first (first {fs = fs} {os = os} {ws = ws} w k) h = All-cons P w fs (All-head P w ws h) (all_first k (All-tail P w ws h))
  all_first (other {fs = fs} {os = os} {ws = ws} w k) h = all_first k (All-tail P w ws h)

  all_others : {fs os ws : List Waiter} → Parted fs os ws → All P ws → All P os
  all_others none h = h
  all_others (first {fs = fs} {os = os} {ws = ws} w k) h = all_others k (All-tail P w ws h)
  all_others (other {fs = fs} {os = os} {ws = ws} w k) h = All-cons P w os (All-head P w ws h) (all_others k (All-tail P w ws h))

-- another hart
abbrev pub Other : Waiter → Waiter → Type 0
Other v w = v.hart ≢ w.hart

once_first : {fs os ws : List Waiter} → Parted fs os ws → AllPairs Other ws → AllPairs Other fs
once_first none h = h
once_first (first {fs = fs} {os = os} {ws = ws} w k) h = AllPairs-cons Other w fs (all_first (Other w) k (pairs_head Other w ws h)) (once_first k (pairs_tail Other w ws h))
once_first (other {fs = fs} {os = os} {ws = ws} w k) h = once_first k (pairs_tail Other w ws h)

once_others : {fs os ws : List Waiter} → Parted fs os ws → AllPairs Other ws → AllPairs Other os
once_others none h = h
once_others (first {fs = fs} {os = os} {ws = ws} w k) h = once_others k (pairs_tail Other w ws h)
once_others (other {fs = fs} {os = os} {ws = ws} w k) h = AllPairs-cons Other w os (all_others (Other w) k (pairs_head Other w ws h)) (once_others k (pairs_tail Other w ws h))

-- none of the others is one of the first
abbrev Apart : List Waiter → List Waiter → Type 0
Apart fs os = All (λ v. All (Other v) fs) os

apart_cons : (w : Waiter) (fs os : List Waiter) → All (Other w) os → Apart fs os → Apart (w ∷ fs) os
apart_cons w fs os a b = λ k d l. All-cons (Other (get_or os k d)) w fs (λ e. a k d l (sym e)) (b k d l)

apart : {fs os ws : List Waiter} → Parted fs os ws → AllPairs Other ws → Apart fs os
apart none h = All-nil (λ v. All (Other v) [])
apart (first {fs = fs} {os = os} {ws = ws} w k) h = apart_cons w fs os (all_others (Other w) k (pairs_head Other w ws h)) (apart k (pairs_tail Other w ws h))
apart (other {fs = fs} {os = os} {ws = ws} w k) h =
    All-cons (λ v. All (Other v) fs) w os (all_first (Other w) k (pairs_head Other w ws h)) (apart k (pairs_tail Other w ws h))

-- ---- what is left after a wake-up, and after a move
-- the woken ones, and those that are left: none is there twice, and none of these is woken
pub record IsSplit (woken left : List Waiter) : Type 0 where
  pub woken_once : AllPairs Other woken
  pub left_once : AllPairs Other left
  pub not_woken : All (λ v. All (Other v) woken) left

pub after_wake : (n a : ℕ) (ws : List Waiter) → AllPairs Other ws → IsSplit (first_at n a ws) (others n a ws)
after_wake n a ws h = let k = parted n a ws in record { woken_once = once_first k h; left_once = once_others k h; not_woken = apart k h }

pub wake_all : (P : Waiter → Type 0) (n a : ℕ) (ws : List Waiter) → All P ws → All P (first_at n a ws) × All P (others n a ws)
wake_all P n a ws h = let k = parted n a ws in (all_first P k h, all_others P k h)

-- a fact of harts alone, where some wait elsewhere now
module _ (P : ℕ → Type 0) where
  sent_all : (b : ℕ) (ws : List Waiter) → All (λ w. P w.hart) ws → All (λ w. P w.hart) (sent_to b ws)
  sent_all b ws h = All-map (λ w. P w.hart) (λ (w : Waiter). record { hart = w.hart; at = b }) ws h

  pub requeue_all : (m a b : ℕ) (ws : List Waiter) → All (λ w. P w.hart) ws → All (λ w. P w.hart) (requeued m a b ws)
  requeue_all m a b ws h =
      let k = parted m a ws in
      All-append (λ w. P w.hart) (others m a ws) (sent_to b (first_at m a ws)) (all_others (λ w. P w.hart) k h) (sent_all b (first_at m a ws) (all_first (λ w. P w.hart) k h))

requeue_once : (m a b : ℕ) (ws : List Waiter) → AllPairs Other ws → AllPairs Other (requeued m a b ws)
requeue_once m a b ws h =
    let k = parted m a ws in
    let far = apart k h in
    pairs_append Other (others m a ws) (sent_to b (first_at m a ws)) (once_others k h)
    (pairs_map Other (λ (w : Waiter). record { hart = w.hart; at = b }) (first_at m a ws) (once_first k h))
    (λ i d l. sent_all (λ j. (get_or (others m a ws) i d).hart ≢ j) b (first_at m a ws) (far i d l))

pub after_requeue : (n a m b : ℕ) (ws : List Waiter) → AllPairs Other ws → IsSplit (first_at n a ws) (requeued m a b (others n a ws))
after_requeue n a m b ws h =
    let first = after_wake n a ws h in
    record {
      woken_once = first.woken_once;
      left_once = requeue_once m a b (others n a ws) first.left_once;
      not_woken = requeue_all (λ j. All (λ w. j ≢ w.hart) (first_at n a ws)) m a b (others n a ws) first.not_woken;
    }

-- ---- who is on the list
either : (b x y : Bool) → (b || x) ≡ true → (x ≡ true → y ≡ true) → (b || y) ≡ true
either true x y e f = refl
either false x y e f = f e

pub or_some : (x : Bool) → (x || true) ≡ true
or_some true = refl
or_some false = refl

or_second : (b x y z : Bool) → (b || x) ≡ true → (x ≡ true → (y || z) ≡ true) → (y || (b || z)) ≡ true
or_second true x y z e f = or_some y
or_second false x y z e f = f e

or_first : (b x y z : Bool) → (b || x) ≡ true → (x ≡ true → (y || z) ≡ true) → ((b || y) || z) ≡ true
or_first true x y z e f = refl
or_first false x y z e f = f e

-- who isn't one of the first is one of the others
others_listed : {fs os ws : List Waiter} (k : ℕ) → Parted fs os ws → All (λ w. k ≢ w.hart) fs → is_listed ws k ≡ true → is_listed os k ≡ true
others_listed k none far e = e
others_listed k (first {fs = fs} {os = os} {ws = ws} w p) far e =
    let away = ne_eqb w.hart k (λ q. All-head (λ (v : Waiter). k ≢ v.hart) w fs far (sym q)) in
    others_listed k p (All-tail (λ (v : Waiter). k ≢ v.hart) w fs far) (ap (λ b. b || is_listed ws k) (sym away) ∙ e)
others_listed k (other {fs = fs} {os = os} {ws = ws} w p) far e = either (w.hart == k) (is_listed ws k) (is_listed os k) e (others_listed k p far)

pub left_listed : (n a k : ℕ) (ws : List Waiter) → All (λ w. k ≢ w.hart) (first_at n a ws) → is_listed ws k ≡ true → is_listed (others n a ws) k ≡ true
left_listed n a k ws far e = others_listed k (parted n a ws) far e

parted_listed : {fs os ws : List Waiter} (k : ℕ) → Parted fs os ws → is_listed ws k ≡ true → (is_listed os k || is_listed fs k) ≡ true
parted_listed k none e = e
parted_listed k (first {fs = fs} {os = os} {ws = ws} w p) e = or_second (w.hart == k) (is_listed ws k) (is_listed os k) (is_listed fs k) e (parted_listed k p)
parted_listed k (other {fs = fs} {os = os} {ws = ws} w p) e = or_first (w.hart == k) (is_listed ws k) (is_listed os k) (is_listed fs k) e (parted_listed k p)

or_assoc : (a b c : Bool) → ((a || b) || c) ≡ (a || (b || c))
or_assoc true b c = refl
or_assoc false b c = refl

listed_append : (xs ys : List Waiter) (k : ℕ) → is_listed (xs ++ ys) k ≡ (is_listed xs k || is_listed ys k)
listed_append [] ys k = refl
listed_append (x ∷ xs) ys k = ap (λ b. (x.hart == k) || b) (listed_append xs ys k) ∙ sym (or_assoc (x.hart == k) (is_listed xs k) (is_listed ys k))

listed_sent : (b : ℕ) (ws : List Waiter) (k : ℕ) → is_listed (sent_to b ws) k ≡ is_listed ws k
listed_sent b [] k = refl
listed_sent b (w ∷ ws) k = ap (λ x. (w.hart == k) || x) (listed_sent b ws k)

-- who is requeued stays on the list
pub requeue_listed : (m a b k : ℕ) (ws : List Waiter) → is_listed ws k ≡ true → is_listed (requeued m a b ws) k ≡ true
requeue_listed m a b k ws e =
    listed_append (others m a ws) (sent_to b (first_at m a ws)) k ∙ ap (λ x. is_listed (others m a ws) k || x) (listed_sent b (first_at m a ws) k) ∙ parted_listed k (parted m a ws) e

pub join_listed : (h at k : ℕ) (ws : List Waiter) → (is_listed ws k || (h == k)) ≡ true → is_listed (ws ++ (record { hart = h; at = at }) ∷ []) k ≡ true
join_listed h at k ws e = listed_append ws ((record { hart = h; at = at }) ∷ []) k ∙ either (is_listed ws k) (h == k) ((h == k) || false) e (λ q. ap (λ b. b || false) q)

pub not_listed : (k : ℕ) (ws : List Waiter) → is_listed ws k ≡ false → All (λ w. k ≢ w.hart) ws
not_listed k [] e = All-nil (λ w. k ≢ w.hart)
not_listed k (w ∷ ws) e =
    let parts = or_none (w.hart == k) (is_listed ws k) e in
    All-cons (λ v. k ≢ v.hart) w ws (λ q. eqb-false w.hart k parts.0 (sym q)) (not_listed k ws parts.1)
  where
    or_none : (a b : Bool) → (a || b) ≡ false → (a ≡ false) × (b ≡ false)
    or_none true b e = absurd (cc)
    or_none false b e = (refl, e)

-- one more behind the others
pub after_join : (h at : ℕ) (ws : List Waiter) → AllPairs Other ws → All (λ w. w.hart ≢ h) ws → AllPairs Other (ws ++ (record { hart = h; at = at }) ∷ [])
after_join h at ws once new =
    pairs_append Other ws ((record { hart = h; at = at }) ∷ []) once
    (AllPairs-cons Other (record { hart = h; at = at }) [] (All-nil (Other (record { hart = h; at = at }))) (pairs_nil Other))
    (λ k d l. All-cons (Other (get_or ws k d)) (record { hart = h; at = at }) [] (new k d l) (All-nil (Other (get_or ws k d))))
