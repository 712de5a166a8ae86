-- An order by chains is one of all blocks.
use Rattle.std.proofs.Common.{◌≡◌, ℕ, suc, ◌+◌, ◌≤◌, Bool, true, false, not, List, [], ◌∷◌, ◌++◌, length, refl, sym, ap, ◌∙◌, arith}
use Rattle.std.specs.Prelude.{◌==◌, ◌&&◌, ◌||◌, Contains, if◌then◌else◌}
use Rattle.std.specs.List.{filter, list_any, range_with_len, sum_by}
use Rattle.std.proofs.lemmas.Bool.{and_parts, eqb-true}
use Rattle.std.proofs.lemmas.List.Sorted.{sum_by-IsPermutation}
use Rattle.std.proofs.lemmas.List.Sums.{sum_by-append}
use Rattle.blocks.specs.declared.run.Block.{Block}
use Rattle.branch_ring.specs.declared.counted.Counted.{Counted}
use Rattle.plans.specs.Orders.{IsOrder}
use Rattle.place_blocks.specs.Edges.{Edge, weight}
use Rattle.place_blocks.specs.Chains.{begins, ends, can_join, chain_of, join, Joins}
use Rattle.place_blocks.specs.Orders.{singles, IsChain}
use Rattle.placer.proofs.Totals.{at, total, total-flat, total-alone, Once, Hold, first, taken_out, gone_on, range_once}
use Rattle.placer.proofs.Ordered.{order_of}

begins_has : (b : ℕ) (c : List ℕ) → begins b c ≡ true → Contains c b
begins_has b [] e = absurd cc
begins_has b (x ∷ c) e = (0, omega arith, eqb-true x b e)

ends_has : (a : ℕ) (c : List ℕ) → ends a c ≡ true → Contains c a
ends_has a [] e = absurd cc
ends_has a (x ∷ []) e = (0, omega arith, eqb-true x a e)
ends_has a (x ∷ y ∷ c) e = let h = ends_has a (y ∷ c) e in (suc h.0, omega (arith, h.1), h.2)

all_hold : (q : List ℕ → Bool) (x : ℕ) (cs : List (List ℕ)) → ((c : List ℕ) → q c ≡ true → Contains c x) → Hold q x cs
all_hold q x [] h = tt
all_hold q x (c ∷ cs) h = (h c, all_hold q x cs h)

chain_is_first : (b : ℕ) (cs : List (List ℕ)) → chain_of b cs ≡ first (begins b) cs
chain_is_first b [] = refl
chain_is_first b (c ∷ cs) = ap (λ (d : List ℕ). if begins b c then c else d) (chain_is_first b cs)

-- what passes one test and not another is among those that don't pass the other
some_left : (p q : List ℕ → Bool) (cs : List (List ℕ)) → list_any (λ c. p c && not (q c)) cs ≡ true → list_any p (filter (λ c. not (q c)) cs) ≡ true
some_left p q [] e = absurd cc
some_left p q (c ∷ cs) e = by_test (p c) (q c) refl refl e (some_left p q cs)
  where
    by_test : (s t : Bool) → p c ≡ s → q c ≡ t → (s && not t || list_any (λ d. p d && not (q d)) cs) ≡ true
        → (list_any (λ d. p d && not (q d)) cs ≡ true → list_any p (filter (λ d. not (q d)) cs) ≡ true)
        → list_any p (if not t then c ∷ filter (λ d. not (q d)) cs else filter (λ d. not (q d)) cs) ≡ true
    by_test true true u v h ih = ih h
    by_test true false u v h ih = rw u refl
    by_test false true u v h ih = ih h
    by_test false false u v h ih = rw u (ih h)

joined : (f : ℕ → ℕ) (e : Edge) (cs : List (List ℕ)) → Once cs → can_join cs e ≡ true → total f (join e cs) ≡ total f cs
joined f e cs once can =
    let a : ℕ = e.0 in
    let b : ℕ = e.1 in
    let tests = and_parts (not (b == 0)) (list_any (λ c. ends a c && not (begins b c)) cs && list_any (begins b) cs) can in
    let two = and_parts (list_any (λ c. ends a c && not (begins b c)) cs) (list_any (begins b) cs) tests.1 in
    let rest : List (List ℕ) = filter (λ c. not (begins b c)) cs in
    let out : (g : ℕ → ℕ) → total g rest + sum_by g (first (begins b) cs) ≡ total g cs = λ g. taken_out g (begins b) b cs (all_hold (begins b) b cs (begins_has b)) (once b) two.1 in
    let few : total (at a) rest ≤ 1 = (let o = out (at a) in let m = once a in omega arith) in
    let more = gone_on f (ends a) (λ c. c ++ chain_of b cs) (sum_by f (chain_of b cs)) a rest (all_hold (ends a) a rest (ends_has a)) few (some_left (ends a) (begins b) cs two.0)
    (sum_by-append f (first (ends a) rest) (chain_of b cs)) in
    let tail : sum_by f (chain_of b cs) ≡ sum_by f (first (begins b) cs) = ap (sum_by f) (chain_is_first b cs) in
    more ∙ ap (λ (n : ℕ). total f rest + n) tail ∙ out f

all_joined : (w : Edge → ℕ) (taken : List Edge) (before after : List (List ℕ)) → Once before → Joins w before taken after → (f : ℕ → ℕ) → total f before ≡ total f after
all_joined w [] before after once j f = ap (total f) j.0
all_joined w (e ∷ taken) before after once j f =
    let can = j.0.0.1 in
    let once_on : Once (join e before) = λ x. rw (joined (at x) e before once can) (once x) in
    sym (joined f e before once can) ∙ all_joined w taken (join e before) after once_on j.1 f

pub chain_order : (blocks : List Block) (profile : List Counted) (order : List ℕ) → IsChain blocks profile order → IsOrder (length blocks) order
chain_order blocks profile order h =
    let n : ℕ = length blocks in
    let once : Once (singles n) = λ x. rw (total-alone (at x) (range_with_len 0 n)) (range_once x 0 n) in
    order_of n order (λ f.
    ap (sum_by f) h.laid.is
    ∙ total-flat f h.laid.laid
    ∙ sum_by-IsPermutation (sum_by f) h.chains h.laid.laid h.laid.same
    ∙ sym (all_joined (weight blocks profile) h.taken (singles n) h.chains once h.joins f)
    ∙ total-alone f (range_with_len 0 n))
