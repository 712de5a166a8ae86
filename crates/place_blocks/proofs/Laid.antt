-- Chains in the order of their ranks are laid as the rule says.
use Rattle.std.proofs.Common.{◌≡◌, ℕ, suc, ◌^◌, ◌<◌, ◌≤◌, ◌==◌, Bool, true, false, List, [], ◌∷◌, ◌++◌, map, length, get_or, inl, inr, refl, sym, ◌∙◌, subst, ap, arith}
use Rattle.std.specs.Prelude.{◌||◌, nat_lt, sum_by}
use Rattle.std.specs.List.{All, AllPairs, AllByRecursion, IsDistinct, list_any, flat_map}
use Rattle.std.specs.List.Sorted.{IsPermutation}
use Rattle.std.specs.Cmp.{nat_eq_equiv}
use Rattle.std.proofs.lemmas.Bool.{eq-eqb, ne_eqb, cases_lt, le-ltb}
use Rattle.std.proofs.lemmas.List.Sorted.{IsPermutation-map, All-permutation}
use Rattle.std.proofs.lemmas.List.Sums.{sum_by-cons}
use Rattle.std.proofs.lemmas.Map.Keys.{IsDistinct-IsPermutation}
use Rattle.blocks.specs.declared.run.Block.{Block}
use Rattle.branch_ring.specs.declared.counted.Counted.{Counted}
use Rattle.branch_ring.specs.Profiles.{count_of as count}
use Rattle.place_blocks.specs.declared.lay.Ranked.{Ranked}
use Rattle.place_blocks.specs.Edges.{leaves, count_of}
use Rattle.place_blocks.specs.Inputs.{AreBlocks}
use Rattle.place_blocks.specs.Orders.{least, is_first, heat, Goes, IsLaid}
use Rattle.place_blocks.specs.Places.{times, times_in}
use Rattle.place_blocks.specs.Ranks.{sum_of, ranked, chain_of, MayPrecede}
use Rattle.place_blocks.specs.Slots.{is_full, chains_in}
use Rattle.place_blocks.proofs.Counts.{pick, is, is_here, times_cons, times_in_cons, times_kept, stands, least_in, first_is}
use Rattle.place_blocks.proofs.Found.{one_holder}
use Rattle.place_blocks.proofs.Rises.{rises_from, rises_map, by_recursion, by_place}
use Rattle.place_blocks.proofs.Weighing.{count_either, count_no, count_small}

-- a block of the chain that leaves
some_leaves : (blocks : List Block) (p : Counted) (chain : List ℕ) → list_any (λ b. leaves blocks b p) chain ≡ true → (b : ℕ) × (leaves blocks b p ≡ true) × (1 ≤ times b chain)
some_leaves blocks p [] e = absurd cc
some_leaves blocks p (c ∷ chain) e = which (leaves blocks c p) refl e (some_leaves blocks p chain)
  where
    which : (t : Bool) → leaves blocks c p ≡ t → (t || list_any (λ b. leaves blocks b p) chain) ≡ true
        → (list_any (λ b. leaves blocks b p) chain ≡ true → (b : ℕ) × (leaves blocks b p ≡ true) × (1 ≤ times b chain)) → (b : ℕ) × (leaves blocks b p ≡ true) × (1 ≤ times b (c ∷ chain))
    which true f g rest = (c, f, stands c (c ∷ chain) 0 0 (omega arith) refl)
    which false f g rest =
        let r = rest g in
        let a = times_cons r.0 c chain in
        (r.0, r.1, omega (arith, r.2, a))

module _ (blocks : List Block) (profile : List Counted) (are : AreBlocks blocks) (counts : List ℕ) (counts_are : (k : ℕ) → get_or counts k 0 ≡ count_of profile (leaves blocks k)) where
  -- where no block stands twice, the heat is the sum of the blocks' counts
  pub heat_is : (chain : List ℕ) → ((b : ℕ) → times b chain ≤ 1) → sum_of counts chain ≡ heat blocks profile chain
  unfolding heat
  heat_is [] once = sym (count_no profile)
  heat_is (b ∷ chain) once =
      let a = sum_by-cons (λ (b : ℕ). get_or counts b 0) b chain in
      let h = counts_are b in
      let rest = heat_is chain (λ c. let o = once c in let t = times_cons c b chain in omega (arith, o, t)) in
      let e = count_either (leaves blocks b) (λ p. list_any (λ b. leaves blocks b p) chain) apart profile in
      omega (arith, a, h, rest, e)
    where
      apart : (p : Counted) → leaves blocks b p ≡ true → list_any (λ b. leaves blocks b p) chain ≡ true → ⊥
      apart p f g =
          let r = some_leaves blocks p chain g in
          let same : b ≡ r.0 = one_holder blocks are b r.0 p.from f r.1 in
          let o = once r.0 in
          let t = times_cons r.0 b chain in
          let u : is r.0 b ≡ 1 = subst (λ (x : ℕ). is x b ≡ 1) same (is_here b) in
          omega (arith, o, t, u, r.2)

  heat_small : (chain : List ℕ) → heat blocks profile chain ≤ sum_by count profile
  unfolding heat
  heat_small chain = count_small profile (λ p. list_any (λ b. leaves blocks b p) chain)

  pub sum_small : (chain : List ℕ) → ((b : ℕ) → times b chain ≤ 1) → sum_by count profile < 2 ^ 62 → sum_of counts chain < 2 ^ 64
  sum_small chain once small = let a = heat_is chain once in let b = heat_small chain in omega (arith, a, b, small)

-- each of some chains
each_once : (chains : List (List ℕ)) → ((b : ℕ) → times_in b chains ≤ 1) → AllByRecursion (λ c. (b : ℕ) → times b c ≤ 1) chains
each_once [] once = tt
each_once (c ∷ chains) once = (
  λ b. let o = once b in let t = times_in_cons b c chains in omega (arith, o, t),
  each_once chains (λ b. let o = once b in let t = times_in_cons b c chains in omega (arith, o, t)),
)

all_of : {X : Type 0} (P Q : X → Type 0) (up : (x : X) → P x → Q x) (xs : List X) → AllByRecursion P xs → AllByRecursion Q xs
all_of P Q up [] h = tt
all_of P Q up (x ∷ xs) h = (up x h.0, all_of P Q up xs h.1)

bound : (b n : ℕ) → 1 ≤ pick (nat_lt b n) 1 0 → b < n
bound b n h =
    elim (cases_lt b n) [
      | inl lt ↦ lt
      | inr ge ↦ absurd (let e = ap (λ (x : Bool). pick x 1 0) (le-ltb b n ge) in omega (arith, e, h))
    ]

at_most_one : (x : Bool) → pick x 1 0 ≤ 1
at_most_one true = omega arith
at_most_one false = omega arith

-- the blocks of chains in which each number below n stands once
module _ (n : ℕ) (chains : List (List ℕ)) (each : (b : ℕ) → times_in b chains ≡ pick (nat_lt b n) 1 0) where
  pub once : (b : ℕ) → times_in b chains ≤ 1
  once b = let e = each b in let m = at_most_one (nat_lt b n) in omega (arith, e, m)

  pub chains_once : All (λ c. (b : ℕ) → times b c ≤ 1) chains
  chains_once = by_place (λ c. (b : ℕ) → times b c ≤ 1) chains (each_once chains once)

  below : (cs : List (List ℕ)) → ((b : ℕ) → times_in b cs ≤ times_in b chains) → AllByRecursion (λ c. All (λ b. b < n) c) cs
  below [] part = tt
  below (c ∷ cs) part = (
    λ i d lt.
        let s = stands (get_or c i d) c i d lt refl in
        let t = times_in_cons (get_or c i d) c cs in
        let p = part (get_or c i d) in
        let e = each (get_or c i d) in
        bound (get_or c i d) n (omega (arith, s, t, p, e)),
    below cs (λ b. let t = times_in_cons b c cs in let p = part b in omega (arith, t, p)),
  )

  pub chains_below : All (λ c. All (λ b. b < n) c) chains
  chains_below = by_place (λ c. All (λ b. b < n) c) chains (below chains (λ b. omega arith))

-- one more chain in a loop over slots
pub all_head : {X : Type 0} (P : X → Type 0) (x : X) (xs : List X) → All P (x ∷ xs) → P x
all_head P x xs h = h 0 x (omega arith)

pub all_tail : {X : Type 0} (P : X → Type 0) (x : X) (xs : List X) → All P (x ∷ xs) → All P xs
all_tail P x xs h = λ k d lt. h (suc k) d (omega (arith, lt))

pub ranked_more : (counts : List ℕ) (ranks : List Ranked) (c : List ℕ) (rest : List (List ℕ)) (new : List Ranked) → new ≡ ranks ++ map (ranked counts) (chains_in (c ∷ []))
    → new ++ map (ranked counts) (chains_in rest) ≡ ranks ++ map (ranked counts) (chains_in (c ∷ rest))
ranked_more counts ranks [] rest new e = ap (λ (l : List Ranked). l ++ map (ranked counts) (chains_in rest)) (e ∙ none ranks)
  where
    none : (rs : List Ranked) → rs ++ [] ≡ rs
    none [] = refl
    none (r ∷ rs) = ap (λ (l : List Ranked). r ∷ l) (none rs)
ranked_more counts ranks (k ∷ c) rest new e = ap (λ (l : List Ranked). l ++ map (ranked counts) (chains_in rest)) e ∙ joined ranks
  where
    joined : (rs : List Ranked) → (rs ++ ranked counts (k ∷ c) ∷ []) ++ map (ranked counts) (chains_in rest) ≡ rs ++ ranked counts (k ∷ c) ∷ map (ranked counts) (chains_in rest)
    joined [] = refl
    joined (r ∷ rs) = ap (λ (l : List Ranked). r ∷ l) (joined rs)

full_kept : (slots : List (List ℕ)) → AllByRecursion (λ c. is_full c ≡ true) (chains_in slots)
full_kept [] = tt
full_kept ([] ∷ slots) = full_kept slots
full_kept ((k ∷ c) ∷ slots) = (refl, full_kept slots)

-- chains with no block in common have different least blocks
least_apart : (chains : List (List ℕ)) → AllByRecursion (λ c. is_full c ≡ true) chains → ((b : ℕ) → times_in b chains ≤ 1) → IsDistinct (λ c d. least c == least d) chains
unfolding IsDistinct
least_apart [] full once = tt
least_apart (c ∷ chains) full once = (
  others chains full.1 (let a = least_in c full.0 in let o = once (least c) in let t = times_in_cons (least c) c chains in omega (arith, a, o, t)),
  least_apart chains full.1 (λ b. let o = once b in let t = times_in_cons b c chains in omega (arith, o, t)),
)
  where
    others : (ds : List (List ℕ)) → AllByRecursion (λ d. is_full d ≡ true) ds → times_in (least c) ds ≡ 0 → AllByRecursion (λ d. (least c == least d) ≡ false) ds
    others [] f e = tt
    others (d ∷ ds) f e =
        let t = times_in_cons (least c) d ds in
        let l = least_in d f.0 in
        (ne_eqb (least c) (least d) (λ same. let g = ap (λ (x : ℕ). times x d) same in omega (arith, e, t, l, g)), others ds f.1 (omega (arith, e, t)))

module _ (blocks : List Block) (profile : List Counted) (are : AreBlocks blocks) (counts : List ℕ) (counts_are : (k : ℕ) → get_or counts k 0 ≡ count_of profile (leaves blocks k))
    (slots : List (List ℕ)) (each : (b : ℕ) → times_in b slots ≡ pick (nat_lt b (length blocks)) 1 0)
    (ranks sorted : List Ranked) (made : ranks ≡ map (ranked counts) (chains_in slots)) (same : IsPermutation ranks sorted) where
  abbrev Known : Ranked → Type 0
  Known r = (r.heat ≡ heat blocks profile r.chain) × (r.least ≡ least r.chain) × (is_full r.chain ≡ true)

  abbrev chains : List (List ℕ)
  chains = chains_in slots

  chains_single : (b : ℕ) → times_in b chains ≤ 1
  chains_single b = let e = each b in let k = times_kept b slots in let m = at_most_one (nat_lt b (length blocks)) in omega (arith, e, k, m)

  known_of : (cs : List (List ℕ)) → AllByRecursion (λ c. is_full c ≡ true) cs → AllByRecursion (λ c. (b : ℕ) → times b c ≤ 1) cs → AllByRecursion Known (map (ranked counts) cs)
  known_of [] f o = tt
  known_of (c ∷ cs) f o = ((heat_is blocks profile are counts counts_are c o.0, refl, f.0), known_of cs f.1 o.1)

  all_known : AllByRecursion Known sorted
  all_known =
      let a = by_place Known (map (ranked counts) chains) (known_of chains (full_kept slots) (each_once chains chains_single)) in
      by_recursion Known sorted (All-permutation Known ranks sorted same (subst (All Known) (sym made) a))

  chains_of : (cs : List (List ℕ)) → map chain_of (map (ranked counts) cs) ≡ cs
  chains_of [] = refl
  chains_of (c ∷ cs) = ap (λ (l : List (List ℕ)). c ∷ l) (chains_of cs)

  ranks_chains : map chain_of ranks ≡ chains
  ranks_chains = ap (map chain_of) made ∙ chains_of chains

  same_chains : IsPermutation chains (map chain_of sorted)
  same_chains = subst (λ (cs : List (List ℕ)). IsPermutation cs (map chain_of sorted)) ranks_chains (IsPermutation-map chain_of ranks sorted same)

  distinct_ranks : (cs : List (List ℕ)) → IsDistinct (λ c d. least c == least d) cs → IsDistinct (λ (r s : Ranked). r.least == s.least) (map (ranked counts) cs)
  unfolding IsDistinct
  distinct_ranks [] h = tt
  distinct_ranks (c ∷ cs) h = (differ cs h.0, distinct_ranks cs h.1)
    where
      differ : (ds : List (List ℕ)) → AllByRecursion (λ d. (least c == least d) ≡ false) ds → AllByRecursion (λ (s : Ranked). (least c == s.least) ≡ false) (map (ranked counts) ds)
      differ [] g = tt
      differ (d ∷ ds) g = (g.0, differ ds g.1)

  distinct : IsDistinct (λ (r s : Ranked). r.least == s.least) sorted
  distinct =
      IsDistinct-IsPermutation (λ (r s : Ranked). r.least == s.least) (λ r s. nat_eq_equiv.symm r.least s.least) ranks sorted same
      (subst (IsDistinct (λ (r s : Ranked). r.least == s.least)) (sym made) (distinct_ranks chains (least_apart chains (full_kept slots) chains_single)))

  apart : (r s : Ranked) → (r.least == s.least) ≡ false → r.least ≡ s.least → ⊥
  apart r s f e = let t = eq-eqb r.least s.least e in let u = sym t ∙ f in cc

  first_rank : (r : Ranked) → Known r → r.least ≡ 0 → is_first r.chain ≡ true
  first_rank r k e = first_is r.chain k.2 ∙ eq-eqb (least r.chain) 0 (sym k.1 ∙ e)

  other_rank : (r : Ranked) → Known r → (r.least ≡ 0 → ⊥) → is_first r.chain ≡ false
  other_rank r k f = first_is r.chain k.2 ∙ ne_eqb (least r.chain) 0 (λ e. f (k.1 ∙ e))

  up : (r s : Ranked) → Known r → Known s → MayPrecede r s → (r.least == s.least) ≡ false → Goes (heat blocks profile) r.chain s.chain
  up r s p q (inl z) f = (other_rank s q (λ e. apart r s f (z ∙ sym e)), inl (first_rank r p z))
  up r s p q (inr (pos, inl lt)) f = (other_rank s q (λ e. omega (arith, pos, e)), inr (inl (omega (arith, lt, p.0, q.0))))
  up r s p q (inr (pos, inr (e, le))) f =
      elim (cases_lt r.least s.least) [
        | inl lt ↦ (other_rank s q (λ e. omega (arith, pos, e)), inr (inr (sym p.0 ∙ e ∙ q.0, omega (arith, lt, p.1, q.1))))
        | inr ge ↦ absurd (apart r s f (omega (arith, le, ge)))
      ]

  flat_is : (rs : List Ranked) → flat_map chain_of rs ≡ flat_map (λ c. c) (map chain_of rs)
  flat_is [] = refl
  flat_is (r ∷ rs) = ap (λ (l : List ℕ). r.chain ++ l) (flat_is rs)

  pub is_laid : AllPairs MayPrecede sorted → (order : List ℕ) → order ≡ flat_map chain_of sorted → IsLaid (heat blocks profile) chains order
  is_laid up_to order is = record {
    laid = map chain_of sorted;
    same = same_chains;
    rises = rises_map chain_of (Goes (heat blocks profile)) sorted
        (rises_from MayPrecede (λ r s. Goes (heat blocks profile) r.chain s.chain) Known (λ r s. r.least == s.least) up sorted all_known up_to distinct);
    is = is ∙ flat_is sorted;
  }
