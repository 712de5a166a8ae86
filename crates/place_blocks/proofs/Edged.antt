-- The edges of a map of weights, sorted, are those of the rule in their order.
use Rattle.std.proofs.Common.{◌≡◌, ℕ, zero, suc, ◌<◌, Bool, true, false, cond, List, [], ◌∷◌, map, Option, Some, None, inl, inr, refl, sym, ◌∙◌, subst, ap, arith}
use Rattle.std.specs.Prelude.{◌↔◌, filter, nat_lt, slice_get, unwrap_or}
use Rattle.std.specs.declared.cmp.Ordering.{Ordering}
use Rattle.std.specs.declared.cmp.Ordering.TheVariants.{Less, Equal, Greater}
use Rattle.std.specs.Ordering.{is_eq, eq_by_cmp}
use Rattle.std.specs.BTreeMap.{BTreeMap, get, keys, IsOrdered, is_at as is_key}
use Rattle.std.specs.Cmp.{IsTotalOrder}
use Rattle.std.specs.List.{AllPairs, AllByRecursion, IsDistinct}
use Rattle.std.specs.List.Sorted.{IsPermutation}
use Rattle.std.specs.Map.{keys_of}
use Rattle.std.proofs.lemmas.Bool.{lt-ltb, ltb-true, cases_lt}
use Rattle.std.proofs.lemmas.Cmp.{nat_cmp_total, then_total, on_total, eq_by_cmp_equiv}
use Rattle.std.proofs.lemmas.List.Sorted.{Contains-permutation, IsPermutation-sym, IsPermutation-map}
use Rattle.std.proofs.lemmas.Map.Entries.{btree_map_get_place, place_from_lookup}
use Rattle.std.proofs.lemmas.Map.Keys.{IsDistinct-from_sorted, IsDistinct-IsPermutation}
use Rattle.std.proofs.lemmas.Map.Lookups.{exact_pairs, exact_unsigned}
use Rattle.std.proofs.lemmas.Map.Made.{IsDistinct-keys_filter}
use Rattle.place_blocks.specs.declared.edge.WeighedEdge.{WeighedEdge}
use Rattle.place_blocks.specs.Chains.{Precedes}
use Rattle.place_blocks.specs.Edges.{Edge}
use Rattle.place_blocks.specs.Gains.{edge_cmp, weight_at, entry_of, MayPrecede}
use Rattle.place_blocks.specs.Passes.{edge_of}
use Rattle.place_blocks.specs.Rising.{Rises, IsAmong}
use Rattle.place_blocks.proofs.Once.{among_from, contains_from}
use Rattle.place_blocks.proofs.Rises.{rises_from, rises_map, distinct_map}

pub map_among : {X Y : Type 0} (f : X → Y) (xs : List X) (x : X) → IsAmong xs x → IsAmong (map f xs) (f x)
map_among f [] x h = absurd h
map_among f (y ∷ ys) x (inl e) = inl (ap f e)
map_among f (y ∷ ys) x (inr h) = inr (map_among f ys x h)

pub among_map : {X Y : Type 0} (f : X → Y) (xs : List X) (y : Y) → IsAmong (map f xs) y → (x : X) × IsAmong xs x × (f x ≡ y)
among_map f [] y h = absurd h
among_map f (x ∷ xs) y (inl e) = (x, inl refl, e)
among_map f (x ∷ xs) y (inr h) = let r = among_map f xs y h in (r.0, inr r.1, r.2)

among_kept : {X : Type 0} (p : X → Bool) (y : X) (ys : List X) (x : X) (b : Bool) → p y ≡ b → (IsAmong (filter p ys) x → IsAmong ys x × (p x ≡ true)) → IsAmong (cond b (y ∷ filter p ys) (filter p ys)) x → IsAmong (y ∷ ys) x × (p x ≡ true)
among_kept p y ys x true e rest (inl same) = (inl same, ap p (sym same) ∙ e)
among_kept p y ys x true e rest (inr k) = let r = rest k in (inr r.0, r.1)
among_kept p y ys x false e rest k = let r = rest k in (inr r.0, r.1)

pub among_filter : {X : Type 0} (p : X → Bool) (xs : List X) (x : X) → IsAmong (filter p xs) x → IsAmong xs x × (p x ≡ true)
among_filter p [] x h = absurd h
among_filter p (y ∷ ys) x h = among_kept p y ys x (p y) refl (among_filter p ys x) h

kept_first : {X : Type 0} (y : X) (zs : List X) (x : X) (b : Bool) → b ≡ true → y ≡ x → IsAmong (cond b (y ∷ zs) zs) x
kept_first y zs x true e same = inl same
kept_first y zs x false e same = absurd cc

kept_later : {X : Type 0} (y : X) (zs : List X) (x : X) (b : Bool) → IsAmong zs x → IsAmong (cond b (y ∷ zs) zs) x
kept_later y zs x true h = inr h
kept_later y zs x false h = h

pub filter_among : {X : Type 0} (p : X → Bool) (xs : List X) (x : X) → IsAmong xs x → p x ≡ true → IsAmong (filter p xs) x
filter_among p [] x h e = absurd h
filter_among p (y ∷ ys) x (inl same) e = kept_first y (filter p ys) x (p y) (ap p same ∙ e) same
filter_among p (y ∷ ys) x (inr h) e = kept_later y (filter p ys) x (p y) (filter_among p ys x h e)

pub among_place : {X : Type 0} (xs : List X) (x : X) → IsAmong xs x → (i : ℕ) × (slice_get xs i ≡ Some x)
among_place [] x h = absurd h
among_place (y ∷ ys) x (inl e) = (0, ap Some e)
among_place (y ∷ ys) x (inr h) = let r = among_place ys x h in (suc r.0, r.1)

pub place_among : {X : Type 0} (xs : List X) (i : ℕ) (x : X) → slice_get xs i ≡ Some x → IsAmong xs x
place_among [] i x e = absurd cc
place_among (y ∷ ys) zero x e = inl (some_is y x e)
  where
    some_is : {X : Type 0} (a b : X) → Some a ≡ Some b → a ≡ b
    some_is a b f = ap (λ o. unwrap_or o a) f
place_among (y ∷ ys) (suc i) x e = inr (place_among ys i x e)

pub permuted : {X : Type 0} (xs ys : List X) → IsPermutation xs ys → (x : X) → IsAmong xs x → IsAmong ys x
permuted xs ys p x h = among_from ys x (Contains-permutation xs ys x p (contains_from xs x h))

total : IsTotalOrder edge_cmp
total = then_total (on_total (λ (e : Edge). e.0) nat_cmp_total) (on_total (λ (e : Edge). e.1) nat_cmp_total)

abbrev same_edge : Edge → Edge → Bool
same_edge = eq_by_cmp edge_cmp

is_equal : (o : Ordering) → is_eq o ≡ true → o ≡ Equal
is_equal Less e = absurd cc
is_equal Equal e = refl
is_equal Greater e = absurd cc

module _ (weight : Edge → ℕ) (m : BTreeMap Edge ℕ) (ordered : IsOrdered edge_cmp m) (at : (e : Edge) → weight_at m e ≡ weight e) (xs ys : List WeighedEdge)
    (entries : map entry_of xs ≡ filter (λ (e : Edge × ℕ). nat_lt 0 e.1) m.entries) (same : IsPermutation xs ys) where
  -- an entry has the weight of its edge
  entry_is : (e : Edge) (n : ℕ) → IsAmong m.entries (e, n) → weight e ≡ n
  entry_is e n h =
      let p = among_place m.entries (e, n) h in
      sym (at e) ∙ ap (λ (o : Option ℕ). unwrap_or o 0) (btree_map_get_place total m p.0 e n ordered p.1)

  known : (l : WeighedEdge) → IsAmong ys l → (weight (edge_of l) ≡ l.weight) × (0 < l.weight)
  known l h =
      let a = map_among entry_of xs l (permuted ys xs (IsPermutation-sym xs ys same) l h) in
      let b = among_filter (λ (e : Edge × ℕ). nat_lt 0 e.1) m.entries (entry_of l) (subst (λ (es : List (Edge × ℕ)). IsAmong es (entry_of l)) entries a) in
      (entry_is (edge_of l) l.weight b.0, ltb-true 0 l.weight b.1)

  heavy : (e : Edge) → 0 < weight e → IsAmong m.entries (e, weight e)
  heavy e lt = which (get edge_cmp m e) refl (subst (λ (n : ℕ). 0 < n) (sym (at e)) lt)
    where
      which : (o : Option ℕ) → get edge_cmp m e ≡ o → 0 < unwrap_or (get edge_cmp m e) 0 → IsAmong m.entries (e, weight e)
      which None is pos = absurd (let f : 0 < unwrap_or None 0 = subst (λ (o : Option ℕ). 0 < unwrap_or o 0) is pos in omega (arith, f))
      which (Some n) is pos =
          let p = place_from_lookup (is_key (edge_cmp e)) m.entries n is in
          let k : e ≡ p.1 = exact_pairs _ _ exact_unsigned exact_unsigned e p.1 (is_equal (edge_cmp e p.1) p.3) in
          let h : IsAmong m.entries (p.1, n) = place_among m.entries p.0 (p.1, n) p.2 in
          let g : IsAmong m.entries (e, n) = subst (λ (f : Edge). IsAmong m.entries (f, n)) (sym k) h in
          subst (λ (w : ℕ). IsAmong m.entries (e, w)) (sym (entry_is e n g)) g

  pub all_edges : (e : Edge) → IsAmong (map edge_of ys) e ↔ (0 < weight e)
  all_edges e = (forth, back)
    where
      forth : IsAmong (map edge_of ys) e → 0 < weight e
      forth h =
          let r = among_map edge_of ys e h in
          let k = known r.0 r.1 in
          subst (λ (f : Edge). 0 < weight f) r.2 (omega (arith, k.0, k.1))

      back : 0 < weight e → IsAmong (map edge_of ys) e
      back lt =
          let a = filter_among (λ (e : Edge × ℕ). nat_lt 0 e.1) m.entries (e, weight e) (heavy e lt) (lt-ltb 0 (weight e) lt) in
          let r = among_map entry_of xs (e, weight e) (subst (λ (es : List (Edge × ℕ)). IsAmong es (e, weight e)) (sym entries) a) in
          subst (λ (f : Edge). IsAmong (map edge_of ys) f) (ap (λ (x : Edge × ℕ). x.0) r.2) (map_among edge_of ys r.0 (permuted xs ys same r.0 r.1))

  keys_are : (zs : List WeighedEdge) → keys_of (map entry_of zs) ≡ map edge_of zs
  keys_are [] = refl
  keys_are (z ∷ zs) = ap (λ (l : List Edge). edge_of z ∷ l) (keys_are zs)

  distinct : IsDistinct same_edge (map edge_of ys)
  distinct =
      let a = IsDistinct-keys_filter same_edge (λ (e : Edge × ℕ). nat_lt 0 e.1) m.entries (IsDistinct-from_sorted edge_cmp (keys m) ordered) in
      let b : IsDistinct same_edge (map edge_of xs) = subst (IsDistinct same_edge) (ap keys_of (sym entries) ∙ keys_are xs) a in
      IsDistinct-IsPermutation same_edge (eq_by_cmp_equiv total).symm (map edge_of xs) (map edge_of ys) (IsPermutation-map edge_of xs ys same) b

  abbrev Known : WeighedEdge → Type 0
  Known l = weight (edge_of l) ≡ l.weight

  all_known : (zs : List WeighedEdge) → ((l : WeighedEdge) → IsAmong zs l → IsAmong ys l) → AllByRecursion Known zs
  all_known [] h = tt
  all_known (z ∷ zs) h = ((known z (h z (inl refl))).0, all_known zs (λ l k. h l (inr k)))

  up : (x y : WeighedEdge) → Known x → Known y → MayPrecede x y → same_edge (edge_of x) (edge_of y) ≡ false → Precedes weight (edge_of x) (edge_of y)
  up x y p q (inl a) apart = inl (omega (arith, p, q, a))
  up x y p q (inr (e, inl a)) apart = inr (omega (arith, p, q, e), inl a)
  up x y p q (inr (e, inr (f, le))) apart =
      elim (cases_lt x.to y.to) [
        | inl lt ↦ inr (omega (arith, p, q, e), inr (f, lt))
        | inr ge ↦ absurd (
            let g : x.to ≡ y.to = omega (arith, le, ge) in
            let is : edge_of x ≡ edge_of y = λ i. (f i, g i) in
            let t : same_edge (edge_of x) (edge_of y) ≡ true = subst (λ (k : Edge). same_edge (edge_of x) k ≡ true) is ((eq_by_cmp_equiv total).refl (edge_of x)) in
            let u = sym t ∙ apart in cc)
      ]

  pub edges_rise : AllPairs MayPrecede ys → Rises (Precedes weight) (map edge_of ys)
  edges_rise sorted =
      rises_map edge_of (Precedes weight) ys
      (rises_from MayPrecede (λ x y. Precedes weight (edge_of x) (edge_of y)) Known (λ x y. same_edge (edge_of x) (edge_of y)) up ys (all_known ys (λ l h. h)) sorted (distinct_map edge_of same_edge ys distinct))
