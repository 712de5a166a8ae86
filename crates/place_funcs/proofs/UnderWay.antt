-- What stands between two merges.
use Rattle.std.proofs.Common.{◌≡◌, ℕ, suc, ◌+◌, ◌-◌, ◌*◌, ◌<◌, ◌≤◌, ◌^◌, List, [], ◌∷◌, ◌++◌, length, map, ◌⊎◌, inl, inr, refl, sym, ap, subst, ◌∙◌, arith}
use Rattle.std.specs.Prelude.{Contains, All, Option, Some, None, IfSome, IsSome}
use Rattle.std.specs.List.{sum_by}
use Rattle.std.specs.List.Sorted.{IsPermutation}
use Rattle.std.proofs.lemmas.Nat.{mul-le}
use Rattle.std.proofs.lemmas.List.Elements.{All-contains, Contains-append_left, Contains-append_right}
use Rattle.std.proofs.lemmas.List.Concat.{flat_map-cons}
use Rattle.std.proofs.lemmas.List.Sums.{sum_by-append, sum_by-le}
use Rattle.std.proofs.lemmas.List.Sorted.{Contains-permutation, IsPermutation-sym, IsPermutation-trans, sum_by-IsPermutation}
use Rattle.place_funcs.specs.declared.link.Link.{Link}
use Rattle.place_funcs.specs.Groups.{name, alone, joined, with_joined, between, Merges, EndsAfter}
use Rattle.place_funcs.specs.Links.{links_after, AreSmall, IsFirst, IsLink, Tells, TellAll, AreOfGroups, Keeps}
use Rattle.branch_ring.proofs.Ascending.{in_none, split_at}
use Rattle.place_funcs.proofs.Members.{name_in}
use Rattle.place_funcs.proofs.LinkLaws.{no_edge, kept}
use Rattle.place_funcs.proofs.Queue.{AreFirst, nearest, done}
use Rattle.std.specs.Ordering.{nat_cmp}
use Rattle.std.specs.BTreeMap.{insert_entry, is_at}
use Rattle.std.specs.Map.{lookup, remove_entry}
use Rattle.place_funcs.specs.Grouping.{group_at, named}
use Rattle.place_funcs.proofs.Standing.{Rise, flat, rise_named, rise_on, same_on, merged_at, group_found}

-- a part of what groups hold
part_of : (n : ℕ → ℕ) (gs : List (List ℕ)) (c : List ℕ) → Contains gs c → sum_by n c ≤ sum_by n (flat gs)
part_of n [] c i = absurd (in_none c i)
part_of n (d ∷ gs) c i = by_place (split_at d gs c i) (λ p. part_of n gs c p)
  where
    all : sum_by n (flat (d ∷ gs)) ≡ sum_by n d + sum_by n (flat gs)
    all = ap (sum_by n) (flat_map-cons (λ (x : List ℕ). x) d gs) ∙ sum_by-append n d (flat gs)

    by_place : (c ≡ d) ⊎ Contains gs c → (Contains gs c → sum_by n c ≤ sum_by n (flat gs)) → sum_by n c ≤ sum_by n (flat (d ∷ gs))
    by_place (inl e) ih = let s : sum_by n c ≡ sum_by n d = ap (sum_by n) e in omega (arith, s, all)
    by_place (inr p) ih = let h = ih p in omega (arith, h, all)

in_flat : (gs : List (List ℕ)) (c : List ℕ) (f : ℕ) → Contains gs c → Contains c f → Contains (flat gs) f
in_flat [] c f i h = absurd (in_none c i)
in_flat (d ∷ gs) c f i h = subst (λ (xs : List ℕ). Contains xs f) (sym (flat_map-cons (λ (x : List ℕ). x) d gs)) (by_place (split_at d gs c i) (λ p. in_flat gs c f p h))
  where
    by_place : (c ≡ d) ⊎ Contains gs c → (Contains gs c → Contains (flat gs) f) → Contains (d ++ flat gs) f
    by_place (inl e) ih = Contains-append_left d (flat gs) f (subst (λ (x : List ℕ). Contains x f) e h)
    by_place (inr p) ih = Contains-append_right d (flat gs) f (ih p)

-- what a profile's edges and the functions keep
pub record AreEdges (edge : ℕ → ℕ → ℕ) (funcs : List ℕ) : Type 0 where
  pub even : (f g : ℕ) → edge f g ≡ edge g f
  pub low : (f g : ℕ) → edge f g ≤ 2 ^ 63 - 2
  pub few : length funcs ≤ 2 ^ 32 - 1
  pub below : All (λ f. f + 1 < 2 ^ 32) funcs

pub record IsUnderWay (edge : ℕ → ℕ → ℕ) (funcs : List ℕ) (gs : List (List ℕ)) (links : ℕ → ℕ → Option Link) : Type 0 where
  pub rise : Rise gs
  pub tell : TellAll edge gs links
  pub of_groups : AreOfGroups gs links
  pub same : IsPermutation funcs (flat gs)
  pub ends : (n : ℕ) (last : List (List ℕ)) → EndsAfter edge n gs last → (m : ℕ) × EndsAfter edge m (map alone funcs) last

module _ (edge : ℕ → ℕ → ℕ) (funcs : List ℕ) (edges : AreEdges edge funcs) (gs : List (List ℕ)) (links : ℕ → ℕ → Option Link) (h : IsUnderWay edge funcs gs links) where
  abbrev pub keeps : Keeps edge gs links
  keeps = record { named = rise_named gs h.rise; tell = h.tell; of_groups = h.of_groups }

  whole : (n : ℕ → ℕ) (c : List ℕ) → Contains gs c → sum_by n c ≤ sum_by n funcs
  whole n c i = let p = part_of n gs c i in let s = sum_by-IsPermutation n funcs (flat gs) h.same in omega (arith, p, s)

  low_between : (c d : List ℕ) → Contains gs c → Contains gs d → between edge c d < 2 ^ 127
  unfolding between
  low_between c d i j =
      let row : (f : ℕ) → sum_by (edge f) d ≤ 2 ^ 32 * (2 ^ 63 - 2) = λ f.
      (let p = whole (edge f) d j in
      let s = sum_by-le (edge f) (2 ^ 63 - 2) funcs (λ k e lt. edges.low f _) in
      let m = mul-le (length funcs) (2 ^ 63 - 2) (2 ^ 32) (2 ^ 63 - 2) (omega (arith, edges.few)) (omega arith) in
      omega (arith, p, s, m)) in
      let p = whole (λ f. sum_by (edge f) d) c i in
      let s = sum_by-le (λ f. sum_by (edge f) d) (2 ^ 32 * (2 ^ 63 - 2)) funcs (λ k e lt. row _) in
      let m = mul-le (length funcs) (2 ^ 32 * (2 ^ 63 - 2)) (2 ^ 32 - 1) (2 ^ 32 * (2 ^ 63 - 2)) edges.few (omega arith) in
      omega (arith, p, s, m)

  pub way_small : AreSmall links
  way_small p q = by_link (links p q) refl
    where
      by_link : (o : Option Link) → links p q ≡ o → IfSome o (λ l. l.weight < 2 ^ 127)
      by_link None e = tt
      by_link (Some l) e =
          let g = h.of_groups p q l e in
          let k : IsLink edge g.0 g.1 l = told p q l e in
          let w = k.weight in
          let b = low_between g.0 g.1 g.2 g.3 in
          omega (arith, w, b)
        where
          told : (p q : ℕ) (l : Link) (e : links p q ≡ Some l) → IsLink edge (h.of_groups p q l e).0 (h.of_groups p q l e).1 l
          told p q l e =
              let g = h.of_groups p q l e in
              subst (λ (o : Option Link). Tells edge g.0 g.1 o) (ap (λ (x : ℕ). links x (name g.1)) g.4 ∙ ap (λ (y : ℕ). links p y) g.5 ∙ e)
              (h.tell g.0 g.1 g.2 g.3 (λ s. g.6 (sym g.4 ∙ s ∙ g.5)))

  pub way_none : (x : ℕ) → links x x ≡ None
  way_none x = by_link (links x x) refl
    where
      by_link : (o : Option Link) → links x x ≡ o → o ≡ None
      by_link None e = refl
      by_link (Some l) e = absurd ((h.of_groups x x l e).6 refl)

  pub way_even : (x y : ℕ) → IsSome (links x y) → IsSome (links y x)
  way_even x y s = by_links (links x y) refl s (links y x) refl
    where
      by_links : (o : Option Link) → links x y ≡ o → IsSome o → (p : Option Link) → links y x ≡ p → IsSome p
      by_links None e t p f = absurd cc
      by_links (Some l) e t (Some m) f = refl
      by_links (Some l) e t None f = absurd (
          let g = h.of_groups x y l e in
          let k : IsLink edge g.0 g.1 l = subst (λ (o : Option Link). Tells edge g.0 g.1 o) (ap (λ (x : ℕ). links x (name g.1)) g.4 ∙ ap (λ (y : ℕ). links x y) g.5 ∙ e) (h.tell g.0 g.1 g.2 g.3 (λ s. g.6 (sym g.4 ∙ s ∙ g.5))) in
          let z : between edge g.1 g.0 ≡ 0 = subst (λ (o : Option Link). Tells edge g.1 g.0 o) (ap (λ (y : ℕ). links y (name g.0)) g.5 ∙ ap (λ (x : ℕ). links y x) g.4 ∙ f) (h.tell g.1 g.0 g.3 g.2 (λ s. g.6 (sym g.4 ∙ sym s ∙ g.5))) in
          let n = no_edge edge g.1 g.0 l.g l.f z k.heaviest.to k.heaviest.from in
          let v = edges.even l.f l.g in
          let t = k.top in
          let w = k.some in
          omega (arith, n, v, t, w))

  pub way_below : (c : List ℕ) → Contains gs c → (f : ℕ) → Contains c f → name c + 1 < 2 ^ 32
  way_below c i f j = All-contains (λ f. f + 1 < 2 ^ 32) funcs (name c) edges.below (Contains-permutation (flat gs) funcs (name c) (IsPermutation-sym funcs (flat gs) h.same) (in_flat gs c (name c) i (name_in c f j)))

  pub way_done : ((p q : ℕ) → p < q → links p q ≡ None) → (m : ℕ) × EndsAfter edge m (map alone funcs) gs
  way_done none = h.ends 0 gs (done edge gs links keeps none, refl)

  module _ (x y : ℕ) (l : Link) (first : IsFirst links x y l) where
    abbrev pub two : AreFirst edge gs links keeps x y l
    two = nearest edge gs links keeps x y l first

    abbrev pub after : List (List ℕ)
    after = with_joined gs two.a two.b (joined l.f l.g two.a two.b)

    abbrev pub merges : Merges edge gs after
    merges = record { a = two.a; b = two.b; nearest = two.nearest; f = l.f; g = l.g; heaviest = two.link.heaviest; is = refl }

    moved_keeps : Keeps edge after (links_after links (name two.a) (name two.b))
    moved_keeps = kept edge gs after links merges keeps

    pub next : IsUnderWay edge funcs after (links_after links x y)
    next =
        subst (λ (u : ℕ). IsUnderWay edge funcs after (links_after links u y)) two.first
        (subst (λ (u : ℕ). IsUnderWay edge funcs after (links_after links (name two.a) u)) two.second
        (record {
          rise = rise_on gs h.rise two.a two.b two.nearest.two l.f l.g two.link.heaviest.from;
          tell = moved_keeps.tell;
          of_groups = moved_keeps.of_groups;
          same = IsPermutation-trans funcs (flat gs) (flat after) h.same (same_on gs h.rise two.a two.b two.nearest.two l.f l.g two.link.heaviest.from);
          ends = λ n last e. h.ends (suc n) last (after, merges, e);
        }))

    pub way_merged : insert_entry nat_cmp (remove_entry (is_at (nat_cmp y)) (map named gs)) x (joined l.f l.g (group_at (map named gs) x) (group_at (map named gs) y)) ≡ map named after
    way_merged =
        subst (λ (u : ℕ). insert_entry nat_cmp (remove_entry (is_at (nat_cmp y)) (map named gs)) u (joined l.f l.g (group_at (map named gs) u) (group_at (map named gs) y)) ≡ map named after) two.first
        (subst (λ (v : ℕ). insert_entry nat_cmp (remove_entry (is_at (nat_cmp v)) (map named gs)) (name two.a) (joined l.f l.g (group_at (map named gs) (name two.a)) (group_at (map named gs) v)) ≡ map named after) two.second
        (merged_at gs h.rise two.a two.b two.nearest.two l.f l.g two.link.heaviest.from))

    pub way_first : IsSome (lookup (is_at (nat_cmp x)) (map named gs))
    way_first = subst (λ (o : Option (List ℕ)). IsSome o) (sym (group_found gs h.rise two.a two.nearest.two.one x two.first)) refl

    pub way_second : IsSome (lookup (is_at (nat_cmp y)) (map named gs))
    way_second = subst (λ (o : Option (List ℕ)). IsSome o) (sym (group_found gs h.rise two.b two.nearest.two.other y two.second)) refl

    pub second_below : y + 1 < 2 ^ 32
    second_below = subst (λ (u : ℕ). u + 1 < 2 ^ 32) two.second (way_below two.b two.nearest.two.other l.g two.link.heaviest.to)

-- links that are the same
pub same_way : (edge : ℕ → ℕ → ℕ) (funcs : List ℕ) (gs : List (List ℕ)) (l m : ℕ → ℕ → Option Link) → ((p q : ℕ) → m p q ≡ l p q) → IsUnderWay edge funcs gs l → IsUnderWay edge funcs gs m
same_way edge funcs gs l m h w = subst (λ (k : ℕ → ℕ → Option Link). IsUnderWay edge funcs gs k) (sym (λ i p q. h p q i)) w
