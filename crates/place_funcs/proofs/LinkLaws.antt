-- The links of a joined group.
use Rattle.std.proofs.Common.{◌≡◌, ℕ, ◌+◌, Bool, true, false, not, List, [], ◌∷◌, ◌++◌, map, reverse, ◌⊎◌, inl, inr, refl, sym, ap, subst, ◌∙◌, arith}
use Rattle.std.specs.Prelude.{Contains, Option, Some, None, ◌==◌, ◌||◌, if◌then◌else◌, ◌≢◌}
use Rattle.std.specs.List.{sum_by, filter}
use Rattle.std.specs.List.Sorted.{IsPermutation}
use Rattle.std.proofs.lemmas.Bool.Decides.{nat_tests}
use Rattle.std.proofs.lemmas.List.Elements.{Contains-append_left, Contains-append_right, Contains-append_cases}
use Rattle.std.proofs.lemmas.List.Sorted.{Contains-permutation, IsPermutation-sym, IsPermutation-refl, IsPermutation-reverse, IsPermutation-append, sum_by-IsPermutation}
use Rattle.std.proofs.lemmas.List.Sums.{sum_by-append, sum_by-cons}
use Rattle.place_funcs.specs.Groups.{name, with_joined, Weighed, Leads, turned, joined, between, edge_of, Merges}
use Rattle.place_funcs.specs.declared.link.Link.{Link}
use Rattle.place_funcs.specs.Links.{is_ahead, both, links_after, IsLink, Tells, TellAll, AreOfGroups, Keeps}
use Rattle.branch_ring.proofs.Ascending.{in_none, split_at}
use Rattle.place_funcs.proofs.Members.{to_map, to_filter}
use Rattle.place_funcs.proofs.OneMerge.{turned_sides, AreNamed, from_with, joined_name, names_kept}

-- j has the functions of a and b
abbrev pub IsJoint : List ℕ → List ℕ → List ℕ → Type 0
IsJoint a b j = IsPermutation (a ++ b) j

side : (a p : List ℕ) → (p ≡ a) ⊎ (p ≡ reverse a) → IsPermutation a p
side a p (inl e) = subst (λ (q : List ℕ). IsPermutation a q) (sym e) (IsPermutation-refl a)
side a p (inr e) = subst (λ (q : List ℕ). IsPermutation a q) (sym e) (IsPermutation-reverse a)

pub joint : (f g : ℕ) (a b : List ℕ) → IsJoint a b (joined f g a b)
joint f g a b = let p = turned f g a b in let s = turned_sides f g a b in IsPermutation-append a p.0 b p.1 (side a p.0 s.one) (side b p.1 s.other)

-- the weights add up, on either side
pub between_left : (edge : ℕ → ℕ → ℕ) (a b j c : List ℕ) → IsJoint a b j → between edge j c ≡ between edge a c + between edge b c
unfolding between
between_left edge a b j c h = sum_by-IsPermutation (λ f. sum_by (edge f) c) (a ++ b) j h ∙ sum_by-append (λ f. sum_by (edge f) c) a b

each_sum : (n m k : ℕ → ℕ) (xs : List ℕ) → ((x : ℕ) → n x ≡ m x + k x) → sum_by n xs ≡ sum_by m xs + sum_by k xs
each_sum n m k [] h = refl
each_sum n m k (x ∷ xs) h =
    let here = h x in
    let rest = each_sum n m k xs h in
    let a = sum_by-cons n x xs in
    let b = sum_by-cons m x xs in
    let c = sum_by-cons k x xs in
    omega arith

pub between_right : (edge : ℕ → ℕ → ℕ) (a b j c : List ℕ) → IsJoint a b j → between edge c j ≡ between edge c a + between edge c b
unfolding between
between_right edge a b j c h = each_sum (λ x. sum_by (edge x) j) (λ x. sum_by (edge x) a) (λ x. sum_by (edge x) b) c (λ x. sum_by-IsPermutation (edge x) (a ++ b) j h ∙ sum_by-append (edge x) a b)

in_joint : (a b j : List ℕ) (x : ℕ) → IsJoint a b j → Contains j x → Contains a x ⊎ Contains b x
in_joint a b j x h c = Contains-append_cases a b x (Contains-permutation j (a ++ b) x (IsPermutation-sym (a ++ b) j h) c)

one_in : (a b j : List ℕ) (x : ℕ) → IsJoint a b j → Contains a x → Contains j x
one_in a b j x h c = Contains-permutation (a ++ b) j x h (Contains-append_left a b x c)

other_in : (a b j : List ℕ) (x : ℕ) → IsJoint a b j → Contains b x → Contains j x
other_in a b j x h c = Contains-permutation (a ++ b) j x h (Contains-append_right a b x c)

-- what has no weight is behind each edge that has one
sum_zero : (n : ℕ → ℕ) (xs : List ℕ) (x : ℕ) → sum_by n xs ≡ 0 → Contains xs x → n x ≡ 0
sum_zero n [] x z h = absurd (in_none x h)
sum_zero n (y ∷ ys) x z h =
    elim (split_at y ys x h) [
      | inl same ↦ (let e : n x ≡ n y = ap n same in let s = sum_by-cons n y ys in omega arith)
      | inr later ↦ (let s = sum_by-cons n y ys in sum_zero n ys x (omega arith) later)
    ]

pub no_edge : (edge : ℕ → ℕ → ℕ) (a b : List ℕ) (x y : ℕ) → between edge a b ≡ 0 → Contains a x → Contains b y → edge x y ≡ 0
unfolding between
no_edge edge a b x y z h k = sum_zero (edge x) b y (sum_zero (λ f. sum_by (edge f) b) a x z h) k

ahead_leads : (edge : ℕ → ℕ → ℕ) (l m : Link) (t : Bool) → is_ahead m l ≡ t → l.top ≡ edge l.f l.g → m.top ≡ edge m.f m.g
    → Leads (if t then edge_of edge m.f m.g else edge_of edge l.f l.g) (if t then edge_of edge l.f l.g else edge_of edge m.f m.g)
ahead_leads edge l m true e p q = grind (arith, nat_tests)
ahead_leads edge l m false e p q = grind (arith, nat_tests)

pub leads_on : (c d e : Weighed) → Leads c d → Leads d e → Leads c e
leads_on c d e h k = grind arith

-- the pairs of a and b are those of two parts, and so is their weight
record IsSplit (edge : ℕ → ℕ → ℕ) (a b c d s t : List ℕ) : Type 0 where
  weight : between edge a b ≡ between edge c d + between edge s t
  cover : (x y : ℕ) → Contains a x → Contains b y → (Contains c x × Contains d y) ⊎ (Contains s x × Contains t y)
  one : (x y : ℕ) → Contains c x → Contains d y → Contains a x × Contains b y
  other : (x y : ℕ) → Contains s x → Contains t y → Contains a x × Contains b y

left_split : (edge : ℕ → ℕ → ℕ) (a b j c : List ℕ) → IsJoint a b j → IsSplit edge j c a c b c
left_split edge a b j c h =
    record {
      weight = between_left edge a b j c h;
      cover = λ x y p q. elim (in_joint a b j x h p) [ inl r ↦ inl (r, q) | inr r ↦ inr (r, q) ];
      one = λ x y p q. (one_in a b j x h p, q);
      other = λ x y p q. (other_in a b j x h p, q);
    }

right_split : (edge : ℕ → ℕ → ℕ) (a b j c : List ℕ) → IsJoint a b j → IsSplit edge c j c a c b
right_split edge a b j c h =
    record {
      weight = between_right edge a b j c h;
      cover = λ x y p q. elim (in_joint a b j y h q) [ inl r ↦ inl (p, r) | inr r ↦ inr (p, r) ];
      one = λ x y p q. (p, one_in a b j y h q);
      other = λ x y p q. (p, other_in a b j y h q);
    }

split_link : (edge : ℕ → ℕ → ℕ) (a b c d s t : List ℕ) (o p : Option Link) → IsSplit edge a b c d s t → Tells edge c d o → Tells edge s t p → Tells edge a b (both o p)
split_link edge a b c d s t None None w h k = let e = w.weight in omega arith
split_link edge a b c d s t None (Some m) w h k =
    record {
      weight = (let e = w.weight in let f = k.weight in omega arith);
      top = k.top;
      some = k.some;
      heaviest = record {
        from = (w.other m.f m.g k.heaviest.from k.heaviest.to).0;
        to = (w.other m.f m.g k.heaviest.from k.heaviest.to).1;
        leads = λ x y p q. by_cases x y (w.cover x y p q);
      };
    }
  where
    by_cases : (x y : ℕ) → (Contains c x × Contains d y) ⊎ (Contains s x × Contains t y) → Leads (edge_of edge m.f m.g) (edge_of edge x y)
    by_cases x y (inl r) = let z = no_edge edge c d x y h r.0 r.1 in let e = k.top in let f = k.some in inl (omega arith)
    by_cases x y (inr r) = k.heaviest.leads x y r.0 r.1
split_link edge a b c d s t (Some l) None w h k =
    record {
      weight = (let e = w.weight in let f = h.weight in omega arith);
      top = h.top;
      some = h.some;
      heaviest = record {
        from = (w.one l.f l.g h.heaviest.from h.heaviest.to).0;
        to = (w.one l.f l.g h.heaviest.from h.heaviest.to).1;
        leads = λ x y p q. by_cases x y (w.cover x y p q);
      };
    }
  where
    by_cases : (x y : ℕ) → (Contains c x × Contains d y) ⊎ (Contains s x × Contains t y) → Leads (edge_of edge l.f l.g) (edge_of edge x y)
    by_cases x y (inl r) = h.heaviest.leads x y r.0 r.1
    by_cases x y (inr r) = let z = no_edge edge s t x y k r.0 r.1 in let e = h.top in let f = h.some in inl (omega arith)
split_link edge a b c d s t (Some l) (Some m) w h k = by_test (is_ahead m l) (ahead_leads edge l m (is_ahead m l) refl h.top k.top)
  where
    all : l.weight + m.weight ≡ between edge a b
    all = let e = w.weight in let f = h.weight in let g = k.weight in omega arith

    by_test : (t : Bool) → Leads (if t then edge_of edge m.f m.g else edge_of edge l.f l.g) (if t then edge_of edge l.f l.g else edge_of edge m.f m.g)
        → IsLink edge a b (if t then record { weight = l.weight + m.weight; top = m.top; f = m.f; g = m.g } else record { weight = l.weight + m.weight; top = l.top; f = l.f; g = l.g })
    by_test true first =
        record {
          weight = all;
          top = k.top;
          some = k.some;
          heaviest = record {
            from = (w.other m.f m.g k.heaviest.from k.heaviest.to).0;
            to = (w.other m.f m.g k.heaviest.from k.heaviest.to).1;
            leads = λ x y p q. elim (w.cover x y p q) [
              | inl r ↦ leads_on (edge_of edge m.f m.g) (edge_of edge l.f l.g) (edge_of edge x y) first (h.heaviest.leads x y r.0 r.1)
              | inr r ↦ k.heaviest.leads x y r.0 r.1
            ];
          };
        }
    by_test false first =
        record {
          weight = all;
          top = h.top;
          some = h.some;
          heaviest = record {
            from = (w.one l.f l.g h.heaviest.from h.heaviest.to).0;
            to = (w.one l.f l.g h.heaviest.from h.heaviest.to).1;
            leads = λ x y p q. elim (w.cover x y p q) [
              | inl r ↦ h.heaviest.leads x y r.0 r.1
              | inr r ↦ leads_on (edge_of edge l.f l.g) (edge_of edge m.f m.g) (edge_of edge x y) first (k.heaviest.leads x y r.0 r.1)
            ];
          };
        }

-- the links of a joined group are made of those of its two parts, on either side
pub left_link : (edge : ℕ → ℕ → ℕ) (f g : ℕ) (a b c : List ℕ) (o p : Option Link) → Tells edge a c o → Tells edge b c p → Tells edge (joined f g a b) c (both o p)
left_link edge f g a b c o p h k = let j = joined f g a b in split_link edge j c a c b c o p (left_split edge a b j c (joint f g a b)) h k

pub right_link : (edge : ℕ → ℕ → ℕ) (f g : ℕ) (a b c : List ℕ) (o p : Option Link) → Tells edge c a o → Tells edge c b p → Tells edge c (joined f g a b) (both o p)
right_link edge f g a b c o p h k = let j = joined f g a b in split_link edge c j c a c b o p (right_split edge a b j c (joint f g a b)) h k

-- the links after a merge tell of the groups after it
pub differ : (x y : ℕ) → x ≢ y → (x == y) ≡ false
differ x y h = by_test (x == y) refl
  where
    by_test : (t : Bool) → (x == y) ≡ t → t ≡ false
    by_test true e = absurd (h (grind (arith, nat_tests)))
    by_test false e = refl

pub alike : (x : ℕ) → (x == x) ≡ true
alike x = by_test (x == x) refl
  where
    by_test : (t : Bool) → (x == x) ≡ t → t ≡ true
    by_test true e = refl
    by_test false e = absurd (let h : x ≢ x = grind (arith, nat_tests) in h refl)

pub same_true : (x y : ℕ) → (x == y) ≡ true → x ≡ y
same_true x y e = grind (arith, nat_tests)

links_at : (links : ℕ → ℕ → Option Link) (a b x y : ℕ) → x ≢ y → x ≢ b → y ≢ b → x ≢ a → y ≢ a → links_after links a b x y ≡ links x y
links_at links a b x y e p q r s = rw (differ x b p) (rw (differ y b q) (rw (differ x y e) (rw (differ x a r) (rw (differ y a s) refl))))

links_left : (links : ℕ → ℕ → Option Link) (a b y : ℕ) → a ≢ y → a ≢ b → y ≢ b → links_after links a b a y ≡ both (links a y) (links b y)
links_left links a b y e p q = rw (differ a b p) (rw (differ y b q) (rw (differ a y e) (rw (alike a) refl)))

links_right : (links : ℕ → ℕ → Option Link) (a b x : ℕ) → x ≢ b → a ≢ b → x ≢ a → links_after links a b x a ≡ both (links x a) (links x b)
links_right links a b x p q r = rw (differ x b p) (rw (differ a b q) (rw (differ x a r) (rw (alike a) refl)))

pub links_kept : (edge : ℕ → ℕ → ℕ) (groups after : List (List ℕ)) (links : ℕ → ℕ → Option Link) (h : Merges edge groups after) → AreNamed groups → TellAll edge groups links → TellAll edge after (links_after links (name h.a) (name h.b))
links_kept edge groups after links h n t =
    subst (λ (gs : List (List ℕ)). TellAll edge gs (links_after links (name h.a) (name h.b))) (sym h.is)
    (λ c d p q e. by_cases c d (from_with groups h.a h.b j c p) (from_with groups h.a h.b j d q) e)
  where
    j : List ℕ
    j = joined h.f h.g h.a h.b

    named : name j ≡ name h.a
    named = joined_name h.f h.g h.a h.b h.heaviest.from h.nearest.two.named

    apart : name h.a ≢ name h.b
    apart = λ e. let l = h.nearest.two.named in omega arith

    Old : List ℕ → Type 0
    Old c = (c ≡ j) ⊎ (Contains groups c × ((name c ≡ name h.a) → ⊥) × ((name c ≡ name h.b) → ⊥))

    by_cases : (c d : List ℕ) → Old c → Old d → name c ≢ name d → Tells edge c d (links_after links (name h.a) (name h.b) (name c) (name d))
    by_cases c d (inl p) (inl q) e = absurd (e (ap name (p ∙ sym q)))
    by_cases c d (inl p) (inr q) e =
        subst (λ (c : List ℕ). Tells edge c d (links_after links (name h.a) (name h.b) (name c) (name d))) (sym p)
        (subst (λ (x : ℕ). Tells edge j d (links_after links (name h.a) (name h.b) x (name d))) (sym named)
        (subst (λ (o : Option Link). Tells edge j d o) (sym (links_left links (name h.a) (name h.b) (name d) (λ w. q.1 (sym w)) apart q.2))
        (left_link edge h.f h.g h.a h.b d (links (name h.a) (name d)) (links (name h.b) (name d))
        (t h.a d h.nearest.two.one q.0 (λ w. q.1 (sym w))) (t h.b d h.nearest.two.other q.0 (λ w. q.2 (sym w))))))
    by_cases c d (inr p) (inl q) e =
        subst (λ (d : List ℕ). Tells edge c d (links_after links (name h.a) (name h.b) (name c) (name d))) (sym q)
        (subst (λ (x : ℕ). Tells edge c j (links_after links (name h.a) (name h.b) (name c) x)) (sym named)
        (subst (λ (o : Option Link). Tells edge c j o) (sym (links_right links (name h.a) (name h.b) (name c) p.2 apart p.1))
        (right_link edge h.f h.g h.a h.b c (links (name c) (name h.a)) (links (name c) (name h.b))
        (t c h.a p.0 h.nearest.two.one p.1) (t c h.b p.0 h.nearest.two.other p.2))))
    by_cases c d (inr p) (inr q) e =
        subst (λ (o : Option Link). Tells edge c d o) (sym (links_at links (name h.a) (name h.b) (name c) (name d) e p.2 q.2 p.1 q.1)) (t c d p.0 q.0 e)

-- a group of another name than b is there after the merge, or the joined one in its place
still : (groups : List (List ℕ)) (a b j c : List ℕ) → name j ≡ name a → Contains groups c → name c ≢ name b → (d : List ℕ) × Contains (with_joined groups a b j) d × (name d ≡ name c)
still groups a b j c n h p = by_test (name c == name a) refl
  where
    place : Contains (map (λ d. if name d == name a then j else d) (filter (λ d. not (name d == name b)) groups)) (if name c == name a then j else c)
    place = to_map (λ d. if name d == name a then j else d) (filter (λ d. not (name d == name b)) groups) c (to_filter (λ d. not (name d == name b)) groups c h (rw (differ (name c) (name b) p) refl))

    by_test : (t : Bool) → (name c == name a) ≡ t → (d : List ℕ) × Contains (with_joined groups a b j) d × (name d ≡ name c)
    by_test true e = (j, subst (λ (t : Bool). Contains (with_joined groups a b j) (if t then j else c)) e place, n ∙ sym (same_true (name c) (name a) e))
    by_test false e = (c, subst (λ (t : Bool). Contains (with_joined groups a b j) (if t then j else c)) e place, refl)

both_from : (o p : Option Link) (l : Link) → both o p ≡ Some l → ((m : Link) × (o ≡ Some m)) ⊎ ((m : Link) × (p ≡ Some m))
both_from None None l e = absurd cc
both_from None (Some m) l e = inr (m, refl)
both_from (Some m) p l e = inl (m, refl)

of_groups_kept : (edge : ℕ → ℕ → ℕ) (groups after : List (List ℕ)) (links : ℕ → ℕ → Option Link) (h : Merges edge groups after) → AreOfGroups groups links → AreOfGroups after (links_after links (name h.a) (name h.b))
of_groups_kept edge groups after links h k =
    subst (λ (gs : List (List ℕ)). AreOfGroups gs (links_after links (name h.a) (name h.b))) (sym h.is)
    (λ x y l e. by_names x y l (x == name h.b) (y == name h.b) (x == y) (x == name h.a) (y == name h.a) refl refl refl refl refl e)
  where
    j : List ℕ
    j = joined h.f h.g h.a h.b

    named : name j ≡ name h.a
    named = joined_name h.f h.g h.a h.b h.heaviest.from h.nearest.two.named

    apart : name h.a ≢ name h.b
    apart = λ e. let l = h.nearest.two.named in omega arith

    unlike : (x y : ℕ) → (x == y) ≡ false → x ≢ y
    unlike x y e q = let s = ap (λ (z : ℕ). z == y) q in let t : true ≡ false = sym (alike y) ∙ sym s ∙ e in cc

    -- a group of this name is there after the merge
    Stays : ℕ → Type 0
    Stays x = (c : List ℕ) × Contains (with_joined groups h.a h.b j) c × (name c ≡ x)

    stays : (x : ℕ) → x ≢ name h.b → (c : List ℕ) → Contains groups c → name c ≡ x → Stays x
    stays x p c i n = let s = still groups h.a h.b j c named i (λ e. p (sym n ∙ e)) in (s.0, s.1, s.2 ∙ n)

    a_stays : Stays (name h.a)
    a_stays = stays (name h.a) apart h.a h.nearest.two.one refl

    second : (x y : ℕ) (l : Link) → y ≢ name h.b → links x y ≡ Some l → Stays y
    second x y l p e = let g = k x y l e in stays y p g.1 g.3 g.5

    first : (x y : ℕ) (l : Link) → x ≢ name h.b → links x y ≡ Some l → Stays x
    first x y l p e = let g = k x y l e in stays x p g.0 g.2 g.4

    Out : ℕ → ℕ → Type 0
    Out x y = (c : List ℕ) × (d : List ℕ) × Contains (with_joined groups h.a h.b j) c × Contains (with_joined groups h.a h.b j) d × (name c ≡ x) × (name d ≡ y) × (x ≢ y)

    out : (x y : ℕ) → (x == y) ≡ false → Stays x → Stays y → Out x y
    out x y u s t = (s.0, t.0, s.1, t.1, s.2, t.2, unlike x y u)

    by_names : (x y : ℕ) (l : Link) (xb yb xy xa ya : Bool) → (x == name h.b) ≡ xb → (y == name h.b) ≡ yb → (x == y) ≡ xy → (x == name h.a) ≡ xa → (y == name h.a) ≡ ya
        → (if xb || (yb || xy) then None else if xa then both (links (name h.a) y) (links (name h.b) y) else if ya then both (links x (name h.a)) (links x (name h.b)) else links x y) ≡ Some l → Out x y
    by_names x y l true yb xy xa ya p q r s t e = absurd cc
    by_names x y l false true xy xa ya p q r s t e = absurd cc
    by_names x y l false false true xa ya p q r s t e = absurd cc
    by_names x y l false false false true ya p q r s t e =
        out x y r (subst Stays (sym (same_true x (name h.a) s)) a_stays)
        (elim (both_from (links (name h.a) y) (links (name h.b) y) l e) [
          | inl m ↦ second (name h.a) y m.0 (unlike y (name h.b) q) m.1
          | inr m ↦ second (name h.b) y m.0 (unlike y (name h.b) q) m.1
        ])
    by_names x y l false false false false true p q r s t e =
        out x y r
        (elim (both_from (links x (name h.a)) (links x (name h.b)) l e) [
          | inl m ↦ first x (name h.a) m.0 (unlike x (name h.b) p) m.1
          | inr m ↦ first x (name h.b) m.0 (unlike x (name h.b) p) m.1
        ])
        (subst Stays (sym (same_true y (name h.a) t)) a_stays)
    by_names x y l false false false false false p q r s t e = out x y r (first x y l (unlike x (name h.b) p) e) (second x y l (unlike y (name h.b) q) e)

-- a merge keeps all
pub kept : (edge : ℕ → ℕ → ℕ) (groups after : List (List ℕ)) (links : ℕ → ℕ → Option Link) (h : Merges edge groups after) → Keeps edge groups links → Keeps edge after (links_after links (name h.a) (name h.b))
kept edge groups after links h k =
    record {
      named = names_kept edge groups after k.named h;
      tell = links_kept edge groups after links h k.named k.tell;
      of_groups = of_groups_kept edge groups after links h k.of_groups;
    }
