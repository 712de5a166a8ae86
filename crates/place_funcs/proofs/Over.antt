-- All links of a group go over to another, name by name.
use Rattle.std.proofs.Common.{◌≡◌, ℕ, ◌+◌, ◌<◌, ◌^◌, Bool, true, false, List, [], ◌∷◌, map, ◌⊎◌, inl, inr, refl, sym, ap, subst, ◌∙◌, arith}
use Rattle.std.specs.Prelude.{◌≢◌, ◌==◌, ◌&&◌, ◌||◌, if◌then◌else◌, Contains, Option, Some, None, IfSome, IsSome}
use Rattle.std.specs.Cmp.{IsTotalOrder}
use Rattle.std.specs.BTreeMap.{BTreeMap, IsOrdered}
use Rattle.std.specs.BTreeMap.Range.{range_contains}
use Rattle.std.specs.declared.ops.Bound.TheVariants.{Included, Excluded}
use Rattle.std.proofs.lemmas.Cmp.{nat_cmp_total, on_total, then_total}
use Rattle.std.proofs.lemmas.Grind.{common_steps}
use Rattle.std.proofs.lemmas.Bool.Decides.{nat_tests}
use Rattle.std.proofs.lemmas.Map.Lookups.{CmpEqualImpliesEq, exact_pairs, exact_unsigned}
use Rattle.std.proofs.lemmas.Map.Views.{btree_map_get_iff}
use Rattle.std.specs.Ordering.{nat_cmp}
use Rattle.place_funcs.specs.declared.link.Link.{Link}
use Rattle.place_funcs.specs.Links.{both, links_after, link_at, links_of, moved, names_cmp, second_name, AreSmall}
use Rattle.branch_ring.proofs.Ascending.{split_at, in_tail}
use Rattle.place_funcs.proofs.Members.{from_map, from_filter, to_map, to_filter}
use Rattle.place_funcs.proofs.LinkLaws.{differ, alike, same_true}

pub names_total : IsTotalOrder names_cmp
names_total = then_total (on_total (λ (p : ℕ × ℕ). p.0) nat_cmp_total) (on_total (λ (p : ℕ × ℕ). p.1) nat_cmp_total)

pub names_exact : CmpEqualImpliesEq names_cmp
names_exact = exact_pairs nat_cmp nat_cmp exact_unsigned exact_unsigned

Links : Type 0
Links = ℕ → ℕ → Option Link

in_row : (x y : ℕ) → range_contains names_cmp (Included (x, 0)) (Excluded (x + 1, 0)) (x, y) ≡ true
in_row x y = grind (arith, nat_tests, common_steps)

row_of : (x p q : ℕ) → range_contains names_cmp (Included (x, 0)) (Excluded (x + 1, 0)) (p, q) ≡ true → p ≡ x
row_of x p q e = grind (arith, nat_tests, common_steps)

some_of : {X : Type 0} (o : Option X) → IsSome o → (v : X) × (o ≡ Some v)
some_of None h = absurd cc
some_of (Some v) h = (v, refl)

unlike : (u v : ℕ) → (u == v) ≡ false → u ≡ v → ⊥
unlike u v e s = let t : true ≡ false = sym (alike u) ∙ ap (λ (w : ℕ). u == w) s ∙ e in cc

not_both : (p x q z : ℕ) → ((p ≡ x) → (q ≡ z) → ⊥) → ((p == x) && (q == z)) ≡ false
not_both p x q z h = by_tests (p == x) (q == z) refl refl
  where
    by_tests : (s t : Bool) → (p == x) ≡ s → (q == z) ≡ t → (s && t) ≡ false
    by_tests true true e f = absurd (h (same_true p x e) (same_true q z f))
    by_tests true false e f = refl
    by_tests false t e f = refl

module _ (m : BTreeMap (ℕ × ℕ) Link) (ordered : IsOrdered names_cmp m) (x : ℕ) where
  -- a name to which x has a link is found
  pub all_neighbours : (y : ℕ) → IsSome (link_at m x y) → Contains (map second_name (links_of x m.entries)) y
  all_neighbours y h =
      let v = some_of (link_at m x y) h in
      let e = (btree_map_get_iff names_total names_exact m ordered (x, y) v.0).0 v.1 in
      to_map second_name (links_of x m.entries) ((x, y), v.0) (to_filter (λ (e : (ℕ × ℕ) × Link). range_contains names_cmp (Included (x, 0)) (Excluded (x + 1, 0)) e.0) m.entries ((x, y), v.0) e (in_row x y))

  -- and no other
  pub only_neighbours : (y : ℕ) → Contains (map second_name (links_of x m.entries)) y → (v : Link) × (link_at m x y ≡ Some v)
  only_neighbours y h =
      let e = from_map second_name (links_of x m.entries) y h in
      let k = from_filter (λ (e : (ℕ × ℕ) × Link). range_contains names_cmp (Included (x, 0)) (Excluded (x + 1, 0)) e.0) m.entries e.0 e.1 in
      let p = row_of x e.0.0.0 e.0.0.1 k.1 in
      let found : link_at m e.0.0.0 e.0.0.1 ≡ Some e.0.1 = (btree_map_get_iff names_total names_exact m ordered e.0.0 e.0.1).1 k.0 in
      (e.0.1, ap (λ (u : ℕ). link_at m x u) e.2 ∙ ap (λ (u : ℕ). link_at m u e.0.0.1) (sym p) ∙ found)

none_more : (o : Option Link) → both o None ≡ o
none_more None = refl
none_more (Some l) = refl

-- what is kept while names are gone through
pub record IsOnTheWay (old now : ℕ → ℕ → Option Link) (a b : ℕ) (rest : List ℕ) : Type 0 where
  pub same : (p q : ℕ) → links_after now a b p q ≡ links_after old a b p q
  pub left : (y : ℕ) → Contains rest y ⊎ ((now b y ≡ None) × (now y b ≡ None))
  pub diagonal : (x : ℕ) → now x x ≡ None
  pub apart : (y : ℕ) → Contains rest y → (y ≢ a) × (y ≢ b)

module _ (links : ℕ → ℕ → Option Link) (a b y : ℕ) (ab : a ≢ b) (yb : y ≢ b) (ya : y ≢ a) where
  ba : b ≢ a
  ba e = ab (sym e)

  by : b ≢ y
  by e = yb (sym e)

  ay : a ≢ y
  ay e = ya (sym e)

  -- what stands in a place that is none of the four
  moved_else : (p q : ℕ) → ((p ≡ b) → (q ≡ y) → ⊥) → ((p ≡ y) → (q ≡ b) → ⊥) → ((p ≡ a) → (q ≡ y) → ⊥) → ((p ≡ y) → (q ≡ a) → ⊥) → moved links a b y p q ≡ links p q
  moved_else p q h i j k = rw (not_both p b q y h) (rw (not_both p y q b i) (rw (not_both p a q y j) (rw (not_both p y q a k) refl)))

  moved_by : moved links a b y b y ≡ None
  moved_by = rw (alike b) (rw (alike y) refl)

  moved_yb : moved links a b y y b ≡ None
  moved_yb = rw (alike b) (rw (alike y) (rw (differ y b yb) refl))

  moved_ay : moved links a b y a y ≡ both (links a y) (links b y)
  moved_ay = rw (differ a b ab) (rw (differ a y ay) (rw (alike a) (rw (alike y) refl)))

  moved_ya : moved links a b y y a ≡ both (links y a) (links y b)
  moved_ya = rw (differ y b yb) (rw (differ a b ab) (rw (differ y a ya) (rw (alike a) (rw (alike y) refl))))

  moved_diagonal : (x : ℕ) → moved links a b y x x ≡ links x x
  moved_diagonal x = moved_else x x (λ e f. yb (sym f ∙ e)) (λ e f. yb (sym e ∙ f)) (λ e f. ya (sym f ∙ e)) (λ e f. ya (sym e ∙ f))

  left_of : (q : ℕ) → q ≢ a → q ≢ b → both (moved links a b y a q) (moved links a b y b q) ≡ both (links a q) (links b q)
  left_of q qa qb = by_test (q == y) refl
    where
      by_test : (t : Bool) → (q == y) ≡ t → both (moved links a b y a q) (moved links a b y b q) ≡ both (links a q) (links b q)
      by_test true e =
          let s = same_true q y e in
          subst (λ (u : ℕ). both (moved links a b y a u) (moved links a b y b u) ≡ both (links a u) (links b u)) (sym s)
          (ap (λ (o : Option Link). both (moved links a b y a y) o) moved_by ∙ none_more (moved links a b y a y) ∙ moved_ay)
      by_test false e =
          let qy : q ≢ y = λ s. unlike q y e s in
          ap (λ (o : Option Link). both o (moved links a b y b q)) (moved_else a q (λ s t. ab s) (λ s t. ay s) (λ s t. qy t) (λ s t. ay s))
          ∙ ap (λ (o : Option Link). both (links a q) o) (moved_else b q (λ s t. qy t) (λ s t. by s) (λ s t. ba s) (λ s t. by s))

  right_of : (p : ℕ) → p ≢ a → p ≢ b → both (moved links a b y p a) (moved links a b y p b) ≡ both (links p a) (links p b)
  right_of p pa pb = by_test (p == y) refl
    where
      by_test : (t : Bool) → (p == y) ≡ t → both (moved links a b y p a) (moved links a b y p b) ≡ both (links p a) (links p b)
      by_test true e =
          let s = same_true p y e in
          subst (λ (u : ℕ). both (moved links a b y u a) (moved links a b y u b) ≡ both (links u a) (links u b)) (sym s)
          (ap (λ (o : Option Link). both (moved links a b y y a) o) moved_yb ∙ none_more (moved links a b y y a) ∙ moved_ya)
      by_test false e =
          let py : p ≢ y = λ s. unlike p y e s in
          ap (λ (o : Option Link). both o (moved links a b y p b)) (moved_else p a (λ s t. pb s) (λ s t. py s) (λ s t. pa s) (λ s t. py s))
          ∙ ap (λ (o : Option Link). both (links p a) o) (moved_else p b (λ s t. pb s) (λ s t. py s) (λ s t. pa s) (λ s t. py s))

  -- what comes of all links in the end stays as it was
  pub same_after : (p q : ℕ) → links_after (moved links a b y) a b p q ≡ links_after links a b p q
  same_after p q = by_tests (p == b) (q == b) (p == q) (p == a) (q == a) refl refl refl refl refl
    where
      by_tests : (pb qb pq pa qa : Bool) → (p == b) ≡ pb → (q == b) ≡ qb → (p == q) ≡ pq → (p == a) ≡ pa → (q == a) ≡ qa
          → (if pb || (qb || pq) then None else if pa then both (moved links a b y a q) (moved links a b y b q) else if qa then both (moved links a b y p a) (moved links a b y p b) else moved links a b y p q)
          ≡ (if pb || (qb || pq) then None else if pa then both (links a q) (links b q) else if qa then both (links p a) (links p b) else links p q)
      by_tests true qb pq pa qa e f g h i = refl
      by_tests false true pq pa qa e f g h i = refl
      by_tests false false true pa qa e f g h i = refl
      by_tests false false false true qa e f g h i = left_of q (λ s. unlike p q g (same_true p a h ∙ sym s)) (unlike q b f)
      by_tests false false false false true e f g h i = right_of p (unlike p a h) (unlike p b e)
      by_tests false false false false false e f g h i =
          moved_else p q (λ s t. unlike p b e s) (λ s t. unlike q b f t) (λ s t. unlike p a h s) (λ s t. unlike q a i t)

  -- weights stay small
  pub small_on : (after : ℕ → ℕ → Option Link) → ((p q : ℕ) → links_after links a b p q ≡ after p q) → AreSmall after → AreSmall links → AreSmall (moved links a b y)
  small_on after h s k p q = by_tests (p == b) (q == y) (p == y) (q == b) (p == a) (q == a) refl refl refl refl refl refl
    where
      Small : Option Link → Type 0
      Small o = IfSome o (λ l. l.weight < 2 ^ 127)

      ay_small : Small (both (links a y) (links b y))
      ay_small = subst Small (sym (h a y) ∙ links_left_of) (s a y)
        where
          links_left_of : links_after links a b a y ≡ both (links a y) (links b y)
          links_left_of = rw (differ a b ab) (rw (differ y b yb) (rw (differ a y ay) (rw (alike a) refl)))

      ya_small : Small (both (links y a) (links y b))
      ya_small = subst Small (sym (h y a) ∙ links_right_of) (s y a)
        where
          links_right_of : links_after links a b y a ≡ both (links y a) (links y b)
          links_right_of = rw (differ y b yb) (rw (differ a b ab) (rw (differ y a ya) (rw (alike a) refl)))

      by_tests : (pb qy py qb pa qa : Bool) → (p == b) ≡ pb → (q == y) ≡ qy → (p == y) ≡ py → (q == b) ≡ qb → (p == a) ≡ pa → (q == a) ≡ qa
          → Small (if (pb && qy) || (py && qb) then None else if pa && qy then both (links a y) (links b y) else if py && qa then both (links y a) (links y b) else links p q)
      by_tests pb qy py qb pa qa e1 e2 e3 e4 e5 e6 = by_bools (pb && qy) (py && qb) (pa && qy) (py && qa)
        where
          by_bools : (t u v w : Bool) → Small (if t || u then None else if v then both (links a y) (links b y) else if w then both (links y a) (links y b) else links p q)
          by_bools true u v w = tt
          by_bools false true v w = tt
          by_bools false false true w = ay_small
          by_bools false false false true = ya_small
          by_bools false false false false = k p q

-- the links between a and b are taken out first
module _ (l0 l1 l2 : ℕ → ℕ → Option Link) (a b : ℕ) (ab : a ≢ b) (h1 : (p q : ℕ) → l1 p q ≡ (if (p == a) && (q == b) then None else l0 p q)) (h2 : (p q : ℕ) → l2 p q ≡ (if (p == b) && (q == a) then None else l1 p q)) where
  still : (p q : ℕ) → ((p ≡ a) → (q ≡ b) → ⊥) → ((p ≡ b) → (q ≡ a) → ⊥) → l2 p q ≡ l0 p q
  still p q h k = h2 p q ∙ ap (λ (t : Bool). if t then None else l1 p q) (not_both p b q a k) ∙ h1 p q ∙ ap (λ (t : Bool). if t then None else l0 p q) (not_both p a q b h)

  -- nothing comes of taking out
  none_or_still : (p q : ℕ) → (l2 p q ≡ None) ⊎ (l2 p q ≡ l0 p q)
  none_or_still p q = by_tests ((p == b) && (q == a)) ((p == a) && (q == b)) (h1 p q) (h2 p q)
    where
      by_tests : (s t : Bool) → l1 p q ≡ (if t then None else l0 p q) → l2 p q ≡ (if s then None else l1 p q) → (l2 p q ≡ None) ⊎ (l2 p q ≡ l0 p q)
      by_tests true t e f = inl f
      by_tests false true e f = inl (f ∙ e)
      by_tests false false e f = inr (f ∙ e)

  begun_ab : l2 a b ≡ None
  begun_ab = h2 a b ∙ ap (λ (t : Bool). if t then None else l1 a b) (not_both a b b a (λ e f. ab e)) ∙ h1 a b ∙ ap (λ (t : Bool). if t && (b == b) then None else l0 a b) (alike a) ∙ ap (λ (t : Bool). if t then None else l0 a b) (alike b)

  begun_ba : l2 b a ≡ None
  begun_ba = h2 b a ∙ ap (λ (t : Bool). if t && (a == a) then None else l1 b a) (alike b) ∙ ap (λ (t : Bool). if t then None else l1 b a) (alike a)

  pub begun_small : AreSmall l0 → AreSmall l2
  begun_small k p q =
      elim (none_or_still p q) [
        | inl e ↦ subst (λ (o : Option Link). IfSome o (λ l. l.weight < 2 ^ 127)) (sym e) tt
        | inr e ↦ subst (λ (o : Option Link). IfSome o (λ l. l.weight < 2 ^ 127)) (sym e) (k p q)
      ]

  pub begun : (names : List ℕ) → ((x : ℕ) → l0 x x ≡ None) → ((x y : ℕ) → IsSome (l0 x y) → IsSome (l0 y x)) → ((y : ℕ) → IsSome (l2 b y) → Contains names y) → ((y : ℕ) → Contains names y → (v : Link) × (l2 b y ≡ Some v)) → IsOnTheWay l0 l2 a b names
  begun names none even all only = record { same = same; left = left; diagonal = diagonal; apart = λ y c. (to_a y c, to_b y c) }
    where
      no_some : (o : Option Link) (v : Link) → o ≡ Some v → o ≡ None → ⊥
      no_some None v e f = cc
      no_some (Some u) v e f = cc

      diagonal : (x : ℕ) → l2 x x ≡ None
      diagonal x =
          elim (none_or_still x x) [
            | inl e ↦ e
            | inr e ↦ e ∙ none x
          ]

      to_a : (y : ℕ) → Contains names y → y ≢ a
      to_a y c e = let v = only y c in no_some (l2 b y) v.0 v.1 (ap (λ (u : ℕ). l2 b u) e ∙ begun_ba)

      to_b : (y : ℕ) → Contains names y → y ≢ b
      to_b y c e = let v = only y c in no_some (l2 b y) v.0 v.1 (ap (λ (u : ℕ). l2 b u) e ∙ diagonal b)

      left : (y : ℕ) → Contains names y ⊎ ((l2 b y ≡ None) × (l2 y b ≡ None))
      left y = by_link (l2 b y) refl (l2 y b) refl
        where
          back : (v : Link) → l2 b y ≡ None → l2 y b ≡ Some v → ⊥
          back v e f = by_test (y == a) refl
            where
              by_test : (t : Bool) → (y == a) ≡ t → ⊥
              by_test true s = no_some (l2 y b) v f (ap (λ (u : ℕ). l2 u b) (same_true y a s) ∙ begun_ab)
              by_test false s =
                  let ya : y ≢ a = λ u. unlike y a s u in
                  let there : l0 y b ≡ Some v = sym (still y b (λ t u. ya t) (λ t u. ab (sym u))) ∙ f in
                  let w = some_of (l0 b y) (even y b (subst (λ (o : Option Link). IsSome o) (sym there) refl)) in
                  no_some (l2 b y) w.0 (still b y (λ t u. ab (sym t)) (λ t u. ya u) ∙ w.1) e

          by_link : (o : Option Link) → l2 b y ≡ o → (p : Option Link) → l2 y b ≡ p → Contains names y ⊎ ((l2 b y ≡ None) × (l2 y b ≡ None))
          by_link (Some v) e p f = inl (all y (subst (λ (o : Option Link). IsSome o) (sym e) refl))
          by_link None e None f = inr (e, f)
          by_link None e (Some v) f = absurd (back v e f)

      same : (p q : ℕ) → links_after l2 a b p q ≡ links_after l0 a b p q
      same p q = by_tests (p == b) (q == b) (p == q) (p == a) (q == a) refl refl refl refl refl
        where
          by_tests : (pb qb pq pa qa : Bool) → (p == b) ≡ pb → (q == b) ≡ qb → (p == q) ≡ pq → (p == a) ≡ pa → (q == a) ≡ qa
              → (if pb || (qb || pq) then None else if pa then both (l2 a q) (l2 b q) else if qa then both (l2 p a) (l2 p b) else l2 p q)
              ≡ (if pb || (qb || pq) then None else if pa then both (l0 a q) (l0 b q) else if qa then both (l0 p a) (l0 p b) else l0 p q)
          by_tests true qb pq pa qa e f g h i = refl
          by_tests false true pq pa qa e f g h i = refl
          by_tests false false true pa qa e f g h i = refl
          by_tests false false false true qa e f g h i =
              let qna : q ≢ a = λ s. unlike p q g (same_true p a h ∙ sym s) in
              ap (λ (o : Option Link). both o (l2 b q)) (still a q (λ s t. unlike q b f t) (λ s t. ab s)) ∙ ap (λ (o : Option Link). both (l0 a q) o) (still b q (λ s t. ab (sym s)) (λ s t. qna t))
          by_tests false false false false true e f g h i =
              ap (λ (o : Option Link). both o (l2 p b)) (still p a (λ s t. unlike p a h s) (λ s t. unlike p b e s)) ∙ ap (λ (o : Option Link). both (l0 p a) o) (still p b (λ s t. unlike p a h s) (λ s t. unlike p b e s))
          by_tests false false false false false e f g h i = still p q (λ s t. unlike p a h s) (λ s t. unlike p b e s)

-- one name more
pub one_on : (old now next : ℕ → ℕ → Option Link) (a b y : ℕ) (rest : List ℕ) → a ≢ b → ((p q : ℕ) → next p q ≡ moved now a b y p q) → IsOnTheWay old now a b (y ∷ rest) → IsOnTheWay old next a b rest
one_on old now next a b y rest ab step h =
    record {
      same = λ p q. same_next p q ∙ same_after now a b y ab yb ya p q ∙ h.same p q;
      left = left;
      diagonal = λ x. step x x ∙ moved_diagonal now a b y ab yb ya x ∙ h.diagonal x;
      apart = λ z c. h.apart z (in_tail_of z c);
    }
  where
    here : Contains (y ∷ rest) y
    here = (0, omega arith, refl)

    in_tail_of : (z : ℕ) → Contains rest z → Contains (y ∷ rest) z
    in_tail_of z c = in_tail y rest z c

    ya : y ≢ a
    ya = (h.apart y here).0

    yb : y ≢ b
    yb = (h.apart y here).1

    After : ℕ → ℕ → Option Link → Option Link → Option Link → Option Link → Option Link → Option Link
    After p q aq bq pa pb o = if p == b || (q == b || p == q) then None else if p == a then both aq bq else if q == a then both pa pb else o

    same_next : (p q : ℕ) → links_after next a b p q ≡ links_after (moved now a b y) a b p q
    same_next p q =
        ap (λ (o : Option Link). After p q o (next b q) (next p a) (next p b) (next p q)) (step a q)
        ∙ ap (λ (o : Option Link). After p q (moved now a b y a q) o (next p a) (next p b) (next p q)) (step b q)
        ∙ ap (λ (o : Option Link). After p q (moved now a b y a q) (moved now a b y b q) o (next p b) (next p q)) (step p a)
        ∙ ap (λ (o : Option Link). After p q (moved now a b y a q) (moved now a b y b q) (moved now a b y p a) o (next p q)) (step p b)
        ∙ ap (λ (o : Option Link). After p q (moved now a b y a q) (moved now a b y b q) (moved now a b y p a) (moved now a b y p b) o) (step p q)

    left : (z : ℕ) → Contains rest z ⊎ ((next b z ≡ None) × (next z b ≡ None))
    left z = by_test (z == y) refl (h.left z)
      where
        gone : z ≢ y → (now b z ≡ None) × (now z b ≡ None) → (next b z ≡ None) × (next z b ≡ None)
        gone zy n = (
          step b z ∙ moved_else now a b y ab yb ya b z (λ s t. zy t) (λ s t. yb (sym s)) (λ s t. ab (sym s)) (λ s t. yb (sym s)) ∙ n.0,
          step z b ∙ moved_else now a b y ab yb ya z b (λ s t. yb (sym t)) (λ s t. zy s) (λ s t. yb (sym t)) (λ s t. ab (sym t)) ∙ n.1,
        )

        by_test : (t : Bool) → (z == y) ≡ t → Contains (y ∷ rest) z ⊎ ((now b z ≡ None) × (now z b ≡ None)) → Contains rest z ⊎ ((next b z ≡ None) × (next z b ≡ None))
        by_test true e c =
            let s = same_true z y e in
            inr (ap (λ (u : ℕ). next b u) s ∙ step b y ∙ moved_by now a b y ab yb ya, ap (λ (u : ℕ). next u b) s ∙ step y b ∙ moved_yb now a b y ab yb ya)
        by_test false e (inl c) =
            elim (split_at y rest z c) [
              | inl s ↦ absurd (unlike z y e s)
              | inr d ↦ inl d
            ]
        by_test false e (inr n) = inr (gone (unlike z y e) n)

-- when no name is left
pub all_over : (old now : ℕ → ℕ → Option Link) (a b : ℕ) → a ≢ b → IsOnTheWay old now a b [] → (p q : ℕ) → now p q ≡ links_after old a b p q
all_over old now a b ab h p q = by_tests (p == b) (q == b) (p == q) (p == a) (q == a) refl refl refl refl refl ∙ h.same p q
  where
    free : (y : ℕ) → (now b y ≡ None) × (now y b ≡ None)
    free y =
        elim (h.left y) [
          | inl c ↦ absurd (omega (arith, c.1))
          | inr n ↦ n
        ]

    by_tests : (pb qb pq pa qa : Bool) → (p == b) ≡ pb → (q == b) ≡ qb → (p == q) ≡ pq → (p == a) ≡ pa → (q == a) ≡ qa
        → now p q ≡ (if pb || (qb || pq) then None else if pa then both (now a q) (now b q) else if qa then both (now p a) (now p b) else now p q)
    by_tests true qb pq pa qa e f g i j = ap (λ (u : ℕ). now u q) (same_true p b e) ∙ (free q).0
    by_tests false true pq pa qa e f g i j = ap (λ (u : ℕ). now p u) (same_true q b f) ∙ (free p).1
    by_tests false false true pa qa e f g i j = ap (λ (u : ℕ). now p u) (sym (same_true p q g)) ∙ h.diagonal p
    by_tests false false false true qa e f g i j =
        ap (λ (u : ℕ). now u q) (same_true p a i) ∙ sym (none_more (now a q)) ∙ ap (λ (o : Option Link). both (now a q) o) (sym (free q).0)
    by_tests false false false false true e f g i j =
        ap (λ (u : ℕ). now p u) (same_true q a j) ∙ sym (none_more (now p a)) ∙ ap (λ (o : Option Link). both (now p a) o) (sym (free p).1)
    by_tests false false false false false e f g i j = refl

pub small_same : (l m : ℕ → ℕ → Option Link) → ((p q : ℕ) → m p q ≡ l p q) → AreSmall l → AreSmall m
small_same l m h k p q = subst (λ (o : Option Link). IfSome o (λ v. v.weight < 2 ^ 127)) (sym (h p q)) (k p q)
