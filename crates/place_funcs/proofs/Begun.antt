-- Functions that stand alone are under way.
use Rattle.std.proofs.Common.{◌≡◌, ℕ, zero, suc, Bool, true, false, not, List, [], map, inl, inr, refl, sym, ap, subst, ◌∙◌, arith}
use Rattle.std.specs.Prelude.{◌==◌, ◌&&◌, ◌≢◌, Contains, Option, Some}
use Rattle.std.specs.List.{sum_by}
use Rattle.std.specs.List.Sorted.{IsPermutation}
use Rattle.std.proofs.lemmas.Bool.{and_parts}
use Rattle.std.proofs.lemmas.List.Sorted.{IsPermutation-refl}
use Rattle.image.specs.declared.ranges.Func.{Func}
use Rattle.branch_ring.specs.declared.counted.Counted.{Counted}
use Rattle.place_funcs.specs.declared.link.Link.{Link}
use Rattle.place_funcs.specs.Edges.{edge}
use Rattle.place_funcs.specs.Groups.{name, alone, between, edge_of, Leads}
use Rattle.place_funcs.specs.Links.{lone, top_of, AreLone, Tells}
use Rattle.place_funcs.specs.Rows.{is_of, share_of, IsGiven}
use Rattle.branch_ring.proofs.Ascending.{in_head, in_none, split_at}
use Rattle.place_funcs.proofs.Members.{from_map, to_map}
use Rattle.place_funcs.proofs.LinkLaws.{alike, differ}
use Rattle.place_funcs.proofs.Standing.{rise_alone, flat_alone}
use Rattle.place_funcs.proofs.Totals.{of_in, in_of, total_edge, total_none}
use Rattle.place_funcs.proofs.UnderWay.{IsUnderWay}

between_alone : (edge : ℕ → ℕ → ℕ) (x y : ℕ) → between edge (alone x) (alone y) ≡ edge x y
unfolding between
between_alone edge x y = omega arith

only : (x f : ℕ) → Contains (alone x) f → f ≡ x
only x f h =
    elim (split_at x [] f h) [
      | inl e ↦ e
      | inr i ↦ absurd (in_none f i)
    ]

-- the link of two functions that stand alone
lone_tells : (edge : ℕ → ℕ → ℕ) (x y n : ℕ) → edge x y ≡ n → Tells edge (alone x) (alone y) (lone x y n)
lone_tells edge x y zero e = between_alone edge x y ∙ e
lone_tells edge x y (suc n) e =
    record {
      weight = sym (between_alone edge x y ∙ e);
      top = sym e;
      some = omega arith;
      heaviest = record {
        from = in_head x [];
        to = in_head y [];
        leads = λ p q i j. subst (λ (u : ℕ). Leads (edge_of edge x y) (edge_of edge u q)) (sym (only x p i)) (subst (λ (u : ℕ). Leads (edge_of edge x y) (edge_of edge x u)) (sym (only y q j)) (inr (refl, inr (refl, omega arith))));
      };
    }

module _ (funcs : List Func) (profile : List Counted) (chosen : List ℕ) (given : IsGiven funcs profile chosen) (links : ℕ → ℕ → Option Link) (is_lone : AreLone links)
    (tops : (p q : ℕ) → top_of (links p q) ≡ sum_by (share_of funcs chosen profile p q) chosen) where
  tells : (x y : ℕ) → Contains chosen x → Contains chosen y → x ≢ y → Tells (edge funcs profile) (alone x) (alone y) (links x y)
  tells x y i j n =
      subst (λ (o : Option Link). Tells (edge funcs profile) (alone x) (alone y) o) (sym (is_lone x y))
      (lone_tells (edge funcs profile) x y (top_of (links x y)) (sym (tops x y ∙ total_edge funcs profile chosen given x y (of_in chosen x i) (of_in chosen y j) (differ x y n))))

  linked : (x y : ℕ) (l : Link) → links x y ≡ Some l → (is_of chosen x && (is_of chosen y && not (x == y))) ≡ true
  linked x y l e = by_test (is_of chosen x && (is_of chosen y && not (x == y))) refl
    where
      none_some : (n : ℕ) → n ≡ 0 → Some l ≡ lone x y n → ⊥
      none_some zero z s = cc
      none_some (suc n) z s = omega (arith, z)

      by_test : (t : Bool) → (is_of chosen x && (is_of chosen y && not (x == y))) ≡ t → t ≡ true
      by_test true s = refl
      by_test false s = absurd (none_some (top_of (links x y)) (tops x y ∙ total_none funcs profile chosen given x y s) (sym e ∙ is_lone x y))

  not_true : (t : Bool) → not t ≡ true → t ≡ false
  not_true true e = absurd cc
  not_true false e = refl

  unlike : (u v : ℕ) → (u == v) ≡ false → u ≡ v → ⊥
  unlike u v e s = let t : true ≡ false = sym (alike u) ∙ ap (λ (w : ℕ). u == w) s ∙ e in cc

  pub begun_way : IsUnderWay (edge funcs profile) chosen (map alone chosen) links
  begun_way =
      record {
        rise = rise_alone chosen given.ascend;
        tell = λ c d p q n.
            (let x = from_map alone chosen c p in
            let y = from_map alone chosen d q in
            subst (λ (z : List ℕ). Tells (edge funcs profile) z d (links (name z) (name d))) (sym x.2)
            (subst (λ (z : List ℕ). Tells (edge funcs profile) (alone x.0) z (links x.0 (name z))) (sym y.2)
            (tells x.0 y.0 x.1 y.1 (λ e. n (ap name x.2 ∙ e ∙ sym (ap name y.2))))));
        of_groups = λ x y l e.
            (let t = linked x y l e in
            let p = and_parts (is_of chosen x) (is_of chosen y && not (x == y)) t in
            let q = and_parts (is_of chosen y) (not (x == y)) p.1 in
            (alone x, alone y, to_map alone chosen x (in_of chosen x p.0), to_map alone chosen y (in_of chosen y q.0), refl, refl, unlike x y (not_true (x == y) q.1)));
        same = subst (λ (fs : List ℕ). IsPermutation chosen fs) (sym (flat_alone chosen)) (IsPermutation-refl chosen);
        ends = λ n last e. (n, e);
      }
