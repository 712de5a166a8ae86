-- The first link is that of the nearest groups.
use Rattle.std.proofs.Common.{◌≡◌, ℕ, zero, suc, ◌<◌, List, inl, inr, refl, ap, subst, ◌∙◌, ◌⊎◌, arith}
use Rattle.std.specs.Prelude.{Contains, Option, Some, None, ◌≢◌}
use Rattle.place_funcs.specs.Groups.{name, Leads, between, pair_of, AreTwo, AreNearest, IsDone}
use Rattle.place_funcs.specs.declared.link.Link.{Link}
use Rattle.place_funcs.specs.Links.{IsLink, Tells, Keeps, IsFirst}
use Rattle.place_funcs.proofs.LinkLaws.{no_edge}

apart : (c d : List ℕ) → name c < name d → name c ≢ name d
apart c d h e = omega arith

-- a link has a weight
pub has_weight : (edge : ℕ → ℕ → ℕ) (c d : List ℕ) (l : Link) → IsLink edge c d l → 0 < between edge c d
has_weight edge c d l h = by_zero (between edge c d) refl
  where
    by_zero : (n : ℕ) → between edge c d ≡ n → 0 < n
    by_zero zero e = absurd (let z = no_edge edge c d l.f l.g e h.heaviest.from h.heaviest.to in let t = h.top in let s = h.some in omega arith)
    by_zero (suc n) e = omega arith

module _ (edge : ℕ → ℕ → ℕ) (groups : List (List ℕ)) (links : ℕ → ℕ → Option Link) (k : Keeps edge groups links) where
  -- two groups without a weight, or with a link
  known : (c d : List ℕ) → AreTwo groups c d → (between edge c d ≡ 0) ⊎ ((m : Link) × (links (name c) (name d) ≡ Some m) × (m.weight ≡ between edge c d))
  known c d two = by_link (links (name c) (name d)) refl (k.tell c d two.one two.other (apart c d two.named))
    where
      by_link : (o : Option Link) → links (name c) (name d) ≡ o → Tells edge c d o → (between edge c d ≡ 0) ⊎ ((m : Link) × (links (name c) (name d) ≡ Some m) × (m.weight ≡ between edge c d))
      by_link None e t = inl t
      by_link (Some m) e t = inr (m, e, t.weight)

  pub done : ((p q : ℕ) → p < q → links p q ≡ None) → IsDone edge groups
  done none c d two =
      elim (known c d two) [
        | inl z ↦ z
        | inr m ↦ absurd (some_none (links (name c) (name d)) m.0 m.1 (none (name c) (name d) two.named))
      ]
    where
      some_none : (o : Option Link) (m : Link) → o ≡ Some m → o ≡ None → ⊥
      some_none None m e f = cc
      some_none (Some l) m e f = cc

  -- the groups of the first link
  pub record AreFirst (x y : ℕ) (l : Link) : Type 0 where
    pub a : List ℕ
    pub b : List ℕ
    pub first : name a ≡ x
    pub second : name b ≡ y
    pub nearest : AreNearest edge groups a b
    pub link : IsLink edge a b l

  pub nearest : (x y : ℕ) (l : Link) → IsFirst links x y l → AreFirst x y l
  nearest x y l h = record { a = a; b = b; first = g.4; second = g.5; nearest = record { two = two; some = has_weight edge a b l link; leads = leads }; link = link }
    where
      g : (c : List ℕ) × (d : List ℕ) × Contains groups c × Contains groups d × (name c ≡ x) × (name d ≡ y) × (x ≢ y)
      g = k.of_groups x y l h.there

      a : List ℕ
      a = g.0

      b : List ℕ
      b = g.1

      named : name a < name b
      named = let e = g.4 in let f = g.5 in let lt = h.ordered in omega arith

      two : AreTwo groups a b
      two = record { one = g.2; other = g.3; named = named }

      at : links (name a) (name b) ≡ Some l
      at = ap (λ (p : ℕ). links p (name b)) g.4 ∙ ap (λ (q : ℕ). links x q) g.5 ∙ h.there

      link : IsLink edge a b l
      link = subst (λ (o : Option Link). Tells edge a b o) at (k.tell a b g.2 g.3 (apart a b named))

      leads : (c d : List ℕ) → AreTwo groups c d → Leads (pair_of edge a b) (pair_of edge c d)
      leads c d other =
          let w = link.weight in
          let e = g.4 in
          let f = g.5 in
          let more = has_weight edge a b l link in
          elim (known c d other) [
            | inl z ↦ inl (omega arith)
            | inr m ↦ (let t = h.leads (name c) (name d) m.0 other.named m.1 in let v = m.2 in grind arith)
          ]
