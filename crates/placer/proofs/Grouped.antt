-- An order by groups has each of its functions once.
use Rattle.std.proofs.Common.{◌≡◌, ℕ, zero, suc, ◌+◌, ◌<◌, ◌≤◌, Bool, true, false, not, List, [], ◌∷◌, map, reverse, refl, sym, ap, subst, ◌∙◌, ◌⊎◌, inl, inr, arith}
use Rattle.std.specs.Prelude.{◌==◌, Contains, if◌then◌else◌}
use Rattle.std.specs.List.{filter, list_any, sum_by}
use Rattle.std.proofs.lemmas.Bool.{eq-eqb, eqb-true, ne_eqb}
use Rattle.std.proofs.lemmas.List.Folds.{list_any_at}
use Rattle.std.proofs.lemmas.List.Sorted.{IsPermutation-reverse, sum_by-IsPermutation}
use Rattle.std.proofs.lemmas.List.Sums.{sum_by-append}
use Rattle.place_funcs.specs.Groups.{name, alone, turned, joined, with_joined, Merges, EndsAfter, IsClosest}
use Rattle.place_funcs.proofs.Members.{name_in, to_filter}
use Rattle.place_funcs.proofs.OneMerge.{turned_sides, one_joined}
use Rattle.placer.proofs.Totals.{at, total, total-flat, total-alone, Once, Hold, first, taken_out, gone_on, first_is}
use Rattle.placer.proofs.Ordered.{AddUp}

-- each group has the function after which it is named
abbrev Named : List (List ℕ) → Type 0
Named [] = Unit {0}
Named (c ∷ cs) = Contains c (name c) × Named cs

abbrev is_named : ℕ → List ℕ → Bool
is_named x c = name c == x

named_hold : (x : ℕ) (cs : List (List ℕ)) → Named cs → Hold (is_named x) x cs
named_hold x [] n = tt
named_hold x (c ∷ cs) n = ((λ e. subst (λ (y : ℕ). Contains c y) (eqb-true (name c) x e) n.0), named_hold x cs n.1)

named_filter : (q : List ℕ → Bool) (cs : List (List ℕ)) → Named cs → Named (filter q cs)
named_filter q [] n = tt
named_filter q (c ∷ cs) n = by_test (q c) (named_filter q cs n.1)
  where
    by_test : (b : Bool) → Named (filter q cs) → Named (if b then c ∷ filter q cs else filter q cs)
    by_test true h = (n.0, h)
    by_test false h = h

named_map : (q : List ℕ → Bool) (j : List ℕ) (cs : List (List ℕ)) → Contains j (name j) → Named cs → Named (map (λ c. if q c then j else c) cs)
named_map q j [] h n = tt
named_map q j (c ∷ cs) h n = (by_test (q c), named_map q j cs h n.1)
  where
    by_test : (b : Bool) → Contains (if b then j else c) (name (if b then j else c))
    by_test true = h
    by_test false = n.0

named_alone : (fs : List ℕ) → Named (map alone fs)
named_alone [] = tt
named_alone (f ∷ fs) = ((0, omega arith, refl), named_alone fs)

side_sum : (f : ℕ → ℕ) (a p : List ℕ) → (p ≡ a) ⊎ (p ≡ reverse a) → sum_by f p ≡ sum_by f a
side_sum f a p (inl e) = ap (sum_by f) e
side_sum f a p (inr e) = ap (sum_by f) e ∙ sum_by-IsPermutation f a (reverse a) (IsPermutation-reverse a)

joined_sum : (h : ℕ → ℕ) (f g : ℕ) (a b : List ℕ) → sum_by h (joined f g a b) ≡ sum_by h a + sum_by h b
joined_sum h f g a b =
    let p = turned f g a b in
    let sides = turned_sides f g a b in
    let one = side_sum h a p.0 sides.one in
    let other = side_sum h b p.1 sides.other in
    sum_by-append h p.0 p.1 ∙ rw (one, other) refl

some_at : (q : List ℕ → Bool) (cs : List (List ℕ)) (a : List ℕ) → Contains cs a → q a ≡ true → list_any q cs ≡ true
some_at q cs a h t = list_any_at q cs h.0 a h.1 (ap q h.2 ∙ t)

same_name : (a : List ℕ) → is_named (name a) a ≡ true
same_name a = eq-eqb (name a) (name a) refl

merged : (h : ℕ → ℕ) (groups : List (List ℕ)) (a b : List ℕ) (f g : ℕ) → Once groups → Named groups → Contains groups a → Contains groups b → name a < name b → Contains a (name a) → Contains b (name b)
    → total h (with_joined groups a b (joined f g a b)) ≡ total h groups
merged h groups a b f g once named in_a in_b less has_a has_b =
    let qa : List ℕ → Bool = is_named (name a) in
    let qb : List ℕ → Bool = is_named (name b) in
    let rest : List (List ℕ) = filter (λ c. not (qb c)) groups in
    let b_first : first qb groups ≡ b = first_is qb (name b) groups b (named_hold (name b) groups named) (once (name b)) in_b (same_name b) has_b in
    let out : (k : ℕ → ℕ) → total k rest + sum_by k (first qb groups) ≡ total k groups =
    λ k. taken_out k qb (name b) groups (named_hold (name b) groups named) (once (name b)) (some_at qb groups b in_b (same_name b)) in
    let few : total (at (name a)) rest ≤ 1 = (let o = out (at (name a)) in let m = once (name a) in omega arith) in
    let kept : not (qb a) ≡ true = rw (ne_eqb (name a) (name b) (λ e. omega (arith, e, less))) refl in
    let still : Contains rest a = to_filter (λ c. not (qb c)) groups a in_a kept in
    let names : Named rest = named_filter (λ c. not (qb c)) groups named in
    let a_first : first qa rest ≡ a = first_is qa (name a) rest a (named_hold (name a) rest names) few still (same_name a) has_a in
    let here : sum_by h (joined f g a b) ≡ sum_by h (first qa rest) + sum_by h b = joined_sum h f g a b ∙ ap (λ (c : List ℕ). sum_by h c + sum_by h b) (sym a_first) in
    let more = gone_on h qa (λ _. joined f g a b) (sum_by h b) (name a) rest (named_hold (name a) rest names) few (some_at qa rest a still (same_name a)) here in
    let last : sum_by h b ≡ sum_by h (first qb groups) = ap (sum_by h) (sym b_first) in
    more ∙ ap (λ (n : ℕ). total h rest + n) last ∙ out h

module _ (edge : ℕ → ℕ → ℕ) where
  merge_sum : (h : ℕ → ℕ) (groups after : List (List ℕ)) → Once groups → Named groups → Merges edge groups after → total h after ≡ total h groups
  merge_sum h groups after once named m =
      ap (total h) m.is
      ∙ merged h groups m.a m.b m.f m.g once named m.nearest.two.one m.nearest.two.other m.nearest.two.named (name_in m.a m.f m.heaviest.from) (name_in m.b m.g m.heaviest.to)

  merge_named : (groups after : List (List ℕ)) → Named groups → Merges edge groups after → Named after
  merge_named groups after named m =
      let j : List ℕ = joined m.f m.g m.a m.b in
      let has_f : Contains j m.f = one_joined m.f m.g m.a m.b m.f m.heaviest.from in
      subst Named (sym m.is) (named_map (is_named (name m.a)) j (filter (λ c. not (is_named (name m.b) c)) groups) (name_in j m.f has_f) (named_filter (λ c. not (is_named (name m.b) c)) groups named))

  all_merged : (n : ℕ) (groups last : List (List ℕ)) → Once groups → Named groups → EndsAfter edge n groups last → (h : ℕ → ℕ) → total h groups ≡ total h last
  all_merged zero groups last once named e h = ap (total h) (sym e.1)
  all_merged (suc n) groups last once named e h =
      let once_on : Once e.0 = λ x. rw (merge_sum (at x) groups e.0 once named e.1) (once x) in
      sym (merge_sum h groups e.0 once named e.1) ∙ all_merged n e.0 last once_on (merge_named groups e.0 named e.1) e.2 h

  pub closest_adds_up : (count : List ℕ → ℕ) (funcs order : List ℕ) → ((x : ℕ) → sum_by (at x) funcs ≤ 1) → IsClosest edge count funcs order → AddUp order funcs
  closest_adds_up count funcs order few c h =
      let once : Once (map alone funcs) = λ x. rw (total-alone (at x) funcs) (few x) in
      ap (sum_by h) c.is
      ∙ total-flat h c.groups
      ∙ sum_by-IsPermutation (sum_by h) c.last c.groups c.same
      ∙ sym (all_merged c.merges (map alone funcs) c.last once (named_alone funcs) c.ends h)
      ∙ total-alone h funcs
