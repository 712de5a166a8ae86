-- One pass over the edges in their order does what the rule says, and the rule leads to one answer.
use Rattle.std.proofs.Common.{◌≡◌, ℕ, ◌<◌, ◌==◌, Bool, true, false, not, cond, List, [], ◌∷◌, ◌++◌, map, inl, inr, refl, sym, ◌∙◌, subst, ap, arith}
use Rattle.std.specs.Prelude.{◌&&◌, ◌||◌, ◌⊎◌, ◌↔◌, filter}
use Rattle.std.specs.List.{list_any, AllByRecursion}
use Rattle.std.proofs.lemmas.Bool.{and_parts, eqb-true}
use Rattle.place_blocks.specs.Rising.{Rises, IsAmong}
use Rattle.place_blocks.specs.Edges.{Edge}
use Rattle.place_blocks.specs.Chains.{begins, ends, can_join, chain_of, go_on, join, Precedes, IsOpen, IsNext, Joins}
use Rattle.place_blocks.specs.Passes.{pass}

-- what holds of each holds of one of them
pub of_each : {X : Type 0} (P : X → Type 0) (xs : List X) (x : X) → AllByRecursion P xs → IsAmong xs x → P x
of_each P [] x all h = absurd h
of_each P (y ∷ ys) x all (inl e) = subst P e all.0
of_each P (y ∷ ys) x all (inr h) = of_each P ys x all.1 h

pub or_true : (a b : Bool) → (a || b) ≡ true → (a ≡ true) ⊎ (b ≡ true)
or_true true b e = inl refl
or_true false b e = inr e

pub or_first : (a b : Bool) → a ≡ true → (a || b) ≡ true
or_first true b e = refl
or_first false b e = absurd cc

pub or_second : (a b : Bool) → b ≡ true → (a || b) ≡ true
or_second true b e = refl
or_second false b e = e

pub was_false : (b : Bool) → not b ≡ true → b ≡ false
was_false true e = absurd cc
was_false false e = refl

pub to_not : (b : Bool) → (b ≡ true → ⊥) → not b ≡ true
to_not true h = absurd (h refl)
to_not false h = refl

pub both : (a b : Bool) → a ≡ true → b ≡ true → (a && b) ≡ true
both true b e f = f
both false b e f = absurd cc

-- what passes p after a filter and a map passes q before, or T holds
module _ (p q : List ℕ → Bool) (g : List ℕ → List ℕ) (keep : List ℕ → Bool) (T : Type 0) (h : (c : List ℕ) → keep c ≡ true → p (g c) ≡ true → (q c ≡ true) ⊎ T) where
  joined_case : (c : List ℕ) (chains : List (List ℕ)) → keep c ≡ true → (p (g c) ≡ true) ⊎ (list_any p (map g (filter keep chains)) ≡ true)
      → (list_any p (map g (filter keep chains)) ≡ true → (list_any q chains ≡ true) ⊎ T) → (list_any q (c ∷ chains) ≡ true) ⊎ T
  joined_case c chains k (inl e) rest =
      elim (h c k e) [
        | inl is ↦ inl (or_first (q c) (list_any q chains) is)
        | inr t ↦ inr t
      ]
  joined_case c chains k (inr e) rest =
      elim (rest e) [
        | inl is ↦ inl (or_second (q c) (list_any q chains) is)
        | inr t ↦ inr t
      ]

  joined_step : (b : Bool) (c : List ℕ) (chains : List (List ℕ)) → keep c ≡ b → list_any p (map g (cond b (c ∷ filter keep chains) (filter keep chains))) ≡ true
      → (list_any p (map g (filter keep chains)) ≡ true → (list_any q chains ≡ true) ⊎ T) → (list_any q (c ∷ chains) ≡ true) ⊎ T
  joined_step true c chains k e rest = joined_case c chains k (or_true (p (g c)) (list_any p (map g (filter keep chains))) e) rest
  joined_step false c chains k e rest =
      elim (rest e) [
        | inl is ↦ inl (or_second (q c) (list_any q chains) is)
        | inr t ↦ inr t
      ]

  any_joined : (chains : List (List ℕ)) → list_any p (map g (filter keep chains)) ≡ true → (list_any q chains ≡ true) ⊎ T
  any_joined [] e = absurd cc
  any_joined (c ∷ chains) e = joined_step (keep c) c chains refl e (any_joined chains)

-- a chain that goes on begins as before
begins_case : (t : Bool) (d k : ℕ) (chain tail : List ℕ) → begins d (cond t (k ∷ chain ++ tail) (k ∷ chain)) ≡ (k == d)
begins_case true d k chain tail = refl
begins_case false d k chain tail = refl

begins_on : (d a : ℕ) (tail chain : List ℕ) → begins d (go_on a tail chain) ≡ begins d chain
begins_on d a tail [] = refl
begins_on d a tail (k ∷ chain) = begins_case (ends a (k ∷ chain)) d k chain tail

-- and ends as the tail does
pub ends_on : (c t : ℕ) (chain tail : List ℕ) → ends c (chain ++ t ∷ tail) ≡ ends c (t ∷ tail)
ends_on c t [] tail = refl
ends_on c t (k ∷ []) tail = refl
ends_on c t (k ∷ l ∷ chain) tail = ends_on c t (l ∷ chain) tail

-- the chain that b begins begins with b
begun_case : (t : Bool) (b d : ℕ) (c rest : List ℕ) → begins b c ≡ t → begins d (cond t c rest) ≡ true → (begins d rest ≡ true → b ≡ d) → b ≡ d
begun_case true b d [] rest is e h = absurd cc
begun_case true b d (k ∷ c) rest is e h = sym (eqb-true k b is) ∙ eqb-true k d e
begun_case false b d c rest is e h = h e

begun : (b d : ℕ) (chains : List (List ℕ)) → begins d (chain_of b chains) ≡ true → b ≡ d
begun b d [] e = absurd cc
begun b d (c ∷ chains) e = begun_case (begins b c) b d c (chain_of b chains) refl e (begun b d chains)

-- and is one of the chains, if it is any
found_case : (q : List ℕ → Bool) (t : Bool) (c rest : List ℕ) (chains : List (List ℕ)) → q (cond t c rest) ≡ true → (q rest ≡ true → list_any q chains ≡ true) → list_any q (c ∷ chains) ≡ true
found_case q true c rest chains e h = or_first (q c) (list_any q chains) e
found_case q false c rest chains e h = or_second (q c) (list_any q chains) (h e)

found : (q : List ℕ → Bool) (b : ℕ) (chains : List (List ℕ)) → q [] ≡ false → q (chain_of b chains) ≡ true → list_any q chains ≡ true
found q b [] none e = absurd cc
found q b (c ∷ chains) none e = found_case q (begins b c) c (chain_of b chains) chains e (found q b chains none)

-- a block that begins a chain after a join did so before, and is another than the edge's second block
module _ (a b : ℕ) (tail : List ℕ) where
  still_begins : (d : ℕ) (chains : List (List ℕ)) → list_any (begins d) (map (go_on a tail) (filter (λ c. not (begins b c)) chains)) ≡ true
      → list_any (begins d) chains ≡ true
  still_begins d chains e =
      elim (any_joined (begins d) (begins d) (go_on a tail) (λ c. not (begins b c)) ⊥ (λ c k f. inl (sym (begins_on d a tail c) ∙ f)) chains e) [
        | inl is ↦ is
        | inr x ↦ absurd x
      ]

  was_other : (d : ℕ) (chains : List (List ℕ)) → list_any (begins d) (map (go_on a tail) (filter (λ c. not (begins b c)) chains)) ≡ true → b ≡ d → ⊥
  was_other d chains e same =
      elim (any_joined (begins d) (λ _. false) (go_on a tail) (λ c. not (begins b c)) ⊥ (λ c k f.
      absurd (let x : begins d c ≡ false = subst (λ (i : ℕ). begins i c ≡ false) same (was_false (begins b c) k) in let y : begins d c ≡ true = sym (begins_on d a tail c) ∙ f in cc)) chains e) [
        | inl is ↦ absurd (none chains is)
        | inr x ↦ x
      ]
    where
      none : (cs : List (List ℕ)) → list_any (λ _. false) cs ≡ true → ⊥
      none [] e = cc
      none (c ∷ cs) e = none cs e

-- a chain that ends with c, and doesn't begin with d
abbrev ends_apart : ℕ → ℕ → List ℕ → Bool
ends_apart c d x = ends c x && not (begins d x)

pub on_none : (x : List ℕ) → x ++ [] ≡ x
on_none [] = refl
on_none (k ∷ x) = ap (λ (l : List ℕ). k ∷ l) (on_none x)

ends_case : (t : Bool) (c d : ℕ) (x tail : List ℕ) → (begins d tail ≡ true → ⊥) → ends_apart c d (cond t (x ++ tail) x) ≡ true → (ends_apart c d x ≡ true) ⊎ (ends_apart c d tail ≡ true)
ends_case false c d x tail apart e = inl e
ends_case true c d x [] apart e = inl (subst (λ (l : List ℕ). ends_apart c d l ≡ true) (on_none x) e)
ends_case true c d x (t ∷ tail) apart e =
    inr (both (ends c (t ∷ tail)) (not (begins d (t ∷ tail)))
    (sym (ends_on c t x tail) ∙ (and_parts (ends c (x ++ t ∷ tail)) (not (begins d (x ++ t ∷ tail))) e).0)
    (to_not (begins d (t ∷ tail)) apart))

still_ends : (a b c d : ℕ) (chains : List (List ℕ)) → (b ≡ d → ⊥)
    → list_any (ends_apart c d) (map (go_on a (chain_of b chains)) (filter (λ x. not (begins b x)) chains)) ≡ true → list_any (ends_apart c d) chains ≡ true
still_ends a b c d chains other e =
    elim (any_joined (ends_apart c d) (ends_apart c d) (go_on a (chain_of b chains)) (λ x. not (begins b x)) (ends_apart c d (chain_of b chains) ≡ true)
    (λ x k f. ends_case (ends a x) c d x (chain_of b chains) (λ g. other (begun b d chains g)) f) chains e) [
      | inl is ↦ is
      | inr is ↦ found (ends_apart c d) b chains refl is
    ]

-- what can be joined after a join could be joined before
pub could_join : (e f : Edge) (chains : List (List ℕ)) → can_join (join e chains) f ≡ true → can_join chains f ≡ true
could_join e f chains h =
    let one = and_parts (not (f.1 == 0)) (list_any (ends_apart f.0 f.1) (join e chains) && list_any (begins f.1) (join e chains)) h in
    let two = and_parts (list_any (ends_apart f.0 f.1) (join e chains)) (list_any (begins f.1) (join e chains)) one.1 in
    both (not (f.1 == 0)) (list_any (ends_apart f.0 f.1) chains && list_any (begins f.1) chains) one.0
    (both (list_any (ends_apart f.0 f.1) chains) (list_any (begins f.1) chains)
    (still_ends e.0 e.1 f.0 f.1 chains (was_other e.0 e.1 (chain_of e.1 chains) f.1 chains two.1) two.0)
    (still_begins e.0 e.1 (chain_of e.1 chains) f.1 chains two.1))

-- an edge that was taken can't be taken again
pub joined_once : (e : Edge) (chains : List (List ℕ)) → can_join (join e chains) e ≡ true → ⊥
joined_once e chains h =
    let one = and_parts (not (e.1 == 0)) (list_any (ends_apart e.0 e.1) (join e chains) && list_any (begins e.1) (join e chains)) h in
    let two = and_parts (list_any (ends_apart e.0 e.1) (join e chains)) (list_any (begins e.1) (join e chains)) one.1 in
    was_other e.0 e.1 (chain_of e.1 chains) e.1 chains two.1 refl

module _ (weight : Edge → ℕ) where
  -- the edges that are left to go through are in order, have a weight, and each that can be taken is among them
  record Left (edges : List Edge) (chains : List (List ℕ)) : Type 0 where
    pub rises : Rises (Precedes weight) edges
    pub heavy : (e : Edge) → IsAmong edges e → 0 < weight e
    pub all : (e : Edge) → IsOpen weight chains e → IsAmong edges e

  no_more : (e : Edge) (edges : List Edge) (chains after : List (List ℕ)) → ((f : Edge) → IsOpen weight after f → IsOpen weight chains f)
      → (can_join after e ≡ true → ⊥) → Left (e ∷ edges) chains → Left edges after
  no_more e edges chains after back gone l = record {
    rises = l.rises.1;
    heavy = λ f h. l.heavy f (inr h);
    all = λ f open_now. rest f open_now (l.all f (back f open_now));
  } where
    rest : (f : Edge) → IsOpen weight after f → IsAmong (e ∷ edges) f → IsAmong edges f
    rest f o (inl same) = absurd (gone (subst (λ (g : Edge). can_join after g ≡ true) (sym same) o.1))
    rest f o (inr h) = h

  is_next : (e : Edge) (edges : List Edge) (chains : List (List ℕ)) → can_join chains e ≡ true → Left (e ∷ edges) chains → IsNext weight chains e
  is_next e edges chains can l = ((l.heavy e (inl refl), can), λ f o. which f (l.all f o))
    where
      which : (f : Edge) → IsAmong (e ∷ edges) f → (e ≡ f) ⊎ Precedes weight e f
      which f (inl same) = inl same
      which f (inr h) = inr (of_each (Precedes weight e) edges f l.rises.0 h)

  passed : (edges : List Edge) (chains : List (List ℕ)) → Left edges chains → (taken : List Edge) × Joins weight chains taken (pass edges chains)
  passed [] chains l = ([], (refl, l.all))
  passed (e ∷ edges) chains l = turn (can_join chains e) refl (passed edges)
    where
      turn : (t : Bool) → can_join chains e ≡ t → ((cs : List (List ℕ)) → Left edges cs → (taken : List Edge) × Joins weight cs taken (pass edges cs))
          → (taken : List Edge) × Joins weight chains taken (pass edges (cond t (join e chains) chains))
      turn true can rest =
          let more = rest (join e chains) (no_more e edges chains (join e chains) (λ f o. (o.0, could_join e f chains o.1)) (joined_once e chains) l) in
          (e ∷ more.0, (is_next e edges chains can l, more.1))
      turn false can rest = rest chains (no_more e edges chains chains (λ f o. o) (λ is. cc) l)

  -- one pass over the edges in their order does what the rule says
  pub pass_is : (edges : List Edge) (chains : List (List ℕ)) → Rises (Precedes weight) edges → ((e : Edge) → IsAmong edges e ↔ (0 < weight e))
      → (taken : List Edge) × Joins weight chains taken (pass edges chains)
  pass_is edges chains rises among = passed edges chains (record { rises = rises; heavy = λ e h. (among e).0 h; all = λ e o. (among e).1 o.0 })

  not_both : (e f : Edge) → Precedes weight e f → Precedes weight f e → ⊥
  not_both e f (inl a) (inl b) = omega (arith, a, b)
  not_both e f (inl a) (inr b) = omega (arith, a, b.0)
  not_both e f (inr a) (inl b) = omega (arith, a.0, b)
  not_both e f (inr a) (inr b) = less a.1 b.1
    where
      less : (e.0 < f.0) ⊎ ((e.0 ≡ f.0) × (e.1 < f.1)) → (f.0 < e.0) ⊎ ((f.0 ≡ e.0) × (f.1 < e.1)) → ⊥
      less (inl a) (inl b) = omega (arith, a, b)
      less (inl a) (inr b) = omega (arith, a, b.0)
      less (inr a) (inl b) = omega (arith, a.0, b)
      less (inr a) (inr b) = omega (arith, a.1, b.1)

  same_next : (e f : Edge) → (e ≡ f) ⊎ Precedes weight e f → (f ≡ e) ⊎ Precedes weight f e → e ≡ f
  same_next e f (inl a) h = a
  same_next e f (inr a) (inl b) = sym b
  same_next e f (inr a) (inr b) = absurd (not_both e f a b)

  -- the rule leads to one answer
  pub joins_once : (taken others : List Edge) (chains ones twos : List (List ℕ)) → Joins weight chains taken ones → Joins weight chains others twos → (taken ≡ others) × (ones ≡ twos)
  joins_once [] [] chains ones twos g h = (refl, sym g.0 ∙ h.0)
  joins_once [] (f ∷ others) chains ones twos g h = absurd (g.1 f h.0.0)
  joins_once (e ∷ taken) [] chains ones twos g h = absurd (h.1 e g.0.0)
  joins_once (e ∷ taken) (f ∷ others) chains ones twos g h =
      let same : e ≡ f = same_next e f (g.0.1 f h.0.0) (h.0.1 e g.0.0) in
      let rest = joins_once taken others (join e chains) ones twos g.1 (subst (λ (k : Edge). Joins weight (join k chains) others twos) (sym same) h.1) in
      (λ i. same i ∷ rest.0 i, rest.1)
