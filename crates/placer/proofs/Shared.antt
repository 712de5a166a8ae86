-- The order of a function's blocks is the same for the pairs of a profile that touch the function.
use Rattle.std.proofs.Common.{◌≡◌, ℕ, ◌<◌, ◌≤◌, Bool, true, false, List, [], ◌∷◌, length, refl, sym, ap, subst, ◌∙◌, ◌⊎◌, inl, inr, arith}
use Rattle.std.specs.Prelude.{◌&&◌, ◌||◌, All, AllPairs, Contains, Some, None, slice_get, nat_le, nat_lt, sum_by}
use Rattle.std.specs.List.{list_any}
use Rattle.std.proofs.lemmas.Bool.{and_from, and_parts, eqb-true, le-leb, leb-true, lt-ltb, ltb-true, or_left, or_right}
use Rattle.std.proofs.lemmas.List.Sums.{sum_by-cons}
use Rattle.std.proofs.lemmas.Option.{slice_get_cases}
use Rattle.finite.proofs.Searching.{tail_pairs}
use Rattle.image.specs.declared.ranges.Func.{Func}
use Rattle.image.specs.Aims.{is_inside}
use Rattle.blocks.specs.declared.run.Block.{Block}
use Rattle.branch_ring.specs.declared.counted.Counted.{Counted}
use Rattle.branch_ring.specs.Profiles.{Precedes}
use Rattle.branch_ring.proofs.Ascending.{in_head, in_none, in_tail, past_head, precedes_once, split_at}
use Rattle.place_blocks.specs.Edges.{Edge, holds, starts, leaves, enters, counted_if, count_of, weight}
use Rattle.place_blocks.specs.Chains.{Joins}
use Rattle.place_blocks.specs.Orders.{singles, heat, IsLaid, IsChain}
use Rattle.placer.specs.Shares.{touches, IsShare}

-- what counts for nothing, or is among others too, adds up alike
same_sum : (g : Counted → ℕ) (part profile : List Counted) → AllPairs Precedes part → AllPairs Precedes profile → ((c : Counted) → Contains part c → Contains profile c)
    → ((c : Counted) → Contains profile c → (g c ≡ 0) ⊎ Contains part c) → sum_by g part ≡ sum_by g profile
same_sum g [] [] up vp h k = refl
same_sum g (c ∷ cs) [] up vp h k = absurd (in_none c (h c (in_head c cs)))
same_sum g [] (d ∷ ds) up vp h k =
    let rest : sum_by g [] ≡ sum_by g ds = same_sum g [] ds up (tail_pairs Precedes d ds vp) (λ e i. absurd (in_none e i)) (λ e i. k e (in_tail d ds e i)) in
    let split = sum_by-cons g d ds in
    let here : g d ≡ 0 = elim (k d (in_head d ds)) [ inl e ↦ e | inr i ↦ absurd (in_none d i) ] in
    let none : sum_by g [] ≡ 0 = refl in
    omega arith
same_sum g (c ∷ cs) (d ∷ ds) up vp h k =
    elim (split_at d ds c (h c (in_head c cs))) [
      | inl same ↦ (
          let rest = same_sum g cs ds (tail_pairs Precedes c cs up) (tail_pairs Precedes d ds vp) (behind same) (still same) in
          let one : g c ≡ g d = ap g same in
          let left = sum_by-cons g c cs in
          let right = sum_by-cons g d ds in
          omega arith)
      | inr later ↦ (
          let rest = same_sum g (c ∷ cs) ds up (tail_pairs Precedes d ds vp) (all_later later) (λ e i. k e (in_tail d ds e i)) in
          let here : g d ≡ 0 = missing later in
          let right = sum_by-cons g d ds in
          omega arith)
    ]
  where
    behind : c ≡ d → (e : Counted) → Contains cs e → Contains ds e
    behind same e i =
        elim (split_at d ds e (h e (in_tail c cs e i))) [
          | inl at ↦ (let r = past_head Precedes precedes_once c cs e up i in let s : Precedes c c = subst (λ (z : Counted). Precedes c z) (at ∙ sym same) r in absurd (precedes_once c c s s))
          | inr there ↦ there
        ]

    still : c ≡ d → (e : Counted) → Contains ds e → (g e ≡ 0) ⊎ Contains cs e
    still same e i =
        elim (k e (in_tail d ds e i)) [
          | inl none ↦ inl none
          | inr there ↦ elim (split_at c cs e there) [
            | inl at ↦ (let r = past_head Precedes precedes_once d ds e vp i in let s : Precedes d d = subst (λ (z : Counted). Precedes d z) (at ∙ same) r in absurd (precedes_once d d s s))
            | inr past ↦ inr past
          ]
        ]

    after_not : Contains ds c → (e : Counted) → Contains (c ∷ cs) e → e ≡ d → ⊥
    after_not later e i at =
        elim (split_at c cs e i) [
          | inl first ↦ (let r = past_head Precedes precedes_once d ds c vp later in let s : Precedes d d = subst (λ (z : Counted). Precedes d z) (sym first ∙ at) r in precedes_once d d s s)
          | inr past ↦ (
              let r : Precedes c d = subst (λ (z : Counted). Precedes c z) at (past_head Precedes precedes_once c cs e up past) in
              precedes_once c d r (past_head Precedes precedes_once d ds c vp later))
        ]

    all_later : Contains ds c → (e : Counted) → Contains (c ∷ cs) e → Contains ds e
    all_later later e i =
        elim (split_at d ds e (h e i)) [
          | inl at ↦ absurd (after_not later e i at)
          | inr there ↦ there
        ]

    missing : Contains ds c → g d ≡ 0
    missing later =
        elim (k d (in_head d ds)) [
          | inl none ↦ none
          | inr there ↦ absurd (after_not later d there refl)
        ]

counts_alike : (f : Func) (part profile : List Counted) (test : Counted → Bool) → AllPairs Precedes profile → IsShare f profile part → ((c : Counted) → test c ≡ true → touches f c ≡ true)
    → count_of part test ≡ count_of profile test
counts_alike f part profile test up s told = same_sum (counted_if test) part profile s.kept.ascends up s.some (λ c h. by_test c h (test c) refl)
  where
    by_test : (c : Counted) → Contains profile c → (b : Bool) → test c ≡ b → (counted_if test c ≡ 0) ⊎ Contains part c
    by_test c h true e = inr (s.all c h (told c e))
    by_test c h false e = inl (rw e refl)

-- the blocks lie in the function
pub record AreInside (f : Func) (blocks : List Block) : Type 0 where
  pub low : All (λ b. f.from ≤ b.range.from) blocks
  pub high : All (λ b. b.range.to ≤ f.to) blocks
  pub filled : All (λ b. b.range.from < b.range.to) blocks

inside_is : (a : ℕ) (f : Func) → f.from ≤ a → a < f.to → is_inside a f ≡ true
inside_is a f l m = and_from (nat_le f.from a) (nat_lt a f.to) (le-leb f.from a l) (lt-ltb a f.to m)

module _ (f : Func) (blocks : List Block) (inside : AreInside f blocks) where
  held : (k at : ℕ) → holds (slice_get blocks k) at ≡ true → is_inside at f ≡ true
  held k at t =
      elim (slice_get_cases blocks k).1 [
        | inl (b, l, found, place) ↦ (
            let p : holds (Some b) at ≡ true = rw found at t in
            let parts = and_parts (nat_le b.range.from at) (nat_lt at b.range.to) p in
            let low = leb-true b.range.from at parts.0 in
            let high = ltb-true at b.range.to parts.1 in
            let first : f.from ≤ b.range.from = subst (λ (c : Block). f.from ≤ c.range.from) place (inside.low k b l) in
            let last : b.range.to ≤ f.to = subst (λ (c : Block). c.range.to ≤ f.to) place (inside.high k b l) in
            inside_is at f (omega arith) (omega arith))
        | inr (past, missing) ↦ absurd (let p : holds None at ≡ true = rw missing at t in cc)
      ]

  started : (k at : ℕ) → starts (slice_get blocks k) at ≡ true → is_inside at f ≡ true
  started k at t =
      elim (slice_get_cases blocks k).1 [
        | inl (b, l, found, place) ↦ (
            let p : starts (Some b) at ≡ true = rw found at t in
            let same = eqb-true b.range.from at p in
            let first : f.from ≤ b.range.from = subst (λ (c : Block). f.from ≤ c.range.from) place (inside.low k b l) in
            let last : b.range.to ≤ f.to = subst (λ (c : Block). c.range.to ≤ f.to) place (inside.high k b l) in
            let some : b.range.from < b.range.to = subst (λ (c : Block). c.range.from < c.range.to) place (inside.filled k b l) in
            inside_is at f (omega arith) (omega arith))
        | inr (past, missing) ↦ absurd (let p : starts None at ≡ true = rw missing at t in cc)
      ]

  left_touches : (k : ℕ) (c : Counted) → leaves blocks k c ≡ true → touches f c ≡ true
  left_touches k c t = or_left (is_inside c.from f) (is_inside c.to f) (held k c.from t)

  entered_touches : (k : ℕ) (c : Counted) → enters blocks k c ≡ true → touches f c ≡ true
  entered_touches k c t = or_right (is_inside c.from f) (is_inside c.to f) (started k c.to t)

  some_touches : (chain : List ℕ) (c : Counted) → list_any (λ b. leaves blocks b c) chain ≡ true → touches f c ≡ true
  some_touches [] c t = absurd cc
  some_touches (b ∷ chain) c t = by_test (leaves blocks b c) refl t (λ h. some_touches chain c h)
    where
      by_test : (v : Bool) → leaves blocks b c ≡ v → (v || list_any (λ d. leaves blocks d c) chain) ≡ true → (list_any (λ d. leaves blocks d c) chain ≡ true → touches f c ≡ true) → touches f c ≡ true
      by_test true e h ih = left_touches b c e
      by_test false e h ih = ih h

  module _ (part profile : List Counted) (up : AllPairs Precedes profile) (s : IsShare f profile part) where
    same_weight : (e : Edge) → weight blocks part e ≡ weight blocks profile e
    unfolding weight
    same_weight e =
        let one = counts_alike f part profile (λ p. leaves blocks e.0 p && enters blocks e.1 p) up s (λ c t. left_touches e.0 c (and_parts (leaves blocks e.0 c) (enters blocks e.1 c) t).0) in
        let two = counts_alike f part profile (enters blocks e.0) up s (entered_touches e.0) in
        rw (one, two) refl

    same_heat : (chain : List ℕ) → heat blocks part chain ≡ heat blocks profile chain
    unfolding heat
    same_heat chain = counts_alike f part profile (λ p. list_any (λ b. leaves blocks b p) chain) up s (some_touches chain)

    pub share_chain : (order : List ℕ) → IsChain blocks part order → IsChain blocks profile order
    share_chain order h =
        let weights : weight blocks part ≡ weight blocks profile = λ i. λ e. same_weight e i in
        let heats : heat blocks part ≡ heat blocks profile = λ i. λ c. same_heat c i in
        record {
          taken = h.taken;
          chains = h.chains;
          joins = subst (λ (w : Edge → ℕ). Joins w (singles (length blocks)) h.taken h.chains) weights h.joins;
          laid = subst (λ (t : List ℕ → ℕ). IsLaid t h.chains order) heats h.laid;
        }
