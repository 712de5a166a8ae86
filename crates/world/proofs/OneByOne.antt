-- Layouts are given up one by one, the last first.
use Rattle.std.proofs.Common.{◌≡◌, ℕ, suc, ◌-◌, ◌<◌, ◌≤◌, List, [], ◌∷◌, length, get_or, drop, drop-cons, refl, sym, ap, ◌∙◌, subst, arith}
use Rattle.std.specs.Prelude.{All, Option, Some, None, slice_get}
use Rattle.std.specs.List.{remove}
use Rattle.std.proofs.lemmas.List.Elements.{All-head, All-tail, All-drop}
use Rattle.std.proofs.lemmas.Option.{slice_get-get_or}
use Rattle.oc_base.specs.declared.range.Range.{Range}
use Rattle.layout.specs.Laid.{Laid}
use Rattle.world.specs.Retiring.{without, freed, given_back, AreSpread}
use Rattle.world.proofs.LeftOver.{Climbs, climbs_drop, is_there, read_before, lengths_without}
use Rattle.world.proofs.Spread.{spread_again}

none_there : (xs : List Laid) (k : ℕ) → k < length xs → slice_get xs k ≡ None → ⊥
none_there [] k lt f = omega (arith, lt)
none_there (x ∷ xs) k lt f = let d = slice_get-get_or (x ∷ xs) k x lt in absurd (cc)

module _ (r : Range) (lives : List Laid) (free : List Range) where
  pub spread_left : (gone : List ℕ) → Climbs gone → All (λ k. k < length lives) gone → AreSpread r lives free → AreSpread r (without gone lives) (freed gone lives free)
  spread_left [] c w s = s
  spread_left (k ∷ ks) c w s = by_layout (slice_get lives k) refl (spread_left ks c.1 (All-tail (λ k. k < length lives) k ks w) s)
    where
      here : k < length lives
      here = All-head (λ k. k < length lives) k ks w

      by_layout : (o : Option Laid) → slice_get lives k ≡ o → AreSpread r (without ks lives) (freed ks lives free) → AreSpread r (without (k ∷ ks) lives) (freed (k ∷ ks) lives free)
      by_layout None e rest = absurd (none_there lives k here e)
      by_layout (Some l) e rest =
          subst (λ (o : Option Laid). AreSpread r (without (k ∷ ks) lives) (given_back o (freed ks lives free))) (sym e)
          (spread_again r (without ks lives) (freed ks lives free) k l (read_before k ks lives l c w e) rest)

  -- those from place i of the list on have been given up, and the one before them comes next
  module _ (gone : List ℕ) (climbing : Climbs gone) (short : All (λ k. k < length lives) gone) (i d : ℕ) (some : 0 < i) (within : i ≤ length gone) where
    next : drop (i - 1) gone ≡ get_or gone (i - 1) d ∷ drop i gone
    next =
        let here : suc (i - 1) ≡ i = omega (arith, some) in
        drop-cons gone (i - 1) d (omega (arith, some, within)) ∙ ap (λ m. get_or gone (i - 1) d ∷ drop m gone) here

    all_climb : Climbs (get_or gone (i - 1) d ∷ drop i gone)
    all_climb = subst Climbs next (climbs_drop (i - 1) gone climbing)

    all_short : All (λ k. k < length lives) (get_or gone (i - 1) d ∷ drop i gone)
    all_short = subst (All (λ k. k < length lives)) next (All-drop (λ k. k < length lives) (i - 1) gone short)

    rest_short : All (λ k. k < length lives) (drop i gone)
    rest_short = All-tail (λ k. k < length lives) (get_or gone (i - 1) d) (drop i gone) all_short

    pub next_there : get_or gone (i - 1) d < length (without (drop i gone) lives)
    next_there = is_there (get_or gone (i - 1) d) (drop i gone) lives all_climb all_short

    pub next_spread : AreSpread r lives free → AreSpread r (without (drop i gone) lives) (freed (drop i gone) lives free)
    next_spread s = spread_left (drop i gone) all_climb.1 rest_short s

    pub next_length : {Y : Type 0} (ys : List Y) → length ys ≡ length lives → length (without (drop i gone) ys) ≡ length (without (drop i gone) lives)
    next_length ys e = sym (lengths_without (drop i gone) lives ys all_climb.1 rest_short (sym e))

    pub next_without : {Y : Type 0} (ys : List Y) → remove (without (drop i gone) ys) (get_or gone (i - 1) d) ≡ without (drop (i - 1) gone) ys
    next_without ys = ap (λ (ks : List ℕ). without ks ys) (sym next)

    pub next_freed : given_back (slice_get (without (drop i gone) lives) (get_or gone (i - 1) d)) (freed (drop i gone) lives free) ≡ freed (drop (i - 1) gone) lives free
    next_freed =
        ap (λ (o : Option Laid). given_back o (freed (drop i gone) lives free)) (same_read (slice_get lives (get_or gone (i - 1) d)) refl)
        ∙ ap (λ (ks : List ℕ). freed ks lives free) (sym next)
      where
        same_read : (o : Option Laid) → slice_get lives (get_or gone (i - 1) d) ≡ o → slice_get (without (drop i gone) lives) (get_or gone (i - 1) d) ≡ slice_get lives (get_or gone (i - 1) d)
        same_read None e = absurd (none_there lives (get_or gone (i - 1) d) (All-head (λ k. k < length lives) (get_or gone (i - 1) d) (drop i gone) all_short) e)
        same_read (Some l) e = read_before (get_or gone (i - 1) d) (drop i gone) lives l all_climb all_short e ∙ sym e
