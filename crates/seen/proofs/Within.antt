-- Live layouts lie in the region.
use Rattle.std.proofs.Common.{◌≡◌, ℕ, ◌+◌, ◌*◌, ◌-◌, ◌^◌, ◌<◌, ◌≤◌, true, List, [], ◌∷◌, length, subst, sym, arith}
use Rattle.std.specs.Prelude.{All}
use Rattle.std.proofs.lemmas.List.Elements.{All-cons, All-nil, All-head, All-tail}
use Rattle.std.proofs.lemmas.Bool.Decides.{nat_tests}
use Rattle.layout.specs.Points.{in_range}
use Rattle.oc_base.specs.declared.range.Range.{Range}
use Rattle.image.specs.declared.ranges.TextRange.{TextRange}
use Rattle.image.specs.Picture.{Picture, IsKept}
use Rattle.layout.specs.Laid.{Laid}
use Rattle.layout.specs.Alone.{InRegion}
use Rattle.sched_log.specs.declared.facts.LayoutFact.{LayoutFact}
use Rattle.world.specs.Told.{layout_facts}
use Rattle.world.specs.Worlds.{IsSound}
use Rattle.seen.specs.Moved.{IsWithin}

split : (r : Range) (a : ℕ) → in_range r a ≡ true → (r.from ≤ a) × (a < r.to)
split r a h = (grind (arith, nat_tests), grind (arith, nat_tests))

-- the last word is in the region, so the end is low
ends_low : (p : Picture) (base n : ℕ) → IsKept p → 0 < n → InRegion p base n → base + 4 * n < 2 ^ 32
ends_low p base n kept some within =
    let last = within (n - 1) (omega (arith, some)) in
    let inside = split p.region (base + 4 * (n - 1)) last in
    let high = (kept.region.free (base + 4 * (n - 1)) inside.0 inside.1).high in
    omega (arith, some, high)

each_within : (p : Picture) (numbers : List ℕ) (lives : List Laid) → IsKept p → All (λ l. 0 < length l.words) lives → All (λ l. InRegion p l.base (length l.words)) lives → All IsWithin (layout_facts numbers lives)
each_within p (n ∷ ns) (l ∷ ls) kept some within =
    All-cons IsWithin (record { number = n; base = l.base; words = length l.words }) (layout_facts ns ls) (ends_low p l.base (length l.words) kept (All-head (λ (l : Laid). 0 < length l.words) l ls some) (All-head (λ (l : Laid). InRegion p l.base (length l.words)) l ls within))
    (each_within p ns ls kept (All-tail (λ (l : Laid). 0 < length l.words) l ls some) (All-tail (λ (l : Laid). InRegion p l.base (length l.words)) l ls within))
each_within p [] lives kept some within = All-nil IsWithin
each_within p (n ∷ ns) [] kept some within = All-nil IsWithin

pub all_within : (p : Picture) (text : List TextRange) (lives : List Laid) (numbers : List ℕ) (free : List Range) (facts : List LayoutFact) → IsSound p text lives numbers free → facts ≡ layout_facts numbers lives → All IsWithin facts
all_within p text lives numbers free facts sound is = subst (All IsWithin) (sym is) (each_within p numbers lives sound.kept sound.some sound.within)
