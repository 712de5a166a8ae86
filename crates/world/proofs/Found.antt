-- The places of the live layouts, from call to call.
use Rattle.std.proofs.Common.{◌≡◌, ℕ, ◌+◌, ◌<◌, ◌≤◌, List, [], ◌∷◌, length, sym, subst, arith}
use Rattle.std.specs.Prelude.{All, AllPairs, Option, Some, None}
use Rattle.std.proofs.lemmas.List.{length-append}
use Rattle.std.proofs.lemmas.List.Edits.{length-remove}
use Rattle.std.proofs.lemmas.List.Elements.{All-tail}
use Rattle.layout.specs.declared.bases.Place.{Place}
use Rattle.layout.specs.Laid.{Laid}
use Rattle.layout.specs.Apart.{LieApart}
use Rattle.layout.specs.Bases.{ArePlaces}
use Rattle.layout.proofs.Apart.{are_apart}
use Rattle.patcher.specs.Patched.{joined}
use Rattle.world.specs.declared.points.Lives.{Lives}
use Rattle.world.specs.Finding.{AreFound}
use Rattle.world.specs.Retiring.{without}
use Rattle.world.proofs.LeftOver.{Climbs, is_there}

pub found : (lives : Lives) → AllPairs LieApart lives.layouts.items → ArePlaces lives.layouts.items lives.places.items → AreFound lives
found lives apart places = record { apart = are_apart lives.layouts.items apart; places = places }

pub no_places : (ls : List Laid) (qs : List Place) → ls ≡ [] → qs ≡ [] → ArePlaces ls qs
no_places ls qs e f = subst (λ (xs : List Laid). ArePlaces xs qs) (sym e) (subst (ArePlaces []) (sym f) none)
  where
    none : ArePlaces [] []
    none = record {
      rises = λ i j d le lt. absurd (omega (arith, lt));
      each = λ k l at. absurd (cc);
      only = λ i d lt. absurd (omega (arith, lt));
    }

pub no_room : (ls : List Laid) (n : ℕ) → ls ≡ [] → length ls ≤ n
no_room ls n e = rw e (omega arith)

pub same_places : (ls ms : List Laid) (qs rs : List Place) → ms ≡ ls → rs ≡ qs → ArePlaces ls qs → ArePlaces ms rs
same_places ls ms qs rs e f a = subst (λ (xs : List Laid). ArePlaces xs rs) (sym e) (subst (ArePlaces ls) (sym f) a)

pub joined_long : (ls : List Laid) (new : Option Laid) → length (joined ls new) ≤ length ls + 1
joined_long ls None = omega arith
joined_long ls (Some l) = let e = length-append ls (l ∷ []) in omega (arith, e)

pub shorter : (ks : List ℕ) (xs : List Laid) → Climbs ks → All (λ k. k < length xs) ks → length (without ks xs) ≤ length xs
shorter [] xs c w = omega arith
shorter (k ∷ ks) xs c w =
    let rest = shorter ks xs c.1 (All-tail (λ k. k < length xs) k ks w) in
    let there = is_there k ks xs c w in
    let one = length-remove (without ks xs) k there in
    omega (arith, rest, one)
