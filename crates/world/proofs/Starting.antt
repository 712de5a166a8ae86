-- A world before its first step.
use Rattle.std.proofs.Common.{◌≡◌, ℕ, ◌%◌, Bool, true, false, List, [], ◌∷◌, refl, ap, inl, arith}
use Rattle.std.specs.Prelude.{Some, nat_le, nat_lt, ◌&&◌, ◌||◌, All, if◌then◌else◌}
use Rattle.std.proofs.lemmas.Bool.{ltb-true}
use Rattle.std.proofs.lemmas.Bool.Decides.{nat_tests}
use Rattle.std.proofs.lemmas.List.Elements.{All-nil, All-cons}
use Rattle.oc_base.specs.declared.range.Range.{Range}
use Rattle.image.specs.declared.ranges.TextRange.{TextRange}
use Rattle.image.specs.Picture.{Picture, IsKept}
use Rattle.std.specs.Option.{option_map}
use Rattle.layout.specs.Laid.{Laid}
use Rattle.layout.specs.declared.point.Point.TheVariants.{Start}
use Rattle.layout.specs.Points.{in_range, here_word, here_point, live_at}
use Rattle.image.specs.Texts.{word_at}
use Rattle.machine.specs.Start.{start_of}
use Rattle.region.specs.Free.{Rises, is_free, range, piece}
use Rattle.sim_laws.proofs.CodeFacts.{code_is}
use Rattle.sim_laws.proofs.Start.{renders_itself, start_itself}
use Rattle.world.specs.Worlds.{code_in, code_of, IsSound, Related, started}

rises_piece : (from to : ℕ) (b : Bool) → nat_lt from to ≡ b → Rises from to (if b then range from to ∷ [] else [])
rises_piece from to false e = tt
rises_piece from to true e = (omega arith, ltb-true from to e, omega arith, tt)

whole_piece : (from to : ℕ) (b : Bool) → from % 4096 ≡ 0 → All (λ (r : Range). r.from % 4 ≡ 0) (if b then range from to ∷ [] else [])
whole_piece from to false e = All-nil (λ (r : Range). r.from % 4 ≡ 0)
whole_piece from to true e = All-cons (λ (r : Range). r.from % 4 ≡ 0) (range from to) [] (omega (arith, e)) (All-nil (λ (r : Range). r.from % 4 ≡ 0))

-- a range that has no address covers none
rest_piece : (from to a : ℕ) (b : Bool) → nat_lt from to ≡ b → is_free (if b then range from to ∷ [] else []) a ≡ ((nat_le from a && nat_lt a to) && true)
rest_piece from to a true e = by_test (nat_le from a && nat_lt a to)
  where
    by_test : (t : Bool) → (t || false) ≡ (t && true)
    by_test true = refl
    by_test false = refl
rest_piece from to a false e = none (nat_le from a) (nat_lt a to) refl refl
  where
    none : (s t : Bool) → nat_le from a ≡ s → nat_lt a to ≡ t → false ≡ ((s && t) && true)
    none true true f g = absurd (grind (arith, nat_tests, e, f, g))
    none true false f g = refl
    none false t f g = refl

-- a Start of the text alone stands at its own place
unchanged : (p : Picture) (a x : ℕ) → (code_in p p.texts []).point a ≡ Some (Start x) → (code_in p p.texts []).word a ≡ word_at p.texts x
unfolding live_at
unchanged p a x e = by_test (in_range p.region a) e
  where
    by_test : (b : Bool) → (if b then option_map here_point (live_at [] a) else Some (Start a)) ≡ Some (Start x) → (if b then option_map here_word (live_at [] a) else word_at p.texts a) ≡ word_at p.texts x
    by_test true e = absurd (cc)
    by_test false e = ap (word_at p.texts) (let same : a ≡ x = cc in same)

pub start_sound : (p : Picture) → IsKept p → IsSound p p.texts [] [] (piece p.region.from p.region.to)
start_sound p k = record {
  kept = k;
  placed = record {
    text = refl;
    laid = λ i d lt. absurd (omega (arith, lt));
    calls = λ i d lt. absurd (omega (arith, lt));
    renders = renders_itself p k;
  };
  hops = λ i d lt. absurd (omega (arith, lt));
  aims = record { sites = λ a x s e f. inl (unchanged p a x e); seconds = λ a x s e f. inl (unchanged p a x e) };
  some = λ i d lt. absurd (omega (arith, lt));
  within = λ i d lt. absurd (omega (arith, lt));
  apart = λ i j d lt within. absurd (omega (arith, within));
  numbered = refl;
  rises = rises_piece p.region.from p.region.to (nat_lt p.region.from p.region.to) refl;
  whole = whole_piece p.region.from p.region.to (nat_lt p.region.from p.region.to) k.region.pages.first;
  rest = λ a. rest_piece p.region.from p.region.to a (nat_lt p.region.from p.region.to) refl;
}

pub started_related : (p : Picture) (ring : ℕ) (input : List ℕ) → IsKept p → Related (started p ring input) (start_of p input)
started_related p ring input k = record {
  states = start_itself p k (code_of (started p ring input)) (code_is p (word_at p.texts) [] (record { laid = λ i d lt. absurd (omega (arith, lt)); hops = λ i d lt. absurd (omega (arith, lt)) })) input;
  sound = start_sound p k;
}

pub start_parts : (p : Picture) (text : List TextRange) (lives : List Laid) (numbers : List ℕ) (r : Range) (free : List Range) → IsKept p → text ≡ p.texts → lives ≡ [] → numbers ≡ []
    → r ≡ p.region → free ≡ piece r.from r.to → IsSound p text lives numbers free
start_parts p text lives numbers r free k e f g i j = rw (e, f, g, j, i) (start_sound p k)
