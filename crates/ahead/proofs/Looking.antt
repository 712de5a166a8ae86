-- An address with a word stands for something.
use Rattle.std.proofs.Common.{◌≡◌, ℕ, Bool, true, false, refl, sym, ap, ◌∙◌}
use Rattle.std.specs.Prelude.{Option, Some, None, if◌then◌else◌}
use Rattle.std.specs.Option.{option_map}
use Rattle.finite.proofs.Finding.{none_by_map}
use Rattle.image.specs.Texts.{word_at}
use Rattle.layout.specs.declared.point.Point.TheVariants.{Start}
use Rattle.layout.specs.Points.{in_range, live_at, here_word, here_point}
use Rattle.world.specs.Adopting.{Shown, code_shown}

pub no_point_no_word : (s : Shown) (a : ℕ) → (code_shown s).point a ≡ None → (code_shown s).word a ≡ None
no_point_no_word s a e = by_test (in_range s.image.region a) e
  where
    by_test : (b : Bool) → (if b then option_map here_point (live_at s.lives a) else Some (Start a)) ≡ None
        → (if b then option_map here_word (live_at s.lives a) else word_at s.text a) ≡ None
    by_test true e = ap (option_map here_word) (none_by_map here_point (live_at s.lives a) e)
    by_test false e = absurd (cc)
