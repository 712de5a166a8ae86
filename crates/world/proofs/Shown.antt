-- What is shown of a world's code keeps what a look-up needs.
use Rattle.std.proofs.Common.{◌≡◌, ℕ, List, sym, subst}
use Rattle.oc_base.specs.declared.range.Range.{Range}
use Rattle.image.specs.declared.ranges.TextRange.{TextRange}
use Rattle.image.specs.Picture.{Picture}
use Rattle.layout.specs.Laid.{Laid}
use Rattle.layout.proofs.Apart.{are_apart}
use Rattle.world.specs.Adopting.{IsShown}
use Rattle.world.specs.Worlds.{IsSound}

pub shown_by : (p q : Picture) (text : List TextRange) (lives : List Laid) (numbers : List ℕ) (free : List Range) → p ≡ q → IsSound q text lives numbers free
    → IsShown (record { image = p; text = text; lives = lives })
shown_by p q text lives numbers free e s =
    subst (λ (x : Picture). IsShown (record { image = x; text = text; lives = lives })) (sym e) (record { kept = s.kept; renders = s.placed.renders; apart = are_apart lives s.apart })
