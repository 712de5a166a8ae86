-- A retirement of a world has one result.
use Rattle.std.proofs.Common.{◌≡◌, sym, ap, ◌∙◌}
use Rattle.std.proofs.lemmas.Bool.{false≢true}
use Rattle.retire.proofs.LeastSet.{one_list}
use Rattle.world.specs.Worlds.{Replaced}
use Rattle.world.specs.Retiring.{without, freed, Retires, over, done}

pub one_retirement : (w u v : Replaced) → Retires w u → Retires w v → u ≡ v
one_retirement w u v (over e is) (over f is') = is ∙ sym is'
one_retirement w u v (over e is) (done n f is') = absurd (false≢true (sym f ∙ e))
one_retirement w u v (done n e is) (over f is') = absurd (false≢true (sym e ∙ f))
one_retirement w u v (done n e is) (done m f is') =
    let same : is.gone ≡ is'.gone = one_list w.lives _ is.gone is'.gone is.are is'.are in
    is.is
    ∙ ap (λ gone. record w { lives = without gone w.lives; numbers = without gone w.numbers; free = freed gone w.lives w.free }) same
    ∙ sym is'.is
