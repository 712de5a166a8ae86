-- A snapshot of a world has one result.
use Rattle.std.proofs.Common.{◌≡◌, sym, ap, ◌∙◌}
use Rattle.std.proofs.lemmas.Bool.{false≢true}
use Rattle.branch_ring.specs.Profiles.{all_pairs}
use Rattle.branch_ring.proofs.Ascending.{one_profile}
use Rattle.world.specs.Worlds.{Replaced, more}
use Rattle.world.specs.Records.{Snaps, over, done}

pub one_snapshot : (w u v : Replaced) → Snaps w u → Snaps w v → u ≡ v
one_snapshot w u v (over e is) (over f is') = is ∙ sym is'
one_snapshot w u v (over e is) (done f is') = absurd (false≢true (sym f ∙ e))
one_snapshot w u v (done e is) (over f is') = absurd (false≢true (sym e ∙ f))
one_snapshot w u v (done e is) (done f is') =
    is.is
    ∙ ap (λ profile. record w { snapshot = profile; counts = record w.counts { snaps = more w.counts.snaps } }) (one_profile (all_pairs w.rings) is.profile is'.profile is.counts is'.counts)
    ∙ sym is'.is
