use Rattle.std.proofs.Common.{refl}
use Rattle.top_call.proofs.reading.fetch_input.Goals as goal

pub returns : goal.returns
returns g c = λ rest. record { cause = c.take_input.ensures.cause rest; left = c.take_input.ensures.left; rest = refl }
