use Rattle.std.proofs.Common.{inl}
use Rattle.live.specs.Decision.{ran}
use Rattle.live.proofs.Decided.{refused_program}
use Rattle.live.proofs.run.run.Goals as goal

pub returns-in-Err : goal.returns-in-Err
returns-in-Err g c = refused_program _ c.in-Err.ended c.in-Err.ensures.refusal

pub returns : goal.returns
returns g c = inl (ran c.in-Ok-run_image.life (record { image = c.in-Ok.image; built = c.in-Ok.ensures.image; lived = c.in-Ok-run_image.ensures }))
