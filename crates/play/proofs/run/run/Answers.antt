use Rattle.play.proofs.Decided.{refused_program, run_program}
use Rattle.play.proofs.run.run.Goals as goal

pub returns-in-Err : goal.returns-in-Err
returns-in-Err c = refused_program _ c.in-Err.ended c.in-Err.ensures.refusal

pub returns : goal.returns
returns c = run_program _ c.in-Ok.image c.run_image.result c.in-Ok.ensures.image c.run_image.ensures
