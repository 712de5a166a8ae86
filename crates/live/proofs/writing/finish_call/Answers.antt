use Rattle.top_call.specs.Outside.{with_files}
use Rattle.live.proofs.Written.{refused_ends}
use Rattle.live.proofs.writing.finish_call.Goals as goal

pub returns-in-Ok : goal.returns-in-Ok
returns-in-Ok g c = λ rest. rw (c.in-Ok.is) (c.finish_life.ensures rest)

pub returns-in-Err : goal.returns-in-Err
returns-in-Err g c = λ rest. rw (c.in-Err.is, c.unlived.ensures) (refused_ends c.in-Err.ended _ _ c.finish.result (c.finish.ensures (with_files g.F.Files c.args.files.now rest)))
