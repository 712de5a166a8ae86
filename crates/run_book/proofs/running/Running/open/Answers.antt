use Rattle.std.proofs.Common.{ap, ◌∙◌, subst}
use Rattle.image.specs.Picture.{IsKept}
use Rattle.world.specs.Worlds.{Replaced}
use Rattle.run_book.proofs.Opened.{begun_at, opened_book}
use Rattle.run_book.proofs.running.Running.open.Goals as goal

pub returns-clause-book : goal.returns-clause-book
returns-clause-book c t fair whole at workers every limit =
    opened_book t _ fair whole (subst (λ (x : Replaced). IsKept x.image) at c.kept.ensures.code.kept)
    (c.in_ok-recorder.ensures.is ∙ ap begun_at at)
    workers every limit c.in_ok-last.ensures
