use Rattle.std.proofs.Common.{◌∙◌}
use Rattle.look.proofs.Decided.{refused_program, shown_image}
use Rattle.look.proofs.show.show.Goals as goal

pub returns-in-Err : goal.returns-in-Err
returns-in-Err c = refused_program _ c.in-Err.refusal c.in-Err.ensures.refusal

pub returns : goal.returns
returns c = shown_image _ c.in-Ok.opened.image _ c.show_image.result c.in-Ok.ensures.image (c.deref.ensures.value ∙ c.in-Ok.ensures.names) c.show_image.ensures
