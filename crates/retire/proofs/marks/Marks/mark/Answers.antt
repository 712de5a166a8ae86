use Rattle.std.proofs.Common.{refl, sym, ◌∙◌, false}
use Rattle.std.proofs.lemmas.List.{get_or_read}
use Rattle.retire.proofs.Marking.{newly}
use Rattle.retire.proofs.marks.Marks.mark.Goals as goal

pub returns : goal.returns
returns c =
    newly c.args.self.now _ c.args.k c.requires
    (sym (get_or_read c.args.self.now.marked.items c.args.k c.index.result.now c.requires c.index.ensures false) ∙ c.if-index.false) refl c.in_ok-push.ensures.items
