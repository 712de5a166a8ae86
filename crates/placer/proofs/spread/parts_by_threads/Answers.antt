use Rattle.std.proofs.Common.{map, subst, sym, ◌∙◌}
use Rattle.std.proofs.lemmas.Result.{IfOk-weaker}
use Rattle.branch_ring.specs.Profiles.{counted}
use Rattle.placer.specs.Planned.{AreParts}
use Rattle.placer.proofs.Chunks.{all_chunks}
use Rattle.placer.proofs.spread.parts_by_threads.Goals as goal

pub returns : goal.returns
returns g c =
    let p = c.args.index.now.image.now in
    let funcs = c.args.funcs.now in
    let count = sym c.in_ok-answers.answers.ok.0 ∙ c.in_ok-answers.ensures.len in
    IfOk-weaker c.joined.result _ _ (λ parts is.
    subst (λ profile. AreParts p profile funcs parts.items) c.counts-rows.ensures
    (all_chunks p (map counted c.counts-rows.result.now) c.chunk_size.result funcs c.in_ok-answers.answers.items parts.items c.chunk_size.ensures.some count
    (λ n d l. let given = (c.in_ok-answers.ensures.each n d l).1 in (given.argument.now, given.argument_is.value, given.call)) is)) c.joined.ensures
