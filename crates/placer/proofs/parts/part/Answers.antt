use Rattle.std.proofs.Common.{map, sym, ◌∙◌}
use Rattle.branch_ring.specs.Profiles.{counted}
use Rattle.placer.proofs.Cut.{readable_blocks, part_chain}
use Rattle.placer.proofs.parts.part.Goals as goal

pub chain-requires : goal.chain-requires
chain-requires c =
    readable_blocks c.args.index.now.image.now c.args.f c.in-Some.blocks c.kept.ensures c.requires.there c.requires.readable
    (λ f found. c.sound_blocks.ensures.sound c.args.index.now.image.now c.args.f f c.kept.ensures found c.requires.readable) (sym c.in-Some.is ∙ c.in_ok-blocks.ensures)

pub returns-clause-order : goal.returns-clause-order
returns-clause-order c =
    rw (c.from_vec.ensures) (part_chain c.args.index.now.image.now c.args.f _ c.in-Some.blocks c.in_ok-own.own (map counted c.args.rows.now) c.in_ok-order.order.items c.requires.readable
    (λ f found. c.sound_blocks.ensures.sound c.args.index.now.image.now c.args.f f c.kept.ensures found c.requires.readable) (sym c.in-Some.is ∙ c.in_ok-blocks.ensures) c.function-func.ensures c.requires.kept.ascends c.in_ok-own.ensures
    c.in_ok-order.ensures.order)
