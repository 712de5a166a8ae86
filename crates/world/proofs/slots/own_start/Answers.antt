use Rattle.std.proofs.Common.{sym, ◌∙◌}
use Rattle.world.specs.Worlds.{code_in}
use Rattle.world.proofs.LinkAt.{origin_as, other_start, own_start}
use Rattle.world.proofs.slots.own_start.Goals as goal

pub returns-then-origin-start : goal.returns-then-origin-start
returns-then-origin-start c =
    λ text m is whole. (
    let p = c.args.image.now in
    let lives = c.args.points.now.lives.now.layouts.items in
    let same = origin_as p text lives c.args.points.now.region c.in_ok-number.number c.requires.region in
    other_start p (code_in p text lives) m c.args.s.now c.in_ok-number.number c.in_ok-start.start (c.in_ok-number.ensures m is whole) (sym c.in_ok-start.ensures)
    (λ e. c.if-origin-start.true (c.origin.ensures ∙ same ∙ e)))

pub returns : goal.returns
returns c =
    λ text m is whole. (
    let p = c.args.image.now in
    let lives = c.args.points.now.lives.now.layouts.items in
    let same = origin_as p text lives c.args.points.now.region c.in_ok-number.number c.requires.region in
    own_start p (code_in p text lives) m c.args.s.now c.in_ok-number.number c.in_ok-start.start (c.in_ok-number.ensures m is whole) (sym c.in_ok-start.ensures)
    (sym same ∙ sym c.origin.ensures ∙ c.if-origin-start.false))
