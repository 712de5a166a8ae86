use Rattle.std.proofs.Common.{length, arith}
use Rattle.place_funcs.specs.Edges.{edge, count}
use Rattle.placer.specs.Chosen.{is_chosen}
use Rattle.placer.proofs.Chosen.{all_there, all_readable, filter_rises, filter_below}
use Rattle.placer.proofs.order.order.Goals as goal

pub closest-requires-clause-rise : goal.closest-requires-clause-rise
closest-requires-clause-rise c =
    rw (c.deref.ensures.value, c.in_ok-funcs.ensures) (filter_rises (is_chosen c.args.index.now.image.now c.args.profile.now) 0 (length c.args.index.now.image.now.funcs))

pub closest-requires-clause-there : goal.closest-requires-clause-there
closest-requires-clause-there c =
    rw (c.deref.ensures.value, c.in_ok-funcs.ensures)
    (filter_below (is_chosen c.args.index.now.image.now c.args.profile.now) (length c.args.index.now.image.now.funcs) 0 (length c.args.index.now.image.now.funcs) (omega arith))

pub returns-clause-closest : goal.returns-clause-closest
returns-clause-closest c = rw (c.deref.ensures.value, c.in_ok-funcs.ensures) at c.in_ok-order.ensures

pub returns-clause-there : goal.returns-clause-there
returns-clause-there c =
    let p = c.args.index.now.image.now in
    let profile = c.args.profile.now in
    all_there (edge p.funcs profile) (count p.funcs profile) p profile c.in_ok-order.order.items (rw (c.deref.ensures.value, c.in_ok-funcs.ensures) at c.in_ok-order.ensures)

pub returns-clause-readable : goal.returns-clause-readable
returns-clause-readable c =
    let p = c.args.index.now.image.now in
    let profile = c.args.profile.now in
    all_readable (edge p.funcs profile) (count p.funcs profile) p profile c.in_ok-order.order.items (rw (c.deref.ensures.value, c.in_ok-funcs.ensures) at c.in_ok-order.ensures)
