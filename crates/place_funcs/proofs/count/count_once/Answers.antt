use Rattle.std.proofs.Common.{arith}
use Rattle.place_funcs.specs.Counts.{has_pair}
use Rattle.place_funcs.proofs.Tallied.{now_seen, one_more, low_sum, not_yet}
use Rattle.place_funcs.proofs.count.count_once.Goals as goal

pub overflow_add-tally : goal.overflow_add-tally
overflow_add-tally c =
    let old = c.args.tally.now.seen in
    let new = c.insert.new.self in
    let row = c.args.row in
    let ps = c.args.profile.now in
    let seen = now_seen old new row c.in_ok-insert.ensures.updates.0 in
    let s = one_more old new row ps c.requires.kept c.requires.there seen (not_yet (has_pair old row) c.in_ok-insert.field-0 c.in_ok-insert.ensures.added c.if-branch.true) in
    let l = low_sum new ps c.requires.kept in
    let e = c.requires.sum in
    omega (arith, s, l, e)

pub returns-then-branch-clause-sum : goal.returns-then-branch-clause-sum
returns-then-branch-clause-sum c =
    let old = c.args.tally.now.seen in
    let new = c.insert.new.self in
    let row = c.args.row in
    let ps = c.args.profile.now in
    let seen = now_seen old new row c.in_ok-insert.ensures.updates.0 in
    let s = one_more old new row ps c.requires.kept c.requires.there seen (not_yet (has_pair old row) c.in_ok-insert.field-0 c.in_ok-insert.ensures.added c.if-branch.true) in
    let e = c.requires.sum in
    omega (arith, s, e)

pub returns-then-branch-clause-seen : goal.returns-then-branch-clause-seen
returns-then-branch-clause-seen c = now_seen c.args.tally.now.seen c.insert.new.self c.args.row c.in_ok-insert.ensures.updates.0
