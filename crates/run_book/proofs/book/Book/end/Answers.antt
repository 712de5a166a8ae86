use Rattle.std.proofs.Common.{◌+◌, sym, ap, ◌∙◌, subst, arith}
use Rattle.world.specs.Worlds.{Replaced}
use Rattle.run_book.specs.Booked.{Booked, IsBook}
use Rattle.run_book.specs.Told.{told, BeginsWith}
use Rattle.run_book.proofs.Growing.{from_now, book_from_now}
use Rattle.run_book.proofs.Runnings.{many_last}
use Rattle.run_book.proofs.book.Book.end.Goals as goal

pub invariant_of-self : goal.invariant_of-self
invariant_of-self g c = (c.count_stranger.ensures g.J.Run.terms c.self.inside.total.total c.self.invariant.0, c.self.invariant.1)

pub returns-then-not-is_away-clause-made : goal.returns-then-not-is_away-clause-made
returns-then-not-is_away-clause-made g c =
    let old = c.self.invariant.0 in
    let new = c.count_stranger.ensures g.J.Run.terms c.self.inside.total.total old in
    ap (λ n. c.args.mine.now.made + n) (sym (ap (λ (b : Booked). b.world.at.counts.real) c.self.view_is) ∙ sym old.sum ∙ new.sum)

pub returns-then-not-is_away-clause-grows : goal.returns-then-not-is_away-clause-grows
returns-then-not-is_away-clause-grows g c =
    let r = c.self.inside.run in
    let total = c.self.inside.total.total in
    subst (λ (b : Booked). BeginsWith (told c.count_stranger.new.self.recorder) (told b.world)) c.self.view_is
    (c.count_stranger.ensures (from_now g.J.Run.terms r) total (book_from_now g.J.Run.terms total r c.self.invariant.0)).run.begins

pub land-made-requires-clause-many : goal.land-made-requires-clause-many
land-made-requires-clause-many g c = many_last g.J.Run.terms c.self.inside.total.total c.self.inside.run c.self.invariant.0 c.if-self.false

pub plan_now-plan-requires : goal.plan_now-plan-requires
plan_now-plan-requires g c = (c.land-made.ensures g.J.Run.terms c.self.inside.total.total c.self.invariant.0).run.image ∙ sym c.self.invariant.1

pub count-requires-clause-room : goal.count-requires-clause-room
count-requires-clause-room g c =
    let total = c.self.inside.total.total in
    let settled = c.settle.ensures g.J.Run.terms (total + c.land-made.result) (c.land-made.ensures g.J.Run.terms total c.self.invariant.0) in
    let sum = settled.sum in
    let world = ap (λ (w : Replaced). w.counts.real) c.world-2.ensures in
    let real = c.real-real.ensures in
    let range = c.real-real.type_inv in
    omega (arith, sum, world, real, range)

pub invariant_of-self-2 : goal.invariant_of-self-2
invariant_of-self-2 g c =
    let total = c.self.inside.total.total in
    let settled = c.settle.ensures g.J.Run.terms (total + c.land-made.result) (c.land-made.ensures g.J.Run.terms total c.self.invariant.0) in
    (subst (λ n. IsBook g.J.Run.terms n c.settle.new.self) (sym c.count.ensures.total) settled, c.self.invariant.1)

pub returns-clause-made : goal.returns-clause-made
returns-clause-made g c =
    let total = c.self.inside.total.total in
    let settled = c.settle.ensures g.J.Run.terms (total + c.land-made.result) (c.land-made.ensures g.J.Run.terms total c.self.invariant.0) in
    let sum = settled.sum in
    let before = c.self.invariant.0.sum in
    let old = ap (λ (b : Booked). b.world.at.counts.real) c.self.view_is in
    let made = c.count.ensures.made in
    omega (arith, sum, before, old, made)

pub returns-clause-grows : goal.returns-clause-grows
returns-clause-grows g c =
    let r = c.self.inside.run in
    let total = c.self.inside.total.total in
    let t = from_now g.J.Run.terms r in
    subst (λ (b : Booked). BeginsWith (told c.settle.new.self.recorder) (told b.world)) c.self.view_is
    (c.settle.ensures t (total + c.land-made.result) (c.land-made.ensures t total (book_from_now g.J.Run.terms total r c.self.invariant.0))).run.begins
