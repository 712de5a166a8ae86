use Rattle.std.proofs.Common.{rules, ◌≡◌, false, sym, ◌∙◌, arith}
use Rattle.std.specs.Prelude.{Some, None}
use Rattle.rv_isa.specs.Decoded.{decoded}
use Rattle.ahead.proofs.Makings.{adds_real}
use Rattle.ahead.proofs.Stopping.{unread_stops, gone_stops}
use Rattle.ahead.proofs.course.make_real.Goals as goal

pub returns-in_default-clause-stops : goal.returns-in_default-clause-stops
returns-in_default-clause-stops c e m h w sound same at =
    let unread : decoded c.args.word ≡ None = search rules in
    unread_stops c.args.code.now c.args.course.now.hart h w sound same at c.args.word c.args.point c.requires.word c.requires.point m c.requires.real unread

pub returns-in_default-go-clause-stops : goal.returns-in_default-go-clause-stops
returns-in_default-go-clause-stops c e m h w sound same at =
    gone_stops c.args.code.now c.args.course.now.hart h w sound same at c.args.word c.args.point c.requires.word c.requires.point m c.in-Some.i c.requires.real
    (sym c.requires.read ∙ c.in-Some.is) c.in_default-go.ensures.none

pub returns-clause-made : goal.returns-clause-made
returns-clause-made c e m =
    let fits = c.ranges.word.fits in
    adds_real m c.args.code.now c.args.course.now.hart c.go.new.hart c.args.word c.args.point c.sort_of-sort.result c.in-Some.i c.in-Some-go.aim c.args.course.now.notes.items c.push_reserved.new.self.items
    (omega arith) c.requires.word c.requires.point (sym c.requires.read ∙ c.in-Some.is) c.requires.real c.sort_of-sort.ensures c.in-Some-go.ensures.some c.push_reserved.ensures.items
