use Rattle.std.proofs.Common.{◌-◌, true, ◌∷◌, [], ◌++◌, List, ap, ◌∙◌, arith}
use Rattle.sched_log.specs.declared.event.Event.{Event}
use Rattle.recorder.specs.Journals.{count_limit, entry_of, journal_of}
use Rattle.recorder.proofs.Repeating.{in_new, in_last, in_both, journal_as}
use Rattle.recorder.proofs.journal.Journal.count.Goals as goal

pub returns-in_default-clause-is : goal.returns-in_default-clause-is
returns-in_default-clause-is c =
    let fits = c.ranges.n.fits in
    let j = journal_of c.args.self.now in
    in_new c.args.asked c.args.n j (record { entries = c.push_reserved.new.self.items; is_open = true }) c.requires.some (omega (arith, fits)) c.in_default.ensures
    (journal_as _ _ (c.push_reserved.ensures.items ∙ ap (λ (e : Event). j.entries ++ e ∷ []) c.entry.ensures))

pub returns-then-n-fits-clause-is : goal.returns-then-n-fits-clause-is
returns-then-n-fits-clause-is c =
    let le = c.if-n-fits.true in
    let j = journal_of c.args.self.now in
    let lt = c.in-Some.ensures.0 in
    in_last c.args.asked c.in-Some.before c.args.n j (record { entries = c.recount.new.entries.items; is_open = true }) c.requires.some (omega (arith, le, lt)) c.in-Some.ensures
    (journal_as _ _ c.recount.ensures.items)

pub returns-clause-is : goal.returns-clause-is
returns-clause-is c =
    let fits = c.ranges.n.fits in
    let past = c.if-n-fits.false in
    let j = journal_of c.args.self.now in
    in_both c.args.asked c.in-Some.before c.args.n j (record { entries = c.push_reserved-2.new.self.items; is_open = true }) c.in-Some.ensures.0 (omega (arith, fits)) (omega (arith, past))
    c.in-Some.ensures
    (journal_as _ _ (c.push_reserved-2.ensures.items ∙ ap (λ (e : Event). c.recount-2.new.entries.items ++ e ∷ []) c.entry-2.ensures
    ∙ ap (λ (es : List Event). es ++ entry_of c.args.asked (c.args.n - (count_limit - c.in-Some.before)) ∷ []) c.recount-2.ensures.items))
