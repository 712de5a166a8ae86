use Rattle.std.proofs.Common.{◌≡◌, ℕ, suc, ◌+◌, ◌-◌, ◌<◌, List, false, true, sym, ap, ◌∙◌, add-one, subst, arith}
use Rattle.std.specs.Prelude.{Option}
use Rattle.rv_isa.specs.Decoded.{decoded}
use Rattle.rv_isa.specs.declared.instr.Instr.{Instr}
use Rattle.hart.specs.declared.hart.Hart.{Hart}
use Rattle.world.specs.Fetching.{led_by, led}
use Rattle.ahead.specs.Going.{goes_alone, before_real}
use Rattle.ahead.specs.Making.{Adds, Stops}
use Rattle.ahead.proofs.Makings.{adds_layout}
use Rattle.ahead.proofs.Stopping.{no_word_stops, layout_stops, led_stops}
use Rattle.ahead.proofs.course.+past_layouts.Goals as goal

pub returns-in_default-clause-stops : goal.returns-in_default-clause-stops
returns-in_default-clause-stops t c e h w sound same at = no_word_stops c.args.code.now c.args.course.now.hart h w sound same at c.args.left c.in_default.ensures.none

pub returns-then-not-is_layout-clause-made : goal.returns-then-not-is_layout-clause-made
returns-then-not-is_layout-clause-made t c e = rw add-one (c.make_real.ensures.made e c.args.left)

pub returns-then-left-eq0-clause-stops : goal.returns-then-left-eq0-clause-stops
returns-then-left-eq0-clause-stops t c e h w sound same at =
    ap (λ (m : ℕ). goes_alone h (before_real m h w)) c.if-left-eq0.true
    ∙ layout_stops c.args.code.now c.args.course.now.hart h w sound same at c.in-Some.found.word c.in-Some.found.point c.in-Some.ensures.word c.in-Some.ensures.point
    (sym c.is_layout.ensures ∙ c.if-not-is_layout.false)

pub returns-then-past_layouts-clause-made : goal.returns-then-past_layouts-clause-made
returns-then-past_layouts-clause-made t c e =
    let k = c.args.course.now.hart in
    let more = c.past_layouts.ensures.made c.if-past_layouts.true in
    let low = c.in-Some.ensures.low in
    let led_is = c.lead-before.ensures.hart ∙ ap (λ (o : Option Instr). led (led_by o k.pc) k) c.in-Some.ensures.read in
    let one_more : suc (c.args.left - 1 + 1) ≡ c.args.left + 1 = omega (arith, c.if-left-eq0.false) in
    subst (λ (m : ℕ). Adds m c.args.code.now k c.past_layouts.new.course.hart c.args.course.now.notes.items c.past_layouts.new.course.notes.items) one_more
    (adds_layout (c.args.left - 1 + 1) c.args.code.now k c.past_layouts.new.course.hart c.in-Some.found.word c.in-Some.found.point c.args.course.now.notes.items c.push_reserved.new.self.items
    c.past_layouts.new.course.notes.items (omega arith) c.in-Some.ensures.word c.in-Some.ensures.point (sym c.is_layout.ensures ∙ c.if-not-is_layout.false) c.push_reserved.ensures.items
    (subst (λ (x : Hart). Adds (c.args.left - 1 + 1) c.args.code.now x c.past_layouts.new.course.hart c.push_reserved.new.self.items c.past_layouts.new.course.notes.items) led_is more))

pub returns-clause-stops : goal.returns-clause-stops
returns-clause-stops t c e h w sound same at =
    let k = c.args.course.now.hart in
    let led_is = c.lead-before.ensures.hart ∙ ap (λ (o : Option Instr). led (led_by o k.pc) k) c.in-Some.ensures.read in
    let one_more : suc (c.args.left - 1) ≡ c.args.left = omega (arith, c.if-left-eq0.false) in
    subst (λ (m : ℕ). goes_alone h (before_real m h w) ≡ false) one_more
    (led_stops c.args.code.now k h w sound same at c.in-Some.found.word c.in-Some.found.point c.in-Some.ensures.word c.in-Some.ensures.point (c.args.left - 1)
    (sym c.is_layout.ensures ∙ c.if-not-is_layout.false)
    (subst (λ (x : Hart). Stops (c.args.left - 1) c.args.code.now x) led_is (c.past_layouts.ensures.stops c.if-past_layouts.false)))
