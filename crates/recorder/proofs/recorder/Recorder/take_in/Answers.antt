use Rattle.std.proofs.Common.{◌≡◌, true, sym, ap, ◌∙◌, subst, arith}
use Rattle.std.specs.Prelude.{vec_len, vec_capacity}
use Rattle.std.specs.Arc.{arc_value}
use Rattle.machine.specs.Steps.{can_step}
use Rattle.recorder.specs.Numbers.{raised}
use Rattle.recorder.specs.Recording.{Recorded}
use Rattle.recorder.proofs.Homing.{away_within, comes_home, home_away, home_steps, adopted_goes, adopted_steps, adopted_real}
use Rattle.recorder.proofs.Keeping.{after_as, reals_after, kept_back, code_after, if_some_more}
use Rattle.recorder.proofs.recorder.Recorder.take_in.Goals as goal
use Rattle.world.specs.Runs.{real_steps_of}

pub back-requires-clause-away : goal.back-requires-clause-away
back-requires-clause-away c = (home_away _ c.args.self.now c.args.away c.hart-h.result c.self.view_is c.hart-h.ensures c.requires.home).0

pub back-requires-clause-hart : goal.back-requires-clause-hart
back-requires-clause-hart c =
    let within = away_within c.self.inside.gate.away c.hart-h.result (back-requires-clause-away c) in
    let flags = c.kept.ensures in
    omega (arith, within, flags)

pub bring-requires-clause-home : goal.bring-requires-clause-home
bring-requires-clause-home c = (home_away _ c.args.self.now c.args.away c.hart-h.result c.self.view_is c.hart-h.ensures c.requires.home).1

pub invariant_of-self : goal.invariant_of-self
invariant_of-self c =
    let s = c.self.inside in
    let range = c.real-real.type_inv in
    let real = c.real-real.ensures in
    let a = c.args.away in
    let after = after_as s.world (real_steps_of a.made a.hart s.world) c.bring.new.world c.bring.ensures.is (reals_after a.made a.hart s.world) in (
      kept_back s.world c.bring.new.world s.marks s.gate c.back.new.self s.steps c.count_steps.new.steps c.hart-h.result s.away (vec_len s.journal.entries) (vec_len c.note_times.new.self.entries)
          (vec_capacity s.journal.entries) (vec_capacity c.note_times.new.self.entries) (arc_value s.image) (omega (arith, range, real)) after.later c.back.ensures.is c.back.ensures.less
          c.count_steps.ensures.harts c.note_times.ensures.len c.note_times.ensures.kept c.self.invariant.0,
      if_some_more s.shared (λ x same. code_after s.world c.bring.new.world after (arc_value x) same) c.self.invariant.1,
    )

pub returns-clause-was_away : goal.returns-clause-was_away
returns-clause-was_away c = (comes_home c.args.self.now c.args.away c.requires.home).0

pub returns-clause-can : goal.returns-clause-can
returns-clause-can c = home_steps c.args.self.now c.args.away c.requires.going c.requires.home

pub returns-clause-still : goal.returns-clause-still
returns-clause-still c =
    let can = subst (λ (r : Recorded). can_step c.args.away.hart r.at.machine ≡ true) (sym c.self.view_is) (returns-clause-can c) in
    adopted_steps c.args.away.hart _ c.self.inside.world c.bring.new.world c.bring.ensures.adopted can

pub returns-clause-real : goal.returns-clause-real
returns-clause-real c =
    let range = c.real-real.type_inv in
    let real = c.real-real.ensures in
    adopted_real c.args.away.hart _ c.self.inside.world c.bring.new.world c.bring.ensures.adopted (omega (arith, range, real))
    ∙ ap (λ (r : Recorded). raised c.args.away.made r.at.counts.real) c.self.view_is

pub returns-clause-outcome : goal.returns-clause-outcome
returns-clause-outcome c =
    adopted_goes c.args.away.hart _ c.self.inside.world c.bring.new.world c.bring.ensures.adopted ∙ ap (λ (r : Recorded). r.at.machine.outcome) c.self.view_is
