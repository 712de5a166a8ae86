use Rattle.std.proofs.Common.{◌≡◌, is_some, true}
use Rattle.play.proofs.Running.{turns_stay, turns_left}
use Rattle.play.proofs.schedule.take_turns.Goals as goal

pub returns-then-is_some : goal.returns-then-is_some
returns-then-is_some c =
    let over : is_some c.loop-turn.world.machine.outcome ≡ true = let a = c.outcome.ensures in let b = c.is_some.ensures in let d = c.if-is_some.true in cc in
    c.loop-turn.invariant c.loop-turn.world (turns_stay _ c.loop-turn.world over)

pub loop-turn-preserved : goal.loop-turn-preserved
loop-turn-preserved c = λ v run.
    c.loop-turn.invariant v (turns_left c.args.count c.loop-turn._turn c.loop-turn.world c.take_turn.new.world v c.loop-turn-test.true c.in_ok-take_turn.ensures run)
