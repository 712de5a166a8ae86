use Rattle.guest_cases.proofs.Ending.{never_unread, never_unwritten, ends_as_asked}
use Rattle.guest_cases.proofs.Unlisted.{never_fails}
use Rattle.guest_cases.proofs.asked.play_surely.Goals as goal

pub returns-clause-read : goal.returns-clause-read
returns-clause-read c = never_unread c.play.ensures (λ rose. rose) (never_fails _ _ _ c.new-input.ensures.faults c.new.ensures.items)

pub returns-clause-written : goal.returns-clause-written
returns-clause-written c = never_unwritten c.play.ensures (λ rose. rose) (λ rose. rose)

pub returns-clause-asked : goal.returns-clause-asked
returns-clause-asked c = ends_as_asked c.play.ensures _ _ c.new-files.ensures.disk c.new-input.ensures.left
    (never_unread c.play.ensures (λ rose. rose) (never_fails _ _ _ c.new-input.ensures.faults c.new.ensures.items))
    (never_unwritten c.play.ensures (λ rose. rose) (λ rose. rose))
