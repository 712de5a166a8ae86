use Rattle.ahead.proofs.course.+past_layouts.Given as goal

abbrev pub decreases-past_layouts : goal.decreases-past_layouts
decreases-past_layouts l = l.left
