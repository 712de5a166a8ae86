-- The lines of harts, one hart on.
use Rattle.std.proofs.Common.{◌≡◌, ℕ, ◌+◌, ◌<◌, ◌≤◌, List, ◌++◌, length, drop, get_or, ap, sym, append_assoc, ◌∙◌}
use Rattle.std.proofs.lemmas.List.{at_drop_more, at_drop_all, append-nil}
use Rattle.sched_log.specs.declared.facts.HartFact.{HartFact}
use Rattle.report.specs.Text.{hart_line, hart_lines}

pub harts_more : (facts : List HartFact) (h : ℕ) (d : HartFact) (before all : List ℕ) → h < length facts → before ++ hart_lines h (drop h facts) ≡ all → (before ++ hart_line h (get_or facts h d)) ++ hart_lines (h + 1) (drop (h + 1) facts) ≡ all
harts_more facts h d before all within is =
    append_assoc before (hart_line h (get_or facts h d)) (hart_lines (h + 1) (drop (h + 1) facts)) ∙ ap (λ t. before ++ t) (sym (at_drop_more (hart_lines h) facts h d within)) ∙ is

pub harts_done : (facts : List HartFact) (h : ℕ) (before all : List ℕ) → length facts ≤ h → before ++ hart_lines h (drop h facts) ≡ all → before ≡ all
harts_done facts h before all past is = sym (append-nil before) ∙ ap (λ t. before ++ t) (sym (at_drop_all (hart_lines h) facts h past)) ∙ is
