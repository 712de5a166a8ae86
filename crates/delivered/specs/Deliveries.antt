-- What a world delivers. Source: this project.
use Rattle.std.specs.Prelude.{ℕ, Bool, List, [], ◌∷◌, ◌++◌, length, ◌-◌, slice_index, ◌==◌, Option, Some, None, if◌then◌else◌}
use Rattle.machine.specs.declared.outcome.Outcome.{Outcome}
use Rattle.report.specs.Text.{report_of}
use Rattle.report.specs.declared.writing.Delivery.{Delivery}
use Rattle.world.specs.Worlds.{Replaced}
use Rattle.world.specs.Told.{facts_of}

-- a text with a newline at its end, if it isn't empty
abbrev pub closed : List ℕ → List ℕ
closed text = if length text == 0 then [] else (if slice_index text (length text - 1) == 10 then text else text ++ 10 ∷ [])

-- the outcome of a run, and of one that has none the outcome that stands for it
abbrev pub outcome_of : (unended : Outcome) → Option Outcome → Outcome
outcome_of unended (Some outcome) = outcome
outcome_of unended None = unended

-- what a world delivers: outcome and outputs, and its report, which is shown or not
abbrev pub delivery_of : (unended : Outcome) → (shown : Bool) → Replaced → Delivery
delivery_of unended shown w = record {
  outcome = outcome_of unended w.machine.outcome;
  out = w.machine.system.out;
  err = closed w.machine.system.err;
  report = report_of (facts_of w);
  shown = shown;
}
