-- The limits of a threaded run. Source: this project.
use Rattle.std.specs.Prelude.{ℕ}

-- the most real steps of a visit
abbrev pub visit_limit : ℕ
visit_limit = 64

-- with so many entries in the log no visit begins
abbrev pub entry_limit : ℕ
entry_limit = 16_000_000

-- the entries of an attempt: a Retire and a Replace
abbrev pub attempt_entries : ℕ
attempt_entries = 2

-- the most entries that a visit brings: its own, a Snap, and those of an attempt
abbrev pub visit_entries : ℕ
visit_entries = 4
