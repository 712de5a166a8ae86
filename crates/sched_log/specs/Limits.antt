-- The limits of a script, and the numbers of its faults.
use Rattle.std.specs.Prelude.{ℕ}

-- what the counts of a script may sum to
abbrev pub count_limit : ℕ
count_limit = 2000000000

-- harts are numbered from 0
abbrev pub last_hart : ℕ
last_hart = 63

-- ---- the kinds of faults
abbrev pub wrong_form : ℕ
wrong_form = 1

abbrev pub bad_number : ℕ
bad_number = 2

abbrev pub no_function : ℕ
no_function = 3

abbrev pub not_a_plan : ℕ
not_a_plan = 4

abbrev pub end_missing : ℕ
end_missing = 5

abbrev pub after_end : ℕ
after_end = 6

abbrev pub past_limit : ℕ
past_limit = 7
