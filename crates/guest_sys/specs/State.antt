-- What the system keeps of a run, and what is always true of it.
use Rattle.std.specs.Prelude.{◌≡◌, ℕ, ◌+◌, ◌*◌, ◌/◌, ◌%◌, ◌≤◌, List, [], length}
use Rattle.guest_sys.specs.declared.state.Waiter.{Waiter}
use Rattle.guest_sys.specs.Limits.{map_end, output_limit, hart_limit}

pub record State : Type 0 where
  -- what is left of the input
  pub input : List ℕ
  pub out : List ℕ
  pub err : List ℕ
  -- where the break started, and where it is
  pub break_start : ℕ
  pub break_now : ℕ
  -- mappings are made downwards from here
  pub map_top : ℕ
  -- how many harts were made
  pub made : ℕ
  -- the waiting harts, the longest waiting first
  pub waiting : List Waiter

-- n rounded up to whole pages
abbrev pub pages : ℕ → ℕ
pages n = 4096 * ((n + 4095) / 4096)

-- the break, the mappings and the outputs keep their bounds
pub record IsOrderly (s : State) : Type 0 where
  pub start_whole : s.break_start % 4096 ≡ 0
  pub top_whole : s.map_top % 4096 ≡ 0
  pub past_start : s.break_start ≤ s.break_now
  pub below_top : pages s.break_now ≤ s.map_top
  pub below_end : s.map_top ≤ map_end
  pub out_short : length s.out ≤ output_limit
  pub err_short : length s.err ≤ output_limit
  pub some_made : 1 ≤ s.made
  pub few_made : s.made ≤ hart_limit

-- before the first call, with this input and break
abbrev pub fresh : List ℕ → ℕ → State
fresh input break_start = record {
  input = input;
  out = [];
  err = [];
  break_start = break_start;
  break_now = break_start;
  map_top = map_end;
  made = 1;
  waiting = [];
}
