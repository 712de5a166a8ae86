-- What each step of a lock section keeps of a log.
use Rattle.std.proofs.Common.{◌≡◌, ℕ, ◌+◌, ◌<◌, ◌≤◌, Bool, true, false, List, [], ◌∷◌, ◌++◌, length, replicate, refl, sym, arith}
use Rattle.std.specs.Prelude.{not, ◌&&◌, nat_le, is_some}
use Rattle.image.specs.Picture.{Picture}
use Rattle.sched_log.specs.declared.event.Event.{Event}
use Rattle.sched_log.specs.declared.event.Event.TheVariants.{Real, Snap, Replace, Retire}
use Rattle.machine.specs.States.{State}
use Rattle.machine.specs.Steps.{original_run}
use Rattle.pacing.specs.Logs.{state_at}
use Rattle.pacing.specs.Clocks.{Clock, tick, clock_from, clock_of}
use Rattle.pacing.specs.Pacing.{owes_snap, IsVisit, IsInTime, Fits, Paced}
use Rattle.pacing.specs.Keeping.{is_overdue, KeepsTime, IsOpen, IsSettled}
use Rattle.pacing.proofs.Growing.{each-snoc, each-nil, grown}
use Rattle.pacing.proofs.Runs.{made_by_run}
use Rattle.pacing.proofs.Visits.{not_over}

-- ---- what is owed, by the clock
pub none_due : (every n : ℕ) (pending over : Bool) → 0 < every → (not pending && nat_le (every + n) n && not over) ≡ false
none_due every n pending over some = grind (arith, some)

pub none_late : (every n : ℕ) (over : Bool) → 0 < every → (true && nat_le (every + n) n && not over) ≡ false
none_late every n over some = grind (arith, some)

pub soon : (every n at : ℕ) (pending over : Bool) → (pending && nat_le (every + at) n && not over) ≡ false → pending ≡ true → over ≡ false → n < every + at
soon every n at pending over late waits goes_on = grind (arith, late, waits, goes_on)

pub none_owed : (every : ℕ) (s : State) (c : Clock) → c.pending ≡ true → owes_snap every s c ≡ false
none_owed every s c pending = rw pending refl

over_owes : (due over : Bool) → over ≡ true → (due && not over) ≡ false
over_owes due over ended = grind (arith, ended)

module _ (p : Picture) (start : State) (every : ℕ) where
  pub in_time : (away : ℕ) (s : State) (c : Clock) → KeepsTime every away s c → IsInTime every s c
  in_time away s c k pending = let t = k.in_time pending in omega (arith, t)

  pub begun : 0 < every → IsSettled p start every 0 false []
  unfolding clock_from
  begun some = record {
    opened = record {
      each = each-nil (Fits p start every);
      time = record { no_replace_owed = refl; few_away = omega arith; in_time = λ pending. absurd (cc) };
    };
    no_snap_owed = none_due every 0 false (is_some start.outcome) some;
    not_overdue = λ _. refl;
  }

  pub left : (away : ℕ) (log : List Event) → IsSettled p start every away false log → is_some (state_at p start log).outcome ≡ false
      → away + 1 ≤ length (state_at p start log).harts → IsSettled p start every (away + 1) false log
  left away log k goes_on room =
      let c = clock_of log in
      record {
        opened = record {
          each = k.opened.each;
          time = record {
            no_replace_owed = k.opened.time.no_replace_owed;
            few_away = room;
            in_time = λ pending. (
                let early = soon every c.real c.snapped_at c.pending (is_some (state_at p start log).outcome) (k.not_overdue refl) pending goes_on in
                omega (arith, early, room));
          };
        };
        no_snap_owed = k.no_snap_owed;
        not_overdue = k.not_overdue;
      }

  pub landed : (away : ℕ) (wanted : Bool) (log : List Event) (h n : ℕ) → IsSettled p start every (away + 1) wanted log
      → IsVisit p (state_at p start log) h n → IsOpen p start every away (log ++ Real h n ∷ [])
  landed away wanted log h n k visit =
      let s = state_at p start log in
      let made = made_by_run p (replicate n h) s in
      let was = k.opened.time in
      let time : KeepsTime every away (original_run p (replicate n h) s) (tick (clock_of log) (Real h n)) = record {
        no_replace_owed = refl;
        few_away = (let f = was.few_away in omega (arith, f, made));
        in_time = λ pending. (let t = was.in_time pending in let most = visit.most in omega (arith, t, most, made));
      } in
      record {
        each = each-snoc (Fits p start every) log (Real h n) k.opened.each (record {
          visit = visit;
          snap = sym k.no_snap_owed;
          replace = sym was.no_replace_owed;
          attempt = λ retires. absurd (cc);
          in_time = grown p start log (Real h n) (IsInTime every) (in_time away _ _ time);
        });
        time = grown p start log (Real h n) (KeepsTime every away) time;
      }

  -- a visit that leaves no lock section
  pub visited : (away : ℕ) (log : List Event) (h n : ℕ) → IsSettled p start every away false log → away + 1 ≤ length (state_at p start log).harts
      → IsVisit p (state_at p start log) h n → IsOpen p start every away (log ++ Real h n ∷ [])
  visited away log h n k room visit =
      let goes_on = not_over p (state_at p start log) h n visit in
      landed away false log h n (left away log k goes_on room) visit

  pub given_up : (away : ℕ) (wanted : Bool) (log : List Event) → IsSettled p start every (away + 1) wanted log → IsSettled p start every away wanted log
  given_up away wanted log k =
      let was = k.opened.time in
      record {
        opened = record {
          each = k.opened.each;
          time = record {
            no_replace_owed = was.no_replace_owed;
            few_away = (let f = was.few_away in omega (arith, f));
            in_time = λ pending. (let t = was.in_time pending in omega (arith, t));
          };
        };
        no_snap_owed = k.no_snap_owed;
        not_overdue = k.not_overdue;
      }

  pub snapped : (away : ℕ) (wanted : Bool) (log : List Event) → 0 < every → owes_snap every (state_at p start log) (clock_of log) ≡ true
      → IsOpen p start every away log → IsSettled p start every away wanted (log ++ Snap ∷ [])
  snapped away wanted log some owed o =
      let s = state_at p start log in
      let c = clock_of log in
      let time : KeepsTime every away s (tick c Snap) = record {
        no_replace_owed = refl;
        few_away = o.time.few_away;
        in_time = λ pending. (let f = o.time.few_away in omega (arith, f));
      } in
      record {
        opened = record {
          each = each-snoc (Fits p start every) log Snap o.each (record {
            visit = tt;
            snap = sym owed;
            replace = sym o.time.no_replace_owed;
            attempt = λ retires. absurd (cc);
            in_time = grown p start log Snap (IsInTime every) (in_time away s (tick c Snap) time);
          });
          time = grown p start log Snap (KeepsTime every away) time;
        };
        no_snap_owed = grown p start log Snap (λ t d. owes_snap every t d ≡ false) refl;
        not_overdue = λ _. grown p start log Snap (λ t d. is_overdue every t d ≡ false) (none_late every c.real (is_some s.outcome) some);
      }

  pub attempted : (away : ℕ) (wanted : Bool) (log : List Event) → 0 < every → (clock_of log).pending ≡ true
      → IsOpen p start every away log → IsSettled p start every away wanted ((log ++ Retire ∷ []) ++ Replace ∷ [])
  attempted away wanted log some pending o =
      let s = state_at p start log in
      let c = clock_of log in
      let more = log ++ Retire ∷ [] in
      let then_now : (P : State → Clock → Type 0) → P s (tick (tick c Retire) Replace) → P (state_at p start (more ++ Replace ∷ [])) (clock_of (more ++ Replace ∷ []))
      = λ P holds. grown p start more Replace P (grown p start log Retire (λ t d. P t (tick d Replace)) holds) in
      let time : KeepsTime every away s (tick (tick c Retire) Replace) = record {
        no_replace_owed = refl;
        few_away = o.time.few_away;
        in_time = λ pending. absurd (cc);
      } in
      let first : Fits p start every log Retire = record {
        visit = tt;
        snap = sym (none_owed every s c pending);
        replace = sym o.time.no_replace_owed;
        attempt = λ retires. pending;
        in_time = grown p start log Retire (IsInTime every) (in_time away s c o.time);
      } in
      let second : Fits p start every more Replace = record {
        visit = tt;
        snap = grown p start log Retire (λ t d. false ≡ owes_snap every t d) (sym (none_owed every s (tick c Retire) pending));
        replace = grown p start log Retire (λ t d. true ≡ d.retired) refl;
        attempt = λ retires. absurd (cc);
        in_time = then_now (IsInTime every) (λ pending. absurd (cc));
      } in
      record {
        opened = record {
          each = each-snoc (Fits p start every) more Replace (each-snoc (Fits p start every) log Retire o.each first) second;
          time = then_now (KeepsTime every away) time;
        };
        no_snap_owed = then_now (λ t d. owes_snap every t d ≡ false) (none_due every c.real false (is_some s.outcome) some);
        not_overdue = λ _. then_now (λ t d. is_overdue every t d ≡ false) refl;
      }

  pub rested : (away : ℕ) (wanted : Bool) (log : List Event) → IsOpen p start every away log → owes_snap every (state_at p start log) (clock_of log) ≡ false
      → is_overdue every (state_at p start log) (clock_of log) ≡ false → IsSettled p start every away wanted log
  rested away wanted log o owes late = record { opened = o; no_snap_owed = owes; not_overdue = λ _. late }

  -- after an outcome nothing is owed
  pub over : (away : ℕ) (wanted : Bool) (log : List Event) → IsOpen p start every away log → is_some (state_at p start log).outcome ≡ true
      → IsSettled p start every away wanted log
  over away wanted log o ended =
      let c = clock_of log in
      record {
        opened = o;
        no_snap_owed = over_owes (not c.pending && nat_le (every + c.attempted_at) c.real) (is_some (state_at p start log).outcome) ended;
        not_overdue = λ _. over_owes (c.pending && nat_le (every + c.snapped_at) c.real) (is_some (state_at p start log).outcome) ended;
      }

  pub stop_wanted : (away : ℕ) (log : List Event) → IsOpen p start every away log → owes_snap every (state_at p start log) (clock_of log) ≡ false
      → IsSettled p start every away true log
  stop_wanted away log o owes = record { opened = o; no_snap_owed = owes; not_overdue = λ calm. absurd (cc) }

  pub paced : (away : ℕ) (wanted : Bool) (log : List Event) → IsSettled p start every away wanted log → Paced p start every log
  paced away wanted log k = record { each = k.opened.each; no_snap_owed = k.no_snap_owed; no_replace_owed = k.opened.time.no_replace_owed }
