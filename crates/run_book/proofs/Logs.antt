-- What a log keeps of the pace and the turns, entry by entry.
use Rattle.std.proofs.Common.{◌≡◌, ◌≢◌, ℕ, zero, suc, ◌+◌, ◌*◌, ◌%◌, ◌<◌, ◌≤◌, Bool, true, false, List, [], ◌∷◌, ◌++◌, length, refl, sym, ap, ◌∙◌, subst, arith, ◌⊎◌, inl, inr}
use Rattle.std.specs.Prelude.{◌==◌, is_some, slice_get, slice_set, Option, Some}
use Rattle.std.specs.Option.{option_map}
use Rattle.sched_log.specs.declared.event.Event.{Event}
use Rattle.sched_log.specs.declared.event.Event.TheVariants.{Real, Snap, Replace, Retire}
use Rattle.machine.specs.States.{State}
use Rattle.pacing.specs.Limits.{visit_limit, entry_limit}
use Rattle.pacing.specs.Clocks.{Clock, clock_of}
use Rattle.pacing.specs.Pacing.{owes_snap, IsVisit}
use Rattle.pacing.specs.Serving.{Turn, visits, IsNext, Serves, TurnFits}
use Rattle.pacing.specs.Keeping.{is_overdue, IsSettled}
use Rattle.pacing.specs.Bounds.{IsLimited, IsBounded}
use Rattle.pacing.proofs.Growing.{each-snoc, each-nil, grown}
use Rattle.pacing.proofs.Kept.{landed, visited, given_up, snapped, attempted, rested, stop_wanted, over, begun}
use Rattle.pacing.proofs.Kept as kept
use Rattle.pacing.proofs.Bounded.{limit_leaves, limit_lands, limit_snaps, bound_begins, bound_leaves, bound_lands, bound_snaps, bound_attempts, bound_rests}
use Rattle.pacing.proofs.Serves.{still_live, none_yet, own_turn, other_turn}
use Rattle.pacing.proofs.Others.{start_lists}
use Rattle.run_book.specs.Terms.{Terms, start_in, state_in}
use Rattle.run_book.specs.Sections.{turn_of, AreLive, AreChosen, IsAmid, IsAtRest, AreLast}
use Rattle.run_book.proofs.Aways.{same_or_other, other_left, still_away, is_back, not_set, of_another}
use Rattle.stop_gate.specs.Gates.{Gated, is_away, left, back_in, wanting, aways}
use Rattle.stop_gate.proofs.Counts.{coming_back_takes, no_aways}

module _ (t : Terms) where
  live_more : (log : List Event) (e : Event) → AreLive t log → AreLive t (log ++ e ∷ [])
  live_more log e live = λ worker. still_live t.image (start_in t) t.workers worker log e (start_lists t.image t.input) (live worker)

  serves_more : (g : Gated) (log : List Event) (e : Event) → TurnFits t.image (start_in t) t.workers log e → (spare : ℕ) → IsAmid t spare g log
      → (before : List Event) (f : Event) (rest : List Event) → log ++ e ∷ [] ≡ before ++ f ∷ rest → TurnFits t.image (start_in t) t.workers before f
  serves_more g log e fits spare a = each-snoc (TurnFits t.image (start_in t) t.workers) log e a.served fits

  -- ---- harts that are away
  chosen_more : (g : Gated) (log : List Event) (e : Event) → ((worker : ℕ) → visits t.workers worker e ≡ false) → AreChosen t g log → AreChosen t g (log ++ e ∷ [])
  chosen_more g log e none c = record {
    next = λ h away. subst (λ (u : Option Turn). IsNext t.workers (h % t.workers) u h) (sym (other_turn t.image (start_in t) t.workers (h % t.workers) log e (none (h % t.workers)))) (c.next h away);
    one = c.one;
  }

  pub chosen_left : (g : Gated) (log : List Event) (h : ℕ) → ((k : ℕ) → k % t.workers ≡ h % t.workers → is_away g k ≡ false)
      → IsNext t.workers (h % t.workers) (turn_of t (h % t.workers) log) h → AreChosen t g log → AreChosen t (left h g) log
  chosen_left g log h none next c = record {
    next = λ k away. elim (same_or_other h k) [
      | inl e ↦ subst (λ j. IsNext t.workers (j % t.workers) (turn_of t (j % t.workers) log) j) (sym e) next
      | inr n ↦ c.next k (sym (other_left g h k n) ∙ away)
    ];
    one = λ k j away too same. elim (same_or_other h k) [
      | inl e ↦ elim (same_or_other h j) [
        | inl f ↦ e ∙ sym f
        | inr n ↦ (let clash : true ≡ false = sym too ∙ other_left g h j n ∙ none j (sym same ∙ ap (λ i. i % t.workers) e) in absurd (cc))
      ]
      | inr n ↦ elim (same_or_other h j) [
        | inl f ↦ (let clash : true ≡ false = sym away ∙ other_left g h k n ∙ none k (same ∙ ap (λ i. i % t.workers) f) in absurd (cc))
        | inr m ↦ c.one k j (sym (other_left g h k n) ∙ away) (sym (other_left g h j m) ∙ too) same
      ]
    ];
  }

  pub chosen_back : (g : Gated) (log : List Event) (h : ℕ) → AreChosen t g log → AreChosen t (back_in h g) log
  chosen_back g log h c = record {
    next = λ k away. c.next k (still_away g h k away);
    one = λ k j away too same. c.one k j (still_away g h k away) (still_away g h j too) same;
  }

  -- a visit of a hart whose worker has no other away
  chosen_visited : (g : Gated) (log : List Event) (h n : ℕ) → ((k : ℕ) → k % t.workers ≡ h % t.workers → is_away g k ≡ false) → AreChosen t g log
      → AreChosen t g (log ++ Real h n ∷ [])
  chosen_visited g log h n none c = record {
    next = λ k away. subst (λ (u : Option Turn). IsNext t.workers (k % t.workers) u k)
        (sym (other_turn t.image (start_in t) t.workers (k % t.workers) log (Real h n) (of_another (h % t.workers) (k % t.workers)
        (λ same. (let clash : true ≡ false = sym away ∙ none k (sym same) in absurd (cc)))))) (c.next k away);
    one = c.one;
  }

  none_out : (g : Gated) (log : List Event) (h : ℕ) → AreChosen t g log → is_away g h ≡ true → (k : ℕ) → k % t.workers ≡ h % t.workers → is_away (back_in h g) k ≡ false
  none_out g log h c away k same = not_set (is_away (back_in h g) k) (λ too. (
      let is : k ≡ h = c.one k h (still_away g h k too) away same in
      let clash : true ≡ false = sym too ∙ ap (is_away (back_in h g)) is ∙ is_back g h in absurd (cc)))

  -- ---- an open log that comes to rest
  pub rest_amid : (g : Gated) (log : List Event) → IsAtRest t g log → IsAmid t 0 g log
  rest_amid g log r = record { opened = r.settled.opened; served = r.served; bounded = r.bounded; live = r.live; chosen = r.chosen }

  pub snap_rests : (g : Gated) (log : List Event) → 0 < t.every → owes_snap t.every (state_in t log) (clock_of log) ≡ true → IsAmid t 3 g log → IsAtRest t g (log ++ Snap ∷ [])
  snap_rests g log some owed a = record {
    settled = snapped t.image (start_in t) t.every (aways g) g.wanted log some owed a.opened;
    served = serves_more g log Snap tt 3 a;
    bounded = bound_snaps t.image (start_in t) (aways g) 0 log a.bounded;
    live = live_more log Snap a.live;
    chosen = chosen_more g log Snap (λ worker. refl) a.chosen;
  }

  pub attempt_rests : (spare : ℕ) (g : Gated) (log : List Event) → 0 < t.every → (clock_of log).pending ≡ true → IsAmid t spare g log
      → IsAtRest t (wanting false g) ((log ++ Retire ∷ []) ++ Replace ∷ [])
  attempt_rests spare g log some pending a =
      let fits = TurnFits t.image (start_in t) t.workers in
      let both = (log ++ Retire ∷ []) ++ Replace ∷ [] in
      record {
        settled = attempted t.image (start_in t) t.every (aways g) false log some pending a.opened;
        served = each-snoc fits (log ++ Retire ∷ []) Replace (each-snoc fits log Retire a.served tt) tt;
        bounded = bound_rests t.image (start_in t) (aways g) spare both (bound_attempts t.image (start_in t) (aways g) spare log pending a.bounded);
        live = live_more (log ++ Retire ∷ []) Replace (live_more log Retire a.live);
        chosen = (let c = chosen_more g (log ++ Retire ∷ []) Replace (λ worker. refl) (chosen_more g log Retire (λ worker. refl) a.chosen) in record { next = c.next; one = c.one });
      }

  pub nothing_rests : (spare : ℕ) (g : Gated) (log : List Event) → owes_snap t.every (state_in t log) (clock_of log) ≡ false → is_overdue t.every (state_in t log) (clock_of log) ≡ false
      → IsAmid t spare g log → IsAtRest t g log
  nothing_rests spare g log not_owed not_late a = record {
    settled = rested t.image (start_in t) t.every (aways g) g.wanted log a.opened not_owed not_late;
    served = a.served;
    bounded = bound_rests t.image (start_in t) (aways g) spare log a.bounded;
    live = a.live;
    chosen = a.chosen;
  }

  -- an attempt that waits for harts that are away
  pub waits_rests : (spare : ℕ) (g : Gated) (log : List Event) → owes_snap t.every (state_in t log) (clock_of log) ≡ false → IsAmid t spare g log → IsAtRest t (wanting true g) log
  waits_rests spare g log not_owed a = record {
    settled = stop_wanted t.image (start_in t) t.every (aways g) log a.opened not_owed;
    served = a.served;
    bounded = bound_rests t.image (start_in t) (aways g) spare log a.bounded;
    live = a.live;
    chosen = record { next = a.chosen.next; one = a.chosen.one };
  }

  pub over_rests : (spare : ℕ) (g : Gated) (log : List Event) → is_some (state_in t log).outcome ≡ true → IsAmid t spare g log → IsAtRest t g log
  over_rests spare g log ended a = record {
    settled = over t.image (start_in t) t.every (aways g) g.wanted log a.opened ended;
    served = a.served;
    bounded = bound_rests t.image (start_in t) (aways g) spare log a.bounded;
    live = a.live;
    chosen = a.chosen;
  }

  pub begins_rested : (g : Gated) → ((h : ℕ) → is_away g h ≡ false) → 0 < t.every → IsAtRest t g []
  begins_rested g none some =
      let empty : 0 ≡ aways g = sym (no_aways g none) in
      record {
        settled = calm_too g.wanted (subst (λ n. IsSettled t.image (start_in t) t.every n false []) empty (begun t.image (start_in t) t.every some));
        served = each-nil (TurnFits t.image (start_in t) t.workers);
        bounded = subst (λ n. IsBounded t.image (start_in t) n 0 []) empty (bound_begins t.image (start_in t));
        live = λ worker. none_yet t.image (start_in t) t.workers worker;
        chosen = record { next = λ h away. (let no = none h in let clash : true ≡ false = sym away ∙ no in absurd (cc)); one = λ h k away too same. (let no = none h in let clash : true ≡ false = sym away ∙ no in absurd (cc)) };
      }
    where
      calm_too : (b : Bool) → IsSettled t.image (start_in t) t.every (aways g) false [] → IsSettled t.image (start_in t) t.every (aways g) b []
      calm_too b s = record { opened = s.opened; no_snap_owed = s.no_snap_owed; not_overdue = λ _. s.not_overdue refl }

  -- ---- a hart that leaves
  pub leaves_rested : (g : Gated) (log : List Event) (h : ℕ) → g.wanted ≡ false → aways (left h g) ≡ aways g + 1 → is_some (state_in t log).outcome ≡ false
      → aways g + 1 ≤ length (state_in t log).harts → length log < entry_limit → ((k : ℕ) → k % t.workers ≡ h % t.workers → is_away g k ≡ false)
      → IsNext t.workers (h % t.workers) (turn_of t (h % t.workers) log) h → IsAtRest t g log → IsAtRest t (left h g) log
  leaves_rested g log h calm more goes_on room few none next r = record {
    settled = subst (λ b. IsSettled t.image (start_in t) t.every (aways (left h g)) b log) (sym calm)
        (subst (λ n. IsSettled t.image (start_in t) t.every n false log) (sym more)
        (kept.left t.image (start_in t) t.every (aways g) log (subst (λ b. IsSettled t.image (start_in t) t.every (aways g) b log) calm r.settled) goes_on room));
    served = r.served;
    bounded = subst (λ n. IsBounded t.image (start_in t) n 0 log) (sym more) (bound_leaves t.image (start_in t) (aways g) log few room);
    live = r.live;
    chosen = chosen_left g log h none next r.chosen;
  }

  -- ---- a hart that comes home
  pub lands_amid : (g : Gated) (log : List Event) (h n : ℕ) → is_away g h ≡ true → IsVisit t.image (state_in t log) h n → Serves t.image (start_in t) t.workers log h n
      → IsAtRest t g log → IsAmid t 3 (back_in h g) (log ++ Real h n ∷ [])
  lands_amid g log h n away visit serves r =
      let fewer : aways g ≡ aways (back_in h g) + 1 = sym (coming_back_takes g h away) in
      record {
        opened = landed t.image (start_in t) t.every (aways (back_in h g)) g.wanted log h n (subst (λ k. IsSettled t.image (start_in t) t.every k g.wanted log) fewer r.settled) visit;
        served = each-snoc (TurnFits t.image (start_in t) t.workers) log (Real h n) r.served serves;
        bounded = bound_lands t.image (start_in t) (aways (back_in h g)) 0 log h n (subst (λ k. IsBounded t.image (start_in t) k 0 log) fewer r.bounded);
        live = live_more log (Real h n) r.live;
        chosen = chosen_visited (back_in h g) log h n (none_out g log h r.chosen away) (chosen_back g log h r.chosen);
      }

  -- one that brought nothing
  pub nothing_lands : (g : Gated) (log : List Event) (h : ℕ) → is_away g h ≡ true → IsAtRest t g log → IsAmid t 3 (back_in h g) log
  nothing_lands g log h away r =
      let fewer : aways g ≡ aways (back_in h g) + 1 = sym (coming_back_takes g h away) in
      let settled = given_up t.image (start_in t) t.every (aways (back_in h g)) g.wanted log (subst (λ k. IsSettled t.image (start_in t) t.every k g.wanted log) fewer r.settled) in
      let bounded = subst (λ k. IsBounded t.image (start_in t) k 0 log) fewer r.bounded in
      record {
        opened = settled.opened;
        served = r.served;
        bounded = record { entries = (let was = bounded.entries in omega (arith, was)) };
        live = r.live;
        chosen = chosen_back g log h r.chosen;
      }

  -- ---- a visit that leaves no lock section
  pub visit_amid : (g : Gated) (log : List Event) (h n : ℕ) → g.wanted ≡ false → is_some (state_in t log).outcome ≡ false → aways g + 1 ≤ length (state_in t log).harts
      → length log < entry_limit → ((k : ℕ) → k % t.workers ≡ h % t.workers → is_away g k ≡ false)
      → IsVisit t.image (state_in t log) h n → Serves t.image (start_in t) t.workers log h n → IsAtRest t g log → IsAmid t 3 g (log ++ Real h n ∷ [])
  visit_amid g log h n calm goes_on room few none visit serves r = record {
    opened = visited t.image (start_in t) t.every (aways g) log h n (subst (λ b. IsSettled t.image (start_in t) t.every (aways g) b log) calm r.settled) room visit;
    served = each-snoc (TurnFits t.image (start_in t) t.workers) log (Real h n) r.served serves;
    bounded = bound_lands t.image (start_in t) (aways g) 0 log h n (bound_leaves t.image (start_in t) (aways g) log few room);
    live = live_more log (Real h n) r.live;
    chosen = chosen_visited g log h n none r.chosen;
  }

  -- ---- limits
  pub limit_retires : (away : ℕ) (log : List Event) → IsLimited t.image (start_in t) t.limit away log → IsLimited t.image (start_in t) t.limit away (log ++ Retire ∷ [])
  limit_retires away log l = record {
    steps = grown t.image (start_in t) log Retire (λ (s : State) (c : Clock). c.real + visit_limit * away < t.limit + visit_limit * length s.harts) l.steps;
  }

  pub limit_replaces : (away : ℕ) (log : List Event) → IsLimited t.image (start_in t) t.limit away log → IsLimited t.image (start_in t) t.limit away (log ++ Replace ∷ [])
  limit_replaces away log l = record {
    steps = grown t.image (start_in t) log Replace (λ (s : State) (c : Clock). c.real + visit_limit * away < t.limit + visit_limit * length s.harts) l.steps;
  }

  pub limit_snapped : (away : ℕ) (log : List Event) → IsLimited t.image (start_in t) t.limit away log → IsLimited t.image (start_in t) t.limit away (log ++ Snap ∷ [])
  limit_snapped away log l = limit_snaps t.image (start_in t) t.limit away log l

  pub limit_visited : (away : ℕ) (log : List Event) (h n : ℕ) → n ≤ visit_limit → (clock_of log).real < t.limit → away + 1 ≤ length (state_in t log).harts
      → IsLimited t.image (start_in t) t.limit away (log ++ Real h n ∷ [])
  limit_visited away log h n most below room = limit_lands t.image (start_in t) t.limit away log h n most (limit_leaves t.image (start_in t) t.limit away log below room)

  -- ---- the harts that were served last
  pub last_more : (last : List (Option ℕ)) (log : List Event) (e : Event) → ((worker : ℕ) → visits t.workers worker e ≡ false) → AreLast t last log → AreLast t last (log ++ e ∷ [])
  last_more last log e none are worker lt =
      are worker lt ∙ ap (λ (u : Option Turn). Some (option_map (λ (x : Turn). x.hart) u)) (sym (other_turn t.image (start_in t) t.workers worker log e (none worker)))

-- ---- a list with one element set
get_set : (xs : List (Option ℕ)) (k : ℕ) (x y : Option ℕ) → slice_get xs k ≡ Some x → slice_get (slice_set xs k y) k ≡ Some y
get_set [] k x y e = absurd (cc)
get_set (z ∷ zs) zero x y e = refl
get_set (z ∷ zs) (suc k) x y e = get_set zs k x y e

get_other : (xs : List (Option ℕ)) (k j : ℕ) (y : Option ℕ) → j ≢ k → slice_get (slice_set xs k y) j ≡ slice_get xs j
get_other [] k j y n = refl
get_other (z ∷ zs) zero zero y n = absurd (n refl)
get_other (z ∷ zs) zero (suc j) y n = refl
get_other (z ∷ zs) (suc k) zero y n = refl
get_other (z ∷ zs) (suc k) (suc j) y n = get_other zs k j y (λ e. n (ap suc e))

same_or_not : (j k : ℕ) → (j ≡ k) ⊎ ((j == k) ≡ false)
same_or_not j k = by_test (j == k) refl
  where
    by_test : (b : Bool) → (j == k) ≡ b → (j ≡ k) ⊎ ((j == k) ≡ false)
    by_test true e = inl (grind (arith, e))
    by_test false e = inr e

apart : (j k : ℕ) → (j == k) ≡ false → j ≢ k
apart j k n e = grind (arith, n, e)

not_of : (h workers worker k : ℕ) → h % workers ≡ worker → (k == worker) ≡ false → (h % workers == k) ≡ false
not_of h workers worker k own n = grind (arith, own, n)

pub last_visited : (t : Terms) (last : List (Option ℕ)) (log : List Event) (worker h n : ℕ) → worker < t.workers → h % t.workers ≡ worker → AreLast t last log
    → AreLast t (slice_set last worker (Some h)) (log ++ Real h n ∷ [])
last_visited t last log worker h n below own are k lt =
    elim (same_or_not k worker) [
      | inl e ↦ subst (λ j. slice_get (slice_set last worker (Some h)) j ≡ Some (option_map (λ (u : Turn). u.hart) (turn_of t j (log ++ Real h n ∷ [])))) (sym e)
          (get_set last worker _ (Some h) (are worker below)
          ∙ ap (λ (u : Option Turn). Some (option_map (λ (x : Turn). x.hart) u)) (sym (own_turn t.image (start_in t) t.workers worker log h n own)))
      | inr a ↦ get_other last worker k (Some h) (apart k worker a) ∙ are k lt
          ∙ ap (λ (u : Option Turn). Some (option_map (λ (x : Turn). x.hart) u)) (sym (other_turn t.image (start_in t) t.workers k log (Real h n) (not_of h t.workers worker k own a)))
    ]
