-- Steps by a copy of the code, one after the other.
use Rattle.std.proofs.Common.{◌≡◌, ℕ, suc, ◌+◌, ◌*◌, ◌≤◌, ◌<◌, Bool, true, false, List, [], ◌∷◌, ◌++◌, length, length-append, append_assoc, append-nil, add-zero, take, drop, refl, sym, ap, ◌∙◌, subst, arith}
use Rattle.std.specs.Prelude.{Option, Some, None}
use Rattle.rv_isa.specs.Decoded.{decoded}
use Rattle.rv_isa.specs.declared.instr.Instr.{Instr}
use Rattle.hart.specs.declared.hart.Hart.{Hart}
use Rattle.layout.specs.declared.point.Point.{Point}
use Rattle.layout.specs.Points.{Code}
use Rattle.sim_laws.specs.Origins.{origin}
use Rattle.world.specs.Fetching.{led_by, led}
use Rattle.world.specs.Runs.{real_steps_of}
use Rattle.world.specs.Worlds.{Replaced, IsWorld, code_of}
use Rattle.std.proofs.Math.Seq.{drop-append_seam, take-append_seam}
use Rattle.world.specs.Adopting.{adopted, Shown, code_shown, shown_of}
use Rattle.ahead.specs.declared.note.Aimed.{Aimed}
use Rattle.ahead.specs.declared.note.Note.{Note}
use Rattle.ahead.specs.declared.note.Sort.{Sort}
use Rattle.ahead.specs.declared.note.Sort.TheVariants.{Layout}
use Rattle.ahead.specs.Notes.{first_apart, compared_note, compared_notes, compared_aim}
use Rattle.ahead.specs.Flown.{Place, place_of, Leads, AreSeen, Agree, IsAt, IsFlight, flight_to}
use Rattle.ahead.specs.Making.{gone, is_layout_at, sort_of, BeginsAt, MakesOne, Makes, Adds, AddsMany}
use Rattle.ahead.proofs.Agreeing.{both_notes, one_note, seen_note, same_both}
use Rattle.ahead.proofs.Alike.{given}
use Rattle.ahead.proofs.OneReal.{real_reaches, layout_reaches}
use Rattle.ahead.proofs.Joining.{stays, one_leads, joined_leads}
use Rattle.ahead.proofs.AimsSeen.{gone_seen}

-- ---- one real step
abbrev pub noted : (at word : ℕ) → Point → Instr → Option Aimed → Note
noted at word q i aim = record { at = at; word = word; point = q; sort = sort_of i; aim = aim }

pub makes_real : (m : ℕ) (s : Shown) (k new : Hart) (word : ℕ) (q : Point) (i : Instr) (aim : Option Aimed) → word < 4294967296
    → (code_shown s).word k.pc ≡ Some word → (code_shown s).point k.pc ≡ Some q → decoded word ≡ Some i → is_layout_at k.pc word q ≡ false
    → gone (origin (code_shown s)) s.image i k ≡ given true new aim → MakesOne (suc m) s k new (noted k.pc word q i aim ∷ [])
makes_real m s k new word q i aim low w p d l g =
    let n = noted k.pc word q i aim in
    record {
      few = omega arith;
      begins = refl;
      seen = one_note s.image (code_shown s) n (seen_note s.image (code_shown s) n w p (gone_seen s.image (code_shown s) i k new aim g));
      reaches = λ h. real_reaches m h n i (origin (code_shown s)) s.image k new refl low d refl l g;
    }

-- ---- a step of layouts alone before it
abbrev pub led_note : (at word : ℕ) → Point → Note
led_note at word q = record { at = at; word = word; point = q; sort = Layout; aim = None }

pub makes_layout : (m : ℕ) (s : Shown) (k new : Hart) (word : ℕ) (q : Point) (more : List Note) → word < 4294967296
    → (code_shown s).word k.pc ≡ Some word → (code_shown s).point k.pc ≡ Some q → is_layout_at k.pc word q ≡ true
    → MakesOne m s (led (led_by (decoded word) k.pc) k) new more → MakesOne (suc m) s k new (led_note k.pc word q ∷ more)
makes_layout m s k new word q more low w p l one =
    let n = led_note k.pc word q in
    let few = one.few in
    record {
      few = omega arith;
      begins = refl;
      seen = same_both (compared_note s.image (code_shown s) n) (compared_notes s.image (code_shown s) more) (seen_note s.image (code_shown s) n w p refl) one.seen;
      reaches = λ h. layout_reaches m h n more k (place_of new) refl low refl l (one.reaches h);
    }

-- ---- several
pub makes_none : (s : Shown) (k : Hart) → Makes 0 s k k []
makes_none s k = record {
  few = omega arith;
  seen = refl;
  leads = λ h before from ns a. rw (add-zero, append-nil) a;
}

module _ (n : ℕ) (s : Shown) (k mid new : Hart) (ms : List Note) (made : Makes n s k mid ms) where
  one_more_leads : (more : List Note) → BeginsAt mid.pc more → ((h : ℕ) → Leads h 1 (place_of mid) (place_of new) more)
      → (h before : ℕ) (from : Place) (ns : List Note) → Leads h before from (place_of k) ns → Leads h (before + (n + 1)) from (place_of new) (ns ++ (ms ++ more))
  one_more_leads [] b one h before from ns a = absurd b
  one_more_leads (m ∷ rest) b one h before from ns a =
      let joined = joined_leads h (before + n) from (place_of mid) (place_of new) (ns ++ ms) m rest b (made.leads h before from ns a) (one h) in
      let sums : before + n + 1 ≡ before + (n + 1) = omega arith in
      subst (λ (x : ℕ). Leads h x from (place_of new) (ns ++ (ms ++ m ∷ rest))) sums
      (subst (λ (xs : List Note). Leads h (before + n + 1) from (place_of new) xs) (append_assoc ns ms (m ∷ rest)) joined)

  pub makes_more : (more : List Note) → MakesOne 3 s mid new more → Makes (n + 1) s k new (ms ++ more)
  makes_more more one =
      let few = made.few in
      let last = one.few in
      record {
        few = omega (arith, length-append ms more);
        seen = both_notes s.image (code_shown s) ms more made.seen one.seen;
        leads = one_more_leads more one.begins (λ h. one_leads h (place_of mid) (place_of new) more (one.reaches h));
      }

-- ---- behind the notes before
pub adds_real : (m : ℕ) (s : Shown) (k new : Hart) (word : ℕ) (q : Point) (sort : Sort) (i : Instr) (aim : Option Aimed) (before after : List Note) → word < 4294967296
    → (code_shown s).word k.pc ≡ Some word → (code_shown s).point k.pc ≡ Some q → decoded word ≡ Some i → is_layout_at k.pc word q ≡ false → sort ≡ sort_of i
    → gone (origin (code_shown s)) s.image i k ≡ given true new aim
    → after ≡ before ++ (record { at = k.pc; word = word; point = q; sort = sort; aim = aim }) ∷ [] → Adds (suc m) s k new before after
adds_real m s k new word q sort i aim before after low w p d l e g a = record {
  notes = noted k.pc word q i aim ∷ [];
  added = a ∙ ap (λ (x : Sort). before ++ (record { at = k.pc; word = word; point = q; sort = x; aim = aim }) ∷ []) e;
  one = makes_real m s k new word q i aim low w p d l g;
}

pub adds_layout : (m : ℕ) (s : Shown) (k new : Hart) (word : ℕ) (q : Point) (before mid after : List Note) → word < 4294967296
    → (code_shown s).word k.pc ≡ Some word → (code_shown s).point k.pc ≡ Some q → is_layout_at k.pc word q ≡ true
    → mid ≡ before ++ led_note k.pc word q ∷ [] → Adds m s (led (led_by (decoded word) k.pc) k) new mid after → Adds (suc m) s k new before after
adds_layout m s k new word q before mid after low w p l e a = record {
  notes = led_note k.pc word q ∷ a.notes;
  added = a.added ∙ ap (λ (xs : List Note). xs ++ a.notes) e ∙ append_assoc before (led_note k.pc word q ∷ []) a.notes;
  one = makes_layout m s k new word q a.notes low w p l a.one;
}

pub adds_none : (s : Shown) (k : Hart) (before : List Note) → AddsMany 0 s k k before before
adds_none s k before = record { notes = []; added = sym (append-nil before); all = makes_none s k }

pub adds_more : (n : ℕ) (s : Shown) (k mid new : Hart) (before then after : List Note) → AddsMany n s k mid before then → Adds 3 s mid new then after → AddsMany (n + 1) s k new before after
adds_more n s k mid new before then after a b = record {
  notes = a.notes ++ b.notes;
  added = b.added ∙ ap (λ (xs : List Note). xs ++ b.notes) a.added ∙ append_assoc before a.notes b.notes;
  all = makes_more n s k mid new a.notes a.all b.notes b.one;
}

-- ---- all that were made
module _ (n : ℕ) (s : Shown) (k new : Hart) (before after : List Note) (a : AddsMany n s k new before after) where
  pub new_notes : drop (length before) after ≡ a.notes
  new_notes = ap (drop (length before)) a.added ∙ drop-append_seam before a.notes

  pub old_notes : take (length before) after ≡ before
  old_notes = ap (take (length before)) a.added ∙ take-append_seam before a.notes

  pub leads_new : (h : ℕ) → Leads h n (place_of k) (place_of new) (drop (length before) after)
  leads_new h =
      let l = a.all.leads h 0 (place_of k) [] (stays h (place_of k)) in
      let e : 0 + n ≡ n = omega arith in
      subst (λ (xs : List Note). Leads h n (place_of k) (place_of new) xs) (sym new_notes)
      (subst (λ (x : ℕ). Leads h x (place_of k) (place_of new) a.notes) e l)

  pub leads_all : (h made : ℕ) (from : Place) → Leads h made from (place_of k) before → Leads h (made + n) from (place_of new) after
  leads_all h made from l = subst (λ (xs : List Note). Leads h (made + n) from (place_of new) xs) (sym a.added) (a.all.leads h made from before l)

  pub seen_all : AreSeen s before → AreSeen s after
  seen_all e = subst (λ (xs : List Note). AreSeen s xs) (sym a.added) (both_notes s.image (code_shown s) before a.notes e a.all.seen)

  -- a world of this code
  agree_new : (w : Replaced) → shown_of w ≡ s → Agree w (drop (length before) after)
  agree_new w e = subst (λ (xs : List Note). Agree w xs) (sym new_notes) ((λ i. first_apart (compared_notes (e i).image (code_shown (e i)) a.notes)) ∙ a.all.seen)

  pub steps_new : (h : ℕ) (w : Replaced) → IsWorld w → shown_of w ≡ s → IsAt h (place_of k) w
      → real_steps_of n h w ≡ adopted h (flight_to (code_of w) (place_of new) n (drop (length before) after)) w
  steps_new h w sound e at = (leads_new h).leads w sound at (agree_new w e)

-- ---- what a hart that is away keeps
module _ (n : ℕ) (s shared : Shown) (k new : Hart) (before after : List Note) (same : s ≡ shared) (a : AddsMany n s k new before after) where
  a_too : AddsMany n shared k new before after
  a_too = subst (λ (x : Shown). AddsMany n x k new before after) same a

  pub next_flight : (hart code steps made : ℕ) (from : Place) → IsFlight (record { hart = hart; code = code; steps = steps; from = from; now = place_of k; made = made; notes = before; shared = shared })
      → made + n ≤ 64 → IsFlight (record { hart = hart; code = code; steps = steps; from = from; now = place_of new; made = made + n; notes = after; shared = shared })
  next_flight hart code steps made from flight most = record {
    most = most;
    seen = seen_all n shared k new before after a_too flight.seen;
    leads = leads_all n shared k new before after a_too hart made from flight.leads;
  }

  pub next_few : (made : ℕ) → length before ≤ 3 * made → length after ≤ 3 * (made + n)
  next_few made le = let few = a.all.few in let all = ap length a.added in omega (arith, length-append before a.notes)

  pub steps_seen : (h : ℕ) (w : Replaced) → IsWorld w → shown_of w ≡ shared → IsAt h (place_of k) w
      → real_steps_of n h w ≡ adopted h (flight_to (code_of w) (place_of new) n (drop (length before) after)) w
  steps_seen h w sound e at = steps_new n shared k new before after a_too h w sound e at
