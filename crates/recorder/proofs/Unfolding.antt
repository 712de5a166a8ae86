-- What a log asks for, after one more step or entry.
use Rattle.std.proofs.Common.{◌≡◌, ℕ, ◌+◌, Bool, true, false, List, [], ◌∷◌, ◌++◌, append_assoc, refl, sym, ap, ◌∙◌}
use Rattle.std.specs.Prelude.{Option, Some, None}
use Rattle.std.proofs.lemmas.Grind.{flat_map-append}
use Rattle.std.proofs.lemmas.List.{append-nil, replicate_more}
use Rattle.plans.specs.declared.plan.Moved.{Moved}
use Rattle.sched_log.specs.declared.event.Event.{Event}
use Rattle.sched_log.specs.declared.event.Event.TheVariants.{Snap, Given, Retire}
use Rattle.recorder.specs.declared.journal.Asked.{Asked}
use Rattle.recorder.specs.declared.journal.Asked.TheVariants.{Step, RealStep}
use Rattle.recorder.specs.Journals.{Journal, atoms_of, unfolded, atom_of, entry_of, count_in, longer, with_step, entries_with, noted, entered, unless}
use Rattle.recorder.proofs.Counting.{counted_entry}
use Rattle.world.specs.Runs.{Atom, a_step, a_real_step, a_replacement, a_retirement, a_snap}

one_step : (a : Asked) → atoms_of (entry_of a 1) ≡ atom_of a ∷ []
unfolding atoms_of
one_step (Step h) = refl
one_step (RealStep h) = refl

one_more : (a : Asked) (n : ℕ) → atoms_of (entry_of a (n + 1)) ≡ atoms_of (entry_of a n) ++ atom_of a ∷ []
unfolding atoms_of
one_more (Step h) n = sym (replicate_more n (a_step h))
one_more (RealStep h) n = sym (replicate_more n (a_real_step h))

only : (e : Event) → unfolded (e ∷ []) ≡ atoms_of e
unfolding unfolded
only e = append-nil (atoms_of e)

first : (e : Event) (log : List Event) → unfolded (e ∷ log) ≡ atoms_of e ++ unfolded log
unfolding unfolded
first e log = refl

pub last : (log : List Event) (e : Event) → unfolded (log ++ e ∷ []) ≡ unfolded log ++ atoms_of e
unfolding unfolded
last log e = flat_map-append atoms_of log (e ∷ []) ∙ ap (λ x. unfolded log ++ x) (only e)

longer_unfolds : (a : Asked) (e : Event) (c : Option ℕ) → count_in a e ≡ c → unfolded (longer a e c) ≡ unfolded (e ∷ []) ++ atom_of a ∷ []
longer_unfolds a e (Some n) is =
    only (entry_of a (n + 1)) ∙ one_more a n ∙ ap (λ x. x ++ atom_of a ∷ []) (ap atoms_of (sym (counted_entry a e n is)) ∙ sym (only e))
longer_unfolds a e None is = last (e ∷ []) (entry_of a 1) ∙ ap (λ x. unfolded (e ∷ []) ++ x) (one_step a)

step_unfolds : (a : Asked) (log : List Event) → unfolded (with_step a log) ≡ unfolded log ++ atom_of a ∷ []
unfolding with_step unfolded
step_unfolds a [] = only (entry_of a 1) ∙ one_step a
step_unfolds a (e ∷ []) = longer_unfolds a e (count_in a e) refl
step_unfolds a (e ∷ d ∷ log) =
    first e (with_step a (d ∷ log)) ∙ ap (λ x. atoms_of e ++ x) (step_unfolds a (d ∷ log)) ∙ sym (append_assoc (atoms_of e) (unfolded (d ∷ log)) (atom_of a ∷ []))
    ∙ ap (λ x. x ++ atom_of a ∷ []) (sym (first e (d ∷ log)))

with_unfolds : (a : Asked) (is_open : Bool) (log : List Event) → unfolded (entries_with a is_open log) ≡ unfolded log ++ atom_of a ∷ []
with_unfolds a true log = step_unfolds a log
with_unfolds a false log = last log (entry_of a 1) ∙ ap (λ x. unfolded log ++ x) (one_step a)

pub noted_unfolds : (left_out : Bool) (a : Asked) (j k : Journal) → k ≡ noted left_out a j → unfolded k.entries ≡ unfolded j.entries ++ unless left_out (atom_of a)
noted_unfolds true a j k is = ap (λ (x : Journal). unfolded x.entries) is ∙ sym (append-nil (unfolded j.entries))
noted_unfolds false a j k is = ap (λ (x : Journal). unfolded x.entries) is ∙ with_unfolds a j.is_open j.entries

pub entered_unfolds : (left_out : Bool) (e : Event) (a : Atom) (j k : Journal) → atoms_of e ≡ a ∷ [] → k ≡ entered left_out e j
    → unfolded k.entries ≡ unfolded j.entries ++ unless left_out a
entered_unfolds true e a j k one is = ap (λ (x : Journal). unfolded x.entries) is ∙ sym (append-nil (unfolded j.entries))
entered_unfolds false e a j k one is = ap (λ (x : Journal). unfolded x.entries) is ∙ last j.entries e ∙ ap (λ x. unfolded j.entries ++ x) one

-- ---- what the other entries ask for
pub snap_atom : atoms_of Snap ≡ a_snap ∷ []
unfolding atoms_of
snap_atom = refl

pub given_atom : (plan : List Moved) → atoms_of (Given plan) ≡ a_replacement plan ∷ []
unfolding atoms_of
given_atom plan = refl

pub retire_atom : atoms_of Retire ≡ a_retirement ∷ []
unfolding atoms_of
retire_atom = refl
