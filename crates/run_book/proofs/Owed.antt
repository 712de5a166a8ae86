-- What is due, by the marks, is what the log owes.
use Rattle.std.proofs.Common.{◌≡◌, ℕ, ◌+◌, Bool, true, false, refl, ◌∙◌}
use Rattle.std.specs.Prelude.{nat_le, not, ◌&&◌, is_some, if◌then◌else◌}
use Rattle.machine.specs.States.{State}
use Rattle.pacing.specs.Clocks.{Clock}
use Rattle.pacing.specs.Pacing.{owes_snap}
use Rattle.pacing.specs.Keeping.{is_overdue}
use Rattle.recorder.specs.declared.marks.Marks.{Marks}
use Rattle.recorder.specs.declared.marks.Due.{Due}
use Rattle.recorder.specs.declared.marks.Due.TheVariants.{Nothing, Snap, Pending, Overdue}
use Rattle.recorder.specs.Marking.{due_of}
use Rattle.run_book.specs.Sections.{IsMarked}

-- by what is tested: a snapshot is pending, it is late, the last attempt is long ago
abbrev tested : (pending late long : Bool) → Due
tested pending late long = if pending then (if late then Overdue else Pending) else (if long then Snap else Nothing)

module _ (every real : ℕ) (m : Marks) (c : Clock) (s : State) (marked : IsMarked c real m) (goes_on : is_some s.outcome ≡ false) where
  abbrev long : Bool
  long = nat_le (every + m.attempted_at) real

  owes_by : owes_snap every s c ≡ (not m.pending && long && not false)
  owes_by = λ i. not (marked.pending i) && nat_le (every + marked.attempted_at i) (marked.real_is i) && not (goes_on i)

  pub owed : due_of every real m ≡ Snap → owes_snap every s c ≡ true
  owed is = owes_by ∙ by_test m.pending (nat_le (every + m.snapped_at) real) long is
    where
      by_test : (a b d : Bool) → tested a b d ≡ Snap → (not a && d && not false) ≡ true
      by_test true true d is = absurd (cc)
      by_test true false d is = absurd (cc)
      by_test false b true is = refl
      by_test false b false is = absurd (cc)

  pub not_owed : (due_of every real m ≡ Snap → ⊥) → owes_snap every s c ≡ false
  not_owed n = owes_by ∙ by_test m.pending (nat_le (every + m.snapped_at) real) long n
    where
      by_test : (a b d : Bool) → (tested a b d ≡ Snap → ⊥) → (not a && d && not false) ≡ false
      by_test true b d n = refl
      by_test false b true n = absurd (n refl)
      by_test false b false n = refl

  late_by : is_overdue every s c ≡ (m.pending && nat_le (every + m.snapped_at) real && not false)
  late_by = λ i. marked.pending i && nat_le (every + marked.snapped_at i) (marked.real_is i) && not (goes_on i)

  pub not_late : (due_of every real m ≡ Overdue → ⊥) → is_overdue every s c ≡ false
  not_late n = late_by ∙ by_test m.pending (nat_le (every + m.snapped_at) real) long n
    where
      by_test : (a b d : Bool) → (tested a b d ≡ Overdue → ⊥) → (a && b && not false) ≡ false
      by_test true true d n = absurd (n refl)
      by_test true false d n = refl
      by_test false b d n = refl
