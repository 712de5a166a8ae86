-- What a search in the order of a rotation finds.
use Rattle.std.proofs.Common.{◌≡◌, ℕ, zero, suc, ◌%◌, ◌<◌, ◌≤◌, true, false, List, [], ◌∷◌, length, refl, ⊎_elim, arith}
use Rattle.std.proofs.lemmas.Bool.{cases_lt}
use Rattle.hart.specs.declared.hart.Hart.{Hart}
use Rattle.machine.specs.Harts.{is_live, hart_in}
use Rattle.machine.specs.States.{State}
use Rattle.pacing.specs.Serving.{comes_before, NoneBefore}

before_above : (g k h : ℕ) → g < h → comes_before g k h ≡ true → (g < k) × (k < h)
before_above g k h above before = (grind (arith, above, before), grind (arith, above, before))

before_below : (g k h : ℕ) → h ≤ g → comes_before g k h ≡ true → k ≤ g → k < h
before_below g k h below before rest = grind (arith, below, before, rest)

not_made : (hs : List Hart) (k : ℕ) → length hs ≤ k → is_live (hart_in hs k).status ≡ false
not_made [] k past = refl
not_made (x ∷ xs) zero past = absurd (omega (arith, past))
not_made (x ∷ xs) (suc k) past = not_made xs k (omega (arith, past))

pub none_above : (workers worker g h : ℕ) (s : State) → g < h
    → ((j : ℕ) → g < j → j < h → j % workers ≡ worker → is_live (hart_in s.harts j).status ≡ false) → NoneBefore workers worker g h s
none_above workers worker g h s above none k of_worker before =
    let order = before_above g k h above before in
    none k order.0 order.1 of_worker

pub none_below : (workers worker g h most : ℕ) (s : State) → h ≤ g → length s.harts ≤ most
    → ((j : ℕ) → g < j → j < most → j % workers ≡ worker → is_live (hart_in s.harts j).status ≡ false)
    → ((j : ℕ) → j < h → j % workers ≡ worker → is_live (hart_in s.harts j).status ≡ false) → NoneBefore workers worker g h s
none_below workers worker g h most s below made above rest k of_worker before =
    ⊎_elim
    (λ (late : g < k). ⊎_elim
    (λ (there : k < most). above k late there of_worker)
    (λ (past : most ≤ k). not_made s.harts k (omega (arith, made, past)))
    (cases_lt k most))
    (λ (early : k ≤ g). rest k (before_below g k h below before early) of_worker)
    (cases_lt g k)
