-- A run that has ended stays as it is, and a run of one hart more steps.
use Rattle.std.proofs.Common.{◌≡◌, ℕ, zero, suc, ◌+◌, true, List, [], ◌∷◌, ◌++◌, replicate, ap, sym, refl, ◌∙◌, arith, is_some}
use Rattle.image.specs.Picture.{Picture}
use Rattle.machine.specs.States.{State}
use Rattle.machine.specs.Steps.{original_step, original_run, step_with}

step_of_ended : (image : Picture) (h : ℕ) (s : State) → is_some s.outcome ≡ true → original_step image h s ≡ s
unfolding original_step step_with
step_of_ended image h s some = rw (some) refl

pub stays : (image : Picture) (hs : List ℕ) (s : State) → is_some s.outcome ≡ true → original_run image hs s ≡ s
stays image [] s some = refl
stays image (h ∷ hs) s some = ap (original_run image hs) (step_of_ended image h s some) ∙ stays image hs s some

-- a run of two lists, one after the other
pub run_append : (image : Picture) (hs ks : List ℕ) (s : State) → original_run image (hs ++ ks) s ≡ original_run image ks (original_run image hs s)
run_append image [] ks s = refl
run_append image (h ∷ hs) ks s = run_append image hs ks (original_step image h s)

pub one_more : (image : Picture) (h n : ℕ) (s : State) → original_run image (replicate (suc n) h) s ≡ original_step image h (original_run image (replicate n h) s)
one_more image h zero s = refl
one_more image h (suc n) s = one_more image h n (original_step image h s)

-- a run of some steps and then of others
pub run_both : (image : Picture) (h m n : ℕ) (s : State) → original_run image (replicate (m + n) h) s ≡ original_run image (replicate m h) (original_run image (replicate n h) s)
run_both image h zero n s =
    let e : zero + n ≡ n = omega arith in
    ap (λ (k : ℕ). original_run image (replicate k h) s) e
run_both image h (suc m) n s =
    let e : suc m + n ≡ suc (m + n) = omega arith in
    ap (λ (k : ℕ). original_run image (replicate k h) s) e ∙ one_more image h (m + n) s ∙ ap (original_step image h) (run_both image h m n s)
    ∙ sym (one_more image h m (original_run image (replicate n h) s))
