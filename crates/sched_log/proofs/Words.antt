-- A line of more than three words.
use Rattle.std.proofs.Common.{◌≡◌, ℕ, ◌<◌, Bool, true, false, List, [], ◌∷◌, length, Option, Some, None, refl, arith, eqb, cond}
use Rattle.std.specs.Option.{is_some}
use Rattle.std.specs.List.{slice_split}
use Rattle.std.proofs.lemmas.List.Splits.{length-slice_split}
use Rattle.sched_log.specs.Plans.{any_empty}
use Rattle.sched_log.specs.Lines.{by_words, command}
use Rattle.sched_log.specs.Parts.{parts_behind}
use Rattle.sched_log.specs.declared.line.Line.TheVariants.{Wrong}

cond_same : {X : Type 0} (b : Bool) (x : X) → cond b x x ≡ x
cond_same true x = refl
cond_same false x = refl

four : (a b c : List ℕ) (words : List (List ℕ)) → 0 < length words → by_words (a ∷ b ∷ c ∷ words) ≡ Wrong 1
unfolding command
four a b c [] some = absurd (omega (arith, some))
four a b c (w ∷ ws) some = cond_same (any_empty (a ∷ b ∷ c ∷ w ∷ ws)) (Wrong 1)

pub too_many : (a b c : List ℕ) (rest : Option (List ℕ)) → is_some rest ≡ true → by_words (a ∷ b ∷ c ∷ parts_behind 32 rest) ≡ Wrong 1
too_many a b c (Some rest) some = four a b c (slice_split (λ x. eqb x 32) rest) (omega (arith, length-slice_split (λ x. eqb x 32) rest))
too_many a b c None some = cc
