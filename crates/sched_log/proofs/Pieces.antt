-- Parts of a text that are read from the front.
use Rattle.std.proofs.Common.{◌≡◌, ℕ, ◌+◌, ◌<◌, List, [], ◌∷◌, ◌++◌, length, Option, Some, None, refl, ap, sym, subst, arith, eqb, append_assoc, ◌∙◌}
use Rattle.std.specs.Prelude.{⊤}
use Rattle.std.specs.Option.{option_map}
use Rattle.std.proofs.lemmas.List.{append-nil}
use Rattle.std.proofs.lemmas.List.Splits.{length-slice_split}
use Rattle.plans.specs.declared.plan.Moved.{Moved}
use Rattle.sched_log.specs.Parts.{parts_behind}
use Rattle.sched_log.specs.Plans.{pieces, with_first, all_of, moved_of, parts_of}

-- how much is left to read
abbrev pub left : Option (List ℕ) → ℕ
left None = 0
left (Some rest) = length rest + 1

-- what was read, and then the rest, where all of it is read
abbrev pub behind_all : {Y : Type 0} → List Y → Option (List Y) → Option (List Y)
behind_all made rest = option_map (λ more. made ++ more) rest

-- one element more was read
pub read_more : {X Y : Type 0} (f : X → Option Y) (made : List Y) (x : X) (xs : List X) (y : Y) → Some y ≡ f x → behind_all made (all_of f (x ∷ xs)) ≡ behind_all (made ++ y ∷ []) (all_of f xs)
read_more f made x xs y is = rw (sym is) (shifted made y (all_of f xs))
  where
    shifted : {Y : Type 0} (made : List Y) (y : Y) (rest : Option (List Y)) → behind_all made (with_first (Some y) rest) ≡ behind_all (made ++ y ∷ []) rest
    shifted made y None = refl
    shifted made y (Some ys) = ap (λ all. Some all) (sym (append_assoc made (y ∷ []) ys))

-- an element isn't read
pub read_none : {X Y : Type 0} (f : X → Option Y) (made : List Y) (x : X) (xs : List X) → None ≡ f x → behind_all made (all_of f (x ∷ xs)) ≡ None
read_none f made x xs is = rw (sym is) refl

-- all was read
pub read_all : {X Y : Type 0} (f : X → Option Y) (made : List Y) → behind_all made (all_of f []) ≡ Some made
read_all f made = ap (λ all. Some all) (append-nil made)

-- as many were read as there are
abbrev Sized : {Y : Type 0} → Option (List Y) → ℕ → Type 0
Sized None n = ⊤
Sized (Some ys) n = length ys ≡ n

one_longer : {Y : Type 0} (first : Option Y) (rest : Option (List Y)) (n : ℕ) → Sized rest n → Sized (with_first first rest) (1 + n)
one_longer None rest n sized = tt
one_longer (Some y) None n sized = tt
one_longer (Some y) (Some ys) n sized = omega (arith, sized)

all_sized : {X Y : Type 0} (f : X → Option Y) (xs : List X) → Sized (all_of f xs) (length xs)
all_sized f [] = refl
all_sized f (x ∷ xs) = subst (Sized (with_first (f x) (all_of f xs))) (omega arith) (one_longer (f x) (all_of f xs) (length xs) (all_sized f xs))

pub some_read : (text : List ℕ) (parts : List Moved) (rest : Option (List ℕ)) → rest ≡ None → behind_all parts (all_of moved_of (parts_behind 59 rest)) ≡ parts_of text → 0 < length parts
unfolding parts_of
some_read text parts rest done is =
    let all : all_of moved_of (pieces text) ≡ Some parts = sym is ∙ ap (λ r. behind_all parts (all_of moved_of (parts_behind 59 r))) done ∙ read_all moved_of parts in
    let sized : length parts ≡ length (pieces text) = subst (λ o. Sized o (length (pieces text))) all (all_sized moved_of (pieces text)) in
    omega (arith, sized, length-slice_split (λ b. eqb b 59) text)
