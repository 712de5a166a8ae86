-- A region as a text writes it.
use Rattle.std.proofs.Common.{◌≡◌, ◌+◌, ℕ, List, [], length, eqb, Bool, Option, Some, None, Bor, MatchOption, refl, arith, lit<}
use Rattle.std.specs.List.{after_first, position_or_len}
use Rattle.std.proofs.lemmas.List.{drop_all}
use Rattle.std.proofs.lemmas.Str.Pattern.{IsSplitOnceResult, split_once_first}
use Rattle.command_words.specs.Numbers.{number_of, decimal_of, region_from, region_of}

pub no_base : (size : Option ℕ) → region_from None size ≡ None
unfolding region_from
no_base size = refl

pub no_size : (base : Option ℕ) → region_from base None ≡ None
unfolding region_from
no_size None = refl
no_size (Some base) = refl

no_number : number_of [] ≡ None
unfolding number_of decimal_of
no_number = refl

nothing_after : (p : ℕ → Bool) (text : List ℕ) → position_or_len p text ≡ length text → after_first p text ≡ []
nothing_after p text whole = drop_all (position_or_len p text + 1) text (omega (arith, whole))

pub parted : (text : List ℕ) (r : Option (Bor (List ℕ) × Bor (List ℕ))) → IsSplitOnceResult 58 text r
    → MatchOption r (region_of text ≡ None) (λ x. region_of text ≡ region_from (number_of x.0.now) (number_of x.1.now))
unfolding region_of
parted text None split =
    let none = nothing_after (λ b. eqb b 58) text (split_once_first 58 text None split (lit< tt)) in
    rw (none, no_number) (no_size _)
parted text (Some x) split =
    let (inside, front, back) = split_once_first 58 text (Some x) split (lit< tt) in
    rw (front, back) refl
