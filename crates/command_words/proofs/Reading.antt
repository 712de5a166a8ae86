-- What is found among the matches of a command is what its words say.
use Rattle.std.proofs.Common.{◌≡◌, ◌∙◌, ◌==◌, ◌&&◌, ℕ, Bool, List, [], ◌∷◌, length, true, false, Option, None, inl, inr, sym, subst, ap, arith, refl}
use Rattle.std.proofs.lemmas.Bool.{ne_eqb}
use Rattle.clap.specs.Words.{App, HasKind, HasMatchesOf, Kinds, first_value, first_of, fault_of, found_of, is_simple, is_simple_and_free, kind_of, matches_of, rows_of}
use Rattle.clap.specs.declared.error.Error.{Error}
use Rattle.clap.specs.declared.error.kind.ErrorKind.TheVariants.{OutOfMemory}
use Rattle.clap.specs.declared.parser.matches.ArgMatches.{ArgMatches}
use Rattle.clap.specs.declared.parser.matches.Found.{Found}
use Rattle.clap.proofs.WalkLemmas.{first_value-rows}
use Rattle.command_words.specs.Commands.{is_taken, said_by}

-- ---- what the library answers

pub none_is_taken : (a : App) (words : List (List ℕ)) → fault_of a words ≡ [] → is_taken a words ≡ true
unfolding is_taken
none_is_taken a words none = rw none refl

some_kind : (kinds : Kinds) (e : Error) → HasKind kinds e → (kind_of e ≡ OutOfMemory → ⊥) → (length kinds == 0) ≡ false
some_kind [] e (inl memory) other = absurd (other memory)
some_kind [] e (inr nowhere) other = absurd nowhere
some_kind (k ∷ kinds) e has other = ne_eqb (length (k ∷ kinds)) 0 (λ e. omega (arith, e))

pub some_is_refused : (a : App) (words : List (List ℕ)) (e : Error) → HasKind (fault_of a words) e → (kind_of e ≡ OutOfMemory → ⊥) → is_taken a words ≡ false
unfolding is_taken
some_is_refused a words e has other = some_kind (fault_of a words) e has other

left_of : (x y : Bool) → (x && y) ≡ true → x ≡ true
left_of true y both = refl
left_of false y both = both

pub rows_are : (a : App) (words : List (List ℕ)) (m : ArgMatches) → is_simple_and_free a ≡ true → HasMatchesOf a words m → rows_of (found_of m) ≡ matches_of a words
rows_are a words m simple has = (has (left_of (is_simple a) _ simple)).0

-- ---- what the words say

-- a reading of the values that are found is one of the rows
by_rows : {A : Type 0} (says : (List ℕ → Option (List ℕ)) → Option A) (f : Found) → says (first_value f) ≡ says (λ name. first_of name (rows_of f))
by_rows says f = ap says (λ i name. first_value-rows f name i)

-- the library was asked with a command that is this one
pub said : {A : Type 0} (a command : App) (says : (List ℕ → Option (List ℕ)) → Option A) (words : List (List ℕ)) (f : Found) (o : Option A)
    → a ≡ command → is_taken a words ≡ true → rows_of f ≡ matches_of a words → says (first_value f) ≡ o → said_by command says words ≡ o
unfolding said_by
said a command says words f o is taken rows by =
    let taken : is_taken command words ≡ true = subst (λ a. is_taken a words ≡ true) is taken in
    let rows : rows_of f ≡ matches_of command words = subst (λ a. rows_of f ≡ matches_of a words) is rows in
    rw taken (ap (λ rows. says (λ name. first_of name rows)) (sym rows) ∙ (sym (by_rows says f) ∙ by))

pub unsaid : {A : Type 0} (a command : App) (says : (List ℕ → Option (List ℕ)) → Option A) (words : List (List ℕ)) → a ≡ command → is_taken a words ≡ false → said_by command says words ≡ None
unfolding said_by
unsaid a command says words is refused =
    let refused : is_taken command words ≡ false = subst (λ a. is_taken a words ≡ false) is refused in
    rw refused refl
