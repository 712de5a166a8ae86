-- What is found among the matches is what the words say.
use Rattle.std.proofs.Common.{◌≡◌, ℕ, List, true, false, Option, None, refl, sym, subst}
use Rattle.clap.specs.Words.{App, first_value, is_simple_and_free, matches_of, rows_of}
use Rattle.clap.specs.declared.parser.matches.Found.{Found}
use Rattle.command_words.specs.Commands.{is_taken}
use Rattle.command_words.proofs.Reading as reading
use Rattle.look_words.specs.Words.{command, words_by, words_of}
use Rattle.look_words.specs.declared.words.Words.{Words}

is_simple : is_simple_and_free command ≡ true
is_simple = refl

pub simple : (a : App) → a ≡ command → is_simple_and_free a ≡ true
simple a is = subst (λ a. is_simple_and_free a ≡ true) (sym is) is_simple

pub said : (a : App) (words : List (List ℕ)) (f : Found) (o : Option Words) → a ≡ command → is_taken a words ≡ true → rows_of f ≡ matches_of a words → words_by (first_value f) ≡ o → words_of words ≡ o
unfolding words_of
said a words f o = reading.said a command words_by words f o

pub unsaid : (a : App) (words : List (List ℕ)) → a ≡ command → is_taken a words ≡ false → words_of words ≡ None
unfolding words_of
unsaid a words = reading.unsaid a command words_by words
