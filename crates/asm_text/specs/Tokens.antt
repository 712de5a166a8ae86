-- The tokens of a line.
use Rattle.std.specs.Prelude.{ℕ, Bool, not, nat_lt, nat_le, ◌==◌, ◌||◌, ◌&&◌, List, [], ◌∷◌, ◌++◌, length, if◌then◌else◌}
use Rattle.std.specs.List.{slice_index_or, list_all}
use Rattle.texts.specs.Texts.{is_digit}
use Rattle.asm_text.specs.declared.token.Token.{Token}
use Rattle.asm_text.specs.declared.token.Token.TheVariants.{Word, Text, Comma, Colon, Semicolon, Open, Close, Broken}
use Rattle.asm_text.specs.declared.token.Mode.{Mode}
use Rattle.asm_text.specs.declared.token.Mode.TheVariants.{Plain, Quoted, Comment}

-- the byte at a place, and 0 past the end
abbrev pub byte_at : List ℕ → ℕ → ℕ
byte_at word i = slice_index_or word i 0

-- a letter, a digit, _, . or $
abbrev pub is_name_byte : ℕ → Bool
is_name_byte c = (nat_le 97 c && nat_le c 122) || ((nat_le 65 c && nat_le c 90) || (is_digit c || (c == 95 || (c == 46 || c == 36))))

-- name bytes, and no digit first
unfoldable pub is_name : List ℕ → Bool
is_name word = nat_lt 0 (length word) && (not (is_digit (byte_at word 0)) && list_all is_name_byte word)

-- space and tab
abbrev pub is_blank : ℕ → Bool
is_blank c = c == 32 || c == 9

-- the word that ends here, if one stands here
abbrev pub flush : List ℕ → List Token
flush [] = []
flush (c ∷ word) = Word (c ∷ word) ∷ []

-- What is left of a line, after the word or the quoted text that is open. In the order of the tests: # begins a comment,
-- " a quoted text; blanks and the marks , : ; ( ) end a word; a name byte goes on with it, and any other byte begins a new one.
abbrev pub tokens : Mode → List ℕ → List ℕ → List Token
tokens Plain word [] = flush word
tokens Quoted text [] = Broken ∷ []
tokens Comment word [] = []
tokens Plain word (c ∷ rest) =
    if c == 35 then flush word ++ tokens Comment [] rest
    else if c == 34 then flush word ++ tokens Quoted [] rest
    else if is_blank c then flush word ++ tokens Plain [] rest
    else if c == 44 then flush word ++ Comma ∷ tokens Plain [] rest
    else if c == 58 then flush word ++ Colon ∷ tokens Plain [] rest
    else if c == 59 then flush word ++ Semicolon ∷ tokens Plain [] rest
    else if c == 40 then flush word ++ Open ∷ tokens Plain [] rest
    else if c == 41 then flush word ++ Close ∷ tokens Plain [] rest
    else if is_name_byte c then tokens Plain (word ++ c ∷ []) rest
    else flush word ++ tokens Plain (c ∷ []) rest
tokens Quoted text (c ∷ rest) =
    if c == 34 then Text text ∷ tokens Plain [] rest
    else tokens Quoted (text ++ c ∷ []) rest
tokens Comment word (c ∷ rest) = tokens Comment word rest

-- the tokens of a whole line
unfoldable pub tokens_of : List ℕ → List Token
tokens_of line = tokens Plain [] line
