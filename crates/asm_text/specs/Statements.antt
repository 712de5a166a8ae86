-- The statements of a text.
use Rattle.std.specs.Prelude.{ℕ, ◌+◌, Bool, true, false, List, [], ◌∷◌, ◌++◌, length, if◌then◌else◌}
use Rattle.std.specs.List.{slice_split, flat_map, list_all}
use Rattle.std.specs.Option.{option_map_or}
use Rattle.texts.specs.Texts.{lines_of}
use Rattle.asm_text.specs.Tokens.{tokens_of, is_name}
use Rattle.asm_text.specs.Operands.{operands}
use Rattle.asm_text.specs.Keywords.{keyword_of}
use Rattle.asm_text.specs.Bodies.{read}
use Rattle.asm_text.specs.declared.token.Token.{Token}
use Rattle.asm_text.specs.declared.token.Token.TheVariants.{Word, Colon, Semicolon}
use Rattle.asm_text.specs.declared.body.Body.{Body}
use Rattle.asm_text.specs.declared.body.Body.TheVariants.{Nothing, Unknown, Func, Object}
use Rattle.asm_text.specs.declared.statement.Statement.{Statement}

-- labels stand first, each before a colon
abbrev pub labels_of : List Token → List (List ℕ)
labels_of (Word name ∷ Colon ∷ ts) = name ∷ labels_of ts
labels_of _ = []

abbrev pub after_labels : List Token → List Token
after_labels (Word name ∷ Colon ∷ ts) = after_labels ts
after_labels ts = ts

-- what follows the labels: a name and operands
unfoldable pub whole : List Token → Body
whole [] = Nothing
whole (Word name ∷ ts) = option_map_or (λ keyword. read keyword (operands ts)) (keyword_of name) Unknown
whole (_ ∷ ts) = Unknown

-- a label that is no name makes its statement unknown
abbrev pub body_of : List Token → Body
body_of ts = if list_all is_name (labels_of ts) then whole (after_labels ts) else Unknown

-- an unknown statement has no labels
abbrev pub names_of : List Token → List (List ℕ)
names_of ts = if list_all is_name (labels_of ts) then labels_of ts else []

abbrev pub statement_of : ℕ → List Token → Statement
statement_of line ts = record { line = line; labels = names_of ts; body = body_of ts }

-- nothing between two semicolons is no statement
abbrev pub part_statements : ℕ → List Token → List Statement
part_statements line [] = []
part_statements line (t ∷ ts) = statement_of line (t ∷ ts) ∷ []

abbrev pub is_semicolon : Token → Bool
is_semicolon Semicolon = true
is_semicolon _ = false

-- the statements of a line, which semicolons part
abbrev pub line_statements : ℕ → List ℕ → List Statement
line_statements n line = flat_map (part_statements n) (slice_split is_semicolon (tokens_of line))

-- the statements of lines, from this number on
abbrev pub statements_from : ℕ → List (List ℕ) → List Statement
statements_from n [] = []
statements_from n (line ∷ lines) = line_statements n line ++ statements_from (n + 1) lines

unfoldable pub statements : List ℕ → List Statement
statements text = statements_from 1 (lines_of text)

-- the bytes that the name of a function or object takes in a table of strings, where a zero byte ends each
abbrev pub name_size : Body → ℕ
name_size (Func name) = length name + 1
name_size (Object name) = length name + 1
name_size _ = 0

abbrev pub weight : Statement → ℕ
weight x = 1 + name_size x.body
