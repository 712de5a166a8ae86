-- The tokens of a statement: its name, and its operands with a comma between two of them.
use Rattle.std.proofs.Common.{◌≡◌, ◌∙◌, ◌&&◌, ℕ, Bool, true, false, eqb, List, [], ◌∷◌, ◌++◌, sym, ap, refl, append_assoc, append-nil}
use Rattle.std.proofs.lemmas.Bool.{ne_eqb, false≢true}
use Rattle.std.specs.List.{list_all, AllByRecursion}
use Rattle.std.specs.Fmt.{signed_decimal}
use Rattle.asm_text.specs.Tokens.{is_name_byte, flush, tokens, tokens_of}
use Rattle.asm_text.specs.declared.token.Token.{Token}
use Rattle.asm_text.specs.declared.token.Token.TheVariants.{Word, Comma, Open, Close}
use Rattle.asm_text.specs.declared.token.Mode.TheVariants.{Plain}
use Rattle.disasm.specs.Shown.{Operand, register, number, hexadecimal, based, base, register_text, hex_text, base_text, operand_text, operands_text, statement}

pub left_of : (x y : Bool) → (x && y) ≡ true → x ≡ true
left_of true y both = refl
left_of false y both = both

pub right_of : (x y : Bool) → (x && y) ≡ true → y ≡ true
right_of true y both = both
right_of false y both = absurd (false≢true both)

-- ---- words

other_byte : (c d : ℕ) → is_name_byte c ≡ true → is_name_byte d ≡ false → eqb c d ≡ false
other_byte c d named other = ne_eqb c d (λ e. false≢true (sym other ∙ (sym (ap is_name_byte e) ∙ named)))

one_more : (c : ℕ) (word rest : List ℕ) → is_name_byte c ≡ true → tokens Plain word (c ∷ rest) ≡ tokens Plain (word ++ c ∷ []) rest
one_more c word rest name =
    rw (other_byte c 35 name refl, other_byte c 34 name refl, other_byte c 32 name refl, other_byte c 9 name refl, other_byte c 44 name refl, other_byte c 58 name refl, other_byte c 59 name refl, other_byte c 40 name refl, other_byte c 41 name refl, name) refl

goes_on : (more word rest : List ℕ) → list_all is_name_byte more ≡ true → tokens Plain word (more ++ rest) ≡ tokens Plain (word ++ more) rest
goes_on [] word rest all = ap (λ w. tokens Plain w rest) (sym (append-nil word))
goes_on (c ∷ more) word rest all =
    one_more c word (more ++ rest) (left_of (is_name_byte c) (list_all is_name_byte more) all)
    ∙ (goes_on more (word ++ c ∷ []) rest (right_of (is_name_byte c) (list_all is_name_byte more) all)
    ∙ ap (λ w. tokens Plain w rest) (append_assoc word (c ∷ []) more))

-- what follows ends a word
abbrev pub Ends : List ℕ → Type 0
Ends rest = (word : List ℕ) → tokens Plain word rest ≡ flush word ++ tokens Plain [] rest

ends_nothing : Ends []
ends_nothing word = sym (append-nil (flush word))

ends_comma : (rest : List ℕ) → Ends (44 ∷ rest)
ends_comma rest word = refl

ends_open : (rest : List ℕ) → Ends (40 ∷ rest)
ends_open rest word = refl

ends_close : (rest : List ℕ) → Ends (41 ∷ rest)
ends_close rest word = refl

ends_blank : (rest : List ℕ) → Ends (32 ∷ rest)
ends_blank rest word = refl

-- a byte that begins a word, and name bytes
abbrev pub IsWord : List ℕ → Type 0
IsWord [] = ⊥
IsWord (c ∷ more) = ((rest : List ℕ) → tokens Plain [] (c ∷ rest) ≡ tokens Plain (c ∷ []) rest) × (list_all is_name_byte more ≡ true)

pub a_name : (c : ℕ) (more : List ℕ) → list_all is_name_byte (c ∷ more) ≡ true → IsWord (c ∷ more)
a_name c more all =
    (λ rest. one_more c [] rest (left_of (is_name_byte c) (list_all is_name_byte more) all), right_of (is_name_byte c) (list_all is_name_byte more) all)

pub a_negative : (more : List ℕ) → list_all is_name_byte more ≡ true → IsWord (45 ∷ more)
a_negative more all = (λ rest. refl, all)

pub one_word : (word rest : List ℕ) → IsWord word → Ends rest → tokens Plain [] (word ++ rest) ≡ Word word ∷ tokens Plain [] rest
one_word [] rest is ends = absurd is
one_word (c ∷ more) rest is ends = is.0 (more ++ rest) ∙ (goes_on more (c ∷ []) rest is.1 ∙ ends (c ∷ more))

-- ---- operands

abbrev pub operand_tokens : Operand → List Token
operand_tokens (register n) = Word (register_text n) ∷ []
operand_tokens (number z) = Word (signed_decimal z) ∷ []
operand_tokens (hexadecimal n) = Word (hex_text n) ∷ []
operand_tokens (based z n) = Word (signed_decimal z) ∷ Open ∷ Word (register_text n) ∷ Close ∷ []
operand_tokens (base n) = Open ∷ Word (register_text n) ∷ Close ∷ []

abbrev pub all_tokens : List Operand → List Token
all_tokens [] = []
all_tokens (o ∷ []) = operand_tokens o
all_tokens (o ∷ p ∷ os) = operand_tokens o ++ Comma ∷ all_tokens (p ∷ os)

-- its parts are words
abbrev pub IsLexed : Operand → Type 0
IsLexed (register n) = IsWord (register_text n)
IsLexed (number z) = IsWord (signed_decimal z)
IsLexed (hexadecimal n) = IsWord (hex_text n)
IsLexed (based z n) = IsWord (signed_decimal z) × IsWord (register_text n)
IsLexed (base n) = IsWord (register_text n)

a_base : (n : ℕ) (rest : List ℕ) → IsWord (register_text n) → tokens Plain [] (base_text n ++ rest) ≡ Open ∷ Word (register_text n) ∷ Close ∷ tokens Plain [] rest
a_base n rest is =
    ap (λ more. tokens Plain [] (40 ∷ more)) (append_assoc (register_text n) (41 ∷ []) rest)
    ∙ ap (λ ts. Open ∷ ts) (one_word (register_text n) (41 ∷ rest) is (ends_close rest))

an_operand : (o : Operand) (rest : List ℕ) → IsLexed o → Ends rest → tokens Plain [] (operand_text o ++ rest) ≡ operand_tokens o ++ tokens Plain [] rest
an_operand (register n) rest is ends = one_word (register_text n) rest is ends
an_operand (number z) rest is ends = one_word (signed_decimal z) rest is ends
an_operand (hexadecimal n) rest is ends = one_word (hex_text n) rest is ends
an_operand (based z n) rest is ends =
    ap (tokens Plain []) (append_assoc (signed_decimal z) (base_text n) rest)
    ∙ (one_word (signed_decimal z) (base_text n ++ rest) is.0 (ends_open ((register_text n ++ 41 ∷ []) ++ rest))
    ∙ ap (λ ts. Word (signed_decimal z) ∷ ts) (a_base n rest is.1))
an_operand (base n) rest is ends = a_base n rest is

pub operands_lexed : (os : List Operand) → AllByRecursion IsLexed os → tokens Plain [] (operands_text os) ≡ all_tokens os
operands_lexed [] all = refl
operands_lexed (o ∷ []) all =
    ap (tokens Plain []) (sym (append-nil (operand_text o))) ∙ (an_operand o [] all.0 ends_nothing ∙ append-nil (operand_tokens o))
operands_lexed (o ∷ p ∷ os) all =
    ap (tokens Plain []) (append_assoc (operand_text o) (44 ∷ 32 ∷ []) (operands_text (p ∷ os)))
    ∙ (an_operand o (44 ∷ 32 ∷ operands_text (p ∷ os)) all.0 (ends_comma (32 ∷ operands_text (p ∷ os)))
    ∙ ap (λ ts. operand_tokens o ++ Comma ∷ ts) (operands_lexed (p ∷ os) all.1))

pub lexed : (name : List ℕ) (os : List Operand) → IsWord name → AllByRecursion IsLexed os → tokens_of (statement name os) ≡ Word name ∷ all_tokens os
unfolding tokens_of
lexed name [] is all = ap (tokens Plain []) (sym (append-nil name)) ∙ one_word name [] is ends_nothing
lexed name (o ∷ os) is all =
    ap (tokens Plain []) (append_assoc name (32 ∷ []) (operands_text (o ∷ os)))
    ∙ (one_word name (32 ∷ operands_text (o ∷ os)) is (ends_blank (operands_text (o ∷ os)))
    ∙ ap (λ ts. Word name ∷ ts) (operands_lexed (o ∷ os) all))
