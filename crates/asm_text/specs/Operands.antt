-- Operands: each is the tokens between two commas.
use Rattle.std.specs.Prelude.{ℕ, ◌+◌, ◌-◌, ◌*◌, ℤ, Bool, true, false, ◌==◌, ◌&&◌, nat_le, List, [], ◌∷◌, ◌++◌, length, Option, Some, None, if◌then◌else◌}
use Rattle.std.specs.List.{slice_split}
use Rattle.std.specs.Option.{option_map}
use Rattle.texts.specs.Texts.{is_digit}
use Rattle.asm_text.specs.Tokens.{byte_at, is_name}
use Rattle.asm_text.specs.Numbers.{number_of}
use Rattle.asm_text.specs.declared.token.Token.{Token}
use Rattle.asm_text.specs.declared.token.Token.TheVariants.{Word, Text, Comma, Open, Close}
use Rattle.asm_text.specs.declared.operand.Target.{Target}
use Rattle.asm_text.specs.declared.operand.Target.TheVariants.{Name, Address}

-- what follows a value that is there
infixl 10 ◌>>=◌
abbrev pub ◌>>=◌ : {A B : Type 0} → Option A → (A → Option B) → Option B
(Some x) >>= f = f x
None >>= f = None

abbrev pub is_comma : Token → Bool
is_comma Comma = true
is_comma _ = false

abbrev pub operands : List Token → List (List Token)
operands ts = if length ts == 0 then [] else slice_split is_comma ts

-- x0 to x31, with no leading zero
unfoldable pub register_of : List ℕ → Option ℕ
register_of word =
    let tens = byte_at word 1 - 48 in
    let ones = byte_at word 2 - 48 in
    if length word == 2 && (byte_at word 0 == 120 && is_digit (byte_at word 1)) then Some tens
    else if length word == 3 && (byte_at word 0 == 120 && (nat_le 49 (byte_at word 1) && (nat_le (byte_at word 1) 51 && (is_digit (byte_at word 2) && nat_le (10 * tens + ones) 31)))) then Some (10 * tens + ones)
    else None

abbrev pub register_in : List Token → Option ℕ
register_in (Word word ∷ []) = register_of word
register_in _ = None

abbrev pub number_in : List Token → Option ℤ
number_in (Word word ∷ []) = number_of word
number_in _ = None

abbrev pub name_in : List Token → Option (List ℕ)
name_in (Word word ∷ []) = if is_name word then Some word else None
name_in _ = None

-- a name, or else a number
abbrev pub target_or : Option (List ℕ) → Option ℤ → Option Target
target_or (Some name) n = Some (Name name)
target_or None n = option_map (λ a. Address a) n

abbrev pub target_in : List Token → Option Target
target_in operand = target_or (name_in operand) (number_in operand)

-- n(rs1)
abbrev pub based_in : List Token → Option (ℤ × ℕ)
based_in (Word number ∷ Open ∷ Word base ∷ Close ∷ []) = do
  n ← number_of number
  rs1 ← register_of base
  Some (n, rs1)
based_in _ = None

-- (rs1)
abbrev pub base_in : List Token → Option ℕ
base_in (Open ∷ Word base ∷ Close ∷ []) = register_of base
base_in _ = None

-- The bytes of a quoted text, after those that are done and after a backslash or not: \n is a newline, and
-- nothing else follows a backslash (92).
abbrev pub unescaped : List ℕ → Bool → List ℕ → Option (List ℕ)
unescaped done false [] = Some done
unescaped done true [] = None
unescaped done true (c ∷ rest) = if c == 110 then unescaped (done ++ 10 ∷ []) false rest else None
unescaped done false (c ∷ rest) = if c == 92 then unescaped done true rest else unescaped (done ++ c ∷ []) false rest

abbrev pub text_in : List Token → Option (List ℕ)
text_in (Text text ∷ []) = unescaped [] false text
text_in _ = None
