-- What the words of a call say: assemble a text, or generate a guest.
use Rattle.std.specs.Prelude.{◌≡◌, ℕ, ◌≤◌, ℤ, pos, unsigned_abs, int_le, ◌&&◌, nat_lt, List, [], ◌∷◌, codes, bytes_eq, length, Option, Some, None, if◌then◌else◌}
use Rattle.asm_text.specs.Numbers.{number_of}
use Rattle.guest_gen.specs.declared.decision.Refusal.{Refusal}
use Rattle.guest_gen.specs.declared.decision.Refusal.TheVariants.{Usage, NoMemory}
use Rattle.guest_gen.specs.declared.words.Form.{Form}
use Rattle.guest_gen.specs.declared.words.Form.TheVariants.{Assemble, Generate}

-- a number of thousands of rounds: from 1 to 1000
abbrev pub in_thousand : Option ℤ → Option ℕ
in_thousand None = None
in_thousand (Some z) = if int_le (pos 1) z && int_le z (pos 1000) then Some (unsigned_abs z) else None

-- the number that a word of at most ten bytes writes: decimal digits, or 0x and hexadecimal digits
unfoldable pub count_in : List ℕ → Option ℕ
count_in word = if nat_lt 10 (length word) then None else in_thousand (number_of word)

abbrev pub generated : List ℕ → Option ℕ → List ℕ → Option Form
generated option None output = None
generated option (Some n) output = if bytes_eq option (codes "--generate") then Some (Generate n output) else None

-- IN OUT, or --generate N OUT
abbrev pub form_of : List (List ℕ) → Option Form
form_of (input ∷ output ∷ []) = Some (Assemble input output)
form_of (option ∷ count ∷ output ∷ []) = generated option (count_in count) output
form_of words = None

-- words without a form are refused so, but out of memory
abbrev pub SaysNothing : Option Form → Refusal → Type 0
SaysNothing form Usage = form ≡ None
SaysNothing form NoMemory = Unit {0}
SaysNothing form _ = ⊥

-- the number of a guest is in its range
abbrev pub IsCounted : Form → Type 0
IsCounted (Assemble input output) = Unit {0}
IsCounted (Generate n output) = (1 ≤ n) × (n ≤ 1000)

-- the files that are read, and the one that is written
abbrev pub inputs_of : Form → List (List ℕ)
inputs_of (Assemble input output) = input ∷ []
inputs_of (Generate n output) = []

abbrev pub output_of : Form → List ℕ
output_of (Assemble input output) = output
output_of (Generate n output) = output
