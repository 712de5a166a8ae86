-- The words of a function as instructions, and where they may go.
use Rattle.std.specs.Prelude.{ℕ, zero, suc, ◌+◌, ◌-◌, ◌/◌, Bool, true, false, not, ◌==◌, List, [], ◌∷◌, Option, option_and_then}
use Rattle.std.specs.List.{filter_map}
use Rattle.std.specs.Option.{option_map}
use Rattle.rv_isa.specs.Decoded.{decoded}
use Rattle.rv_isa.specs.declared.instr.Instr.{Instr}
use Rattle.rv_isa.specs.declared.instr.Instr.TheVariants.{Jal, Jalr, Branch}
use Rattle.image.specs.declared.ranges.TextRange.{TextRange}
use Rattle.image.specs.declared.ranges.Func.{Func}
use Rattle.image.specs.Texts.{word_at}
use Rattle.blocks.specs.declared.word.Word.{Word}

abbrev pub word_of : ℕ → ℕ → Instr → Word
word_of a w i = record { at = a; word = w; instr = i }

-- the word of text at an address, if it reads as an instruction
unfoldable pub word_read : List TextRange → ℕ → Option Word
word_read texts a = option_and_then (λ w. option_map (word_of a w) (decoded w)) (word_at texts a)

-- the addresses of n words, from a on
abbrev pub addresses : ℕ → ℕ → List ℕ
addresses a zero = []
addresses a (suc n) = a ∷ addresses (a + 4) n

-- the addresses of a function's words
abbrev pub places_of : Func → List ℕ
places_of f = addresses f.from ((f.to - f.from) / 4)

-- a function's words
unfoldable pub words_of : List TextRange → Func → List Word
words_of texts f = filter_map (word_read texts) (places_of f)

-- after the instruction its next word may come by itself, or by a return: it is no branch, and no jump that keeps no link
abbrev pub falls_of : Instr → Bool
falls_of (Branch c rs1 rs2 off) = false
falls_of (Jal rd off) = not (rd == 0)
falls_of (Jalr rd rs1 off) = not (rd == 0)
falls_of _ = true
