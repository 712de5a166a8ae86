-- The program of the guest, part by part.
use Rattle.std.specs.Prelude.{◌≡◌, ℕ, ◌+◌, ◌*◌, pos, codes, List, [], ◌∷◌, ◌++◌, length, drop, replicate}
use Rattle.std.specs.List.{flat_map}
use Rattle.std.specs.Int.{to_le_bytes, w64}
use Rattle.rv_asm.specs.Emission.{AreWords}
use Rattle.rv_asm.specs.declared.code.Code.{Code}
use Rattle.rv_asm.specs.declared.program.Program.{Program}
use Rattle.rv_asm.specs.declared.symbol.Fixup.{Fixup}
use Rattle.rv_asm.specs.declared.symbol.Named.{Named}
use Rattle.guest_gen.specs.Guest.{start, worker, adder}

pub record Function : Type 0 where
  pub name : List ℕ
  pub code : List Code

abbrev function : List ℕ → List Code → Function
function name code = record { name = name; code = code }

-- The functions of the guest of n thousand rounds: start, worker, and those of the table, of which w_k adds k + 1.
abbrev pub functions : ℕ → List Function
functions n =
    function (codes "start") start
    ∷ function (codes "worker") (worker (pos n))
    ∷ function (codes "w0") (adder (pos 1))
    ∷ function (codes "w1") (adder (pos 2))
    ∷ function (codes "w2") (adder (pos 3))
    ∷ function (codes "w3") (adder (pos 4))
    ∷ function (codes "w4") (adder (pos 5))
    ∷ function (codes "w5") (adder (pos 6))
    ∷ function (codes "w6") (adder (pos 7))
    ∷ function (codes "w7") (adder (pos 8))
    ∷ []

-- the instructions of all functions, one function behind the other
abbrev pub text : ℕ → List Code
text n = flat_map (λ f. f.code) (functions n)

-- their names and places, from an address on
abbrev pub placed : ℕ → List Function → List Named
placed at [] = []
placed at (f ∷ fs) = let end = at + 4 * length f.code in record { name = f.name; from = at; to = end } ∷ placed end fs

abbrev pub funcs : ℕ → List Named
funcs n = placed 0x10000 (functions n)

-- the table: a slot of 8 bytes for each function from the third on
abbrev pub table : Named
table = record { name = codes "_ZTV4Work"; from = 0x11000; to = 0x11040 }

abbrev pub slot_bytes : Named → List ℕ
slot_bytes f = to_le_bytes w64 f.from

-- Data: the table; zeros for the words of five threads, the counter, and what is to be the part of the digits; the part of the
-- newline, its address and length; zeros for eight digits; the newline.
abbrev pub data_of : List Named → List ℕ
data_of fs =
    flat_map slot_bytes (drop 2 fs)
    ++ replicate 64 0
    ++ to_le_bytes w64 0x11098 ++ to_le_bytes w64 1
    ++ replicate 8 0
    ++ codes "\n"

-- slot k holds the function k + 2
abbrev pub fixup_of_slot : ℕ → Fixup
fixup_of_slot k = record { at = 0x11000 + 8 * k; kind = 2; func = k + 2 }

-- the thread's call of worker, the 66th word of text, and the eight slots
abbrev pub fixups : List Fixup
fixups =
    record { at = 0x10000 + 4 * 65; kind = 17; func = 1 }
    ∷ fixup_of_slot 0 ∷ fixup_of_slot 1 ∷ fixup_of_slot 2 ∷ fixup_of_slot 3
    ∷ fixup_of_slot 4 ∷ fixup_of_slot 5 ∷ fixup_of_slot 6 ∷ fixup_of_slot 7 ∷ []

-- the program is the guest of n thousand rounds
pub record IsGenerated (n : ℕ) (p : Program) : Type 0 where
  pub words : AreWords p.text (text n)
  pub in_data : p.bytes ≡ data_of (funcs n)
  pub start_at : p.entry ≡ 0x10000
  pub functions_are : p.funcs ≡ funcs n
  pub objects_are : p.objects ≡ table ∷ []
  pub relocations : p.fixups ≡ fixups
