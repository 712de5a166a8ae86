-- An instruction is decoded of one word of 32 bits.
use Rattle.std.proofs.Common.{◌≡◌, ◌<◌, ◌^◌, ℕ, Some}
use Rattle.rv_isa.specs.Decoded.{decoded}
use Rattle.rv_isa.specs.declared.instr.Instr.{Instr}
use Rattle.rv_decode.proofs.Decoded.{decoded_read}
use Rattle.rv_encode.proofs.OneWord.{one_word}

pub one_decoded : (v w : ℕ) (i : Instr) → v < 2 ^ 32 → w < 2 ^ 32 → decoded v ≡ Some i → decoded w ≡ Some i → v ≡ w
one_decoded v w i p q e f = one_word v w i p q (decoded_read v i e) (decoded_read w i f)
