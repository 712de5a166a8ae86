use Rattle.std.proofs.Common.{◌%◌, ◌/◌, get_or, sym, ◌∙◌, ap, nat_eq, arith}
use Rattle.std.specs.Int.{w64}
use Rattle.std.proofs.lemmas.Nat.Bits.{bit_at_set_same, bit_at_set_other, bit_at_clear_same, bit_at_clear_other}
use Rattle.guest_mem.proofs.BitLaws.{changed_bit}
use Rattle.guest_mem.proofs.bits.set_bit.Goals as goal

pub returns-then-on-clause-bits : goal.returns-then-on-clause-bits
returns-then-on-clause-bits c j =
    let n = get_or c.args.bits.now (c.args.i / 64) 0 in
    let k = c.args.i % 64 in
    changed_bit c.args.bits.now c.args.i j _ c.args.on (omega arith)
    (ap (λ b. nat_eq b 1) (bit_at_set_same w64 n k (omega arith)) ∙ sym c.if-on.true)
    (λ i h other. bit_at_set_other w64 n k (omega arith) i other)

pub returns-else-on-clause-bits : goal.returns-else-on-clause-bits
returns-else-on-clause-bits c j =
    let n = get_or c.args.bits.now (c.args.i / 64) 0 in
    let k = c.args.i % 64 in
    changed_bit c.args.bits.now c.args.i j _ c.args.on (omega arith)
    (ap (λ b. nat_eq b 1) (bit_at_clear_same w64 n k (omega arith)) ∙ sym c.if-on.false)
    (λ i h other. bit_at_clear_other w64 n k (omega arith) i h other)
