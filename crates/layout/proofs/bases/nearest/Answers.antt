use Rattle.std.proofs.Common.{◌-◌, arith}
use Rattle.layout.proofs.ByBase.{none_holds, nearest_holds, placed_within}
use Rattle.layout.proofs.bases.nearest.Goals as goal

pub returns-then-before-eq0-clause-only : goal.returns-then-before-eq0-clause-only
returns-then-before-eq0-clause-only c = λ lives are apart k h.
    absurd (none_holds lives c.args.places.now c.args.at c.keys_up_to-before.result are c.keys_up_to-before.ensures.others (omega arith) k h)

pub returns-clause-only : goal.returns-clause-only
returns-clause-only c = λ lives are apart k h.
    nearest_holds lives c.args.places.now c.args.at c.keys_up_to-before.result are c.keys_up_to-before.ensures.others (record { base = 0; position = 0 }) apart
    c.keys_up_to-before.ensures.up_to c.keys_up_to-before.ensures.within (omega arith) k h

pub returns-clause-within : goal.returns-clause-within
returns-clause-within c = λ lives are.
    placed_within lives c.args.places.now (c.keys_up_to-before.result - 1) (record { base = 0; position = 0 }) are (omega (arith, c.keys_up_to-before.ensures.within))
