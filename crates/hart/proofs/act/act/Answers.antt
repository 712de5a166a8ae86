use Rattle.hart.proofs.Alike.{does_as}
use Rattle.hart.proofs.act.act.Goals as goal

pub returns-in-Alu-clause-acts : goal.returns-in-Alu-clause-acts
returns-in-Alu-clause-acts g c = does_as _ _ _ _ _ _ _ _ c.in-Alu.is (c.operate.ensures _ _)

pub returns-in-AluImm-clause-acts : goal.returns-in-AluImm-clause-acts
returns-in-AluImm-clause-acts g c = does_as _ _ _ _ _ _ _ _ c.in-AluImm.is (c.operate_imm.ensures _ _)

pub returns-in-ShiftImm-clause-acts : goal.returns-in-ShiftImm-clause-acts
returns-in-ShiftImm-clause-acts g c = does_as _ _ _ _ _ _ _ _ c.in-ShiftImm.is (c.operate_shift.ensures _ _)

pub returns-in-Jalr-clause-acts : goal.returns-in-Jalr-clause-acts
returns-in-Jalr-clause-acts g c = does_as _ _ _ _ _ _ _ _ c.in-Jalr.is (c.jump_register.ensures _ _)

pub returns-in-Branch-clause-acts : goal.returns-in-Branch-clause-acts
returns-in-Branch-clause-acts g c = does_as _ _ _ _ _ _ _ _ c.in-Branch.is (c.branch_on.ensures _ _)

pub returns-in-Lr-clause-acts : goal.returns-in-Lr-clause-acts
returns-in-Lr-clause-acts g c = does_as _ _ _ _ _ _ _ _ c.in-Lr.is (c.reserve.ensures.acts c.in-Lr.order)

pub returns-in-Sc-clause-acts : goal.returns-in-Sc-clause-acts
returns-in-Sc-clause-acts g c = does_as _ _ _ _ _ _ _ _ c.in-Sc.is (c.conditional.ensures.acts c.in-Sc.order)

pub returns-in-Amo-clause-acts : goal.returns-in-Amo-clause-acts
returns-in-Amo-clause-acts g c = does_as _ _ _ _ _ _ _ _ c.in-Amo.is (c.atomically.ensures.acts c.in-Amo.order)
