-- A plan of an image can be written.
use Rattle.std.proofs.Common.{◌≡◌, ℕ, ◌<◌, List, [], ◌∷◌, length, get_or, Option, Some, None, refl, arith}
use Rattle.std.specs.List.{slice_get, All, AllByRecursion}
use Rattle.std.proofs.lemmas.List.Elements.{All-head, All-tail}
use Rattle.std.proofs.lemmas.Option.{slice_get-get_or}
use Rattle.image.specs.Picture.{Picture, IsKept}
use Rattle.image.specs.declared.ranges.Func.{Func}
use Rattle.blocks.specs.declared.run.Run.{Run}
use Rattle.blocks.specs.declared.fault.Unreadable.{Unreadable}
use Rattle.blocks.specs.Faults.{fault_of}
use Rattle.blocks.specs.Blocks.{runs_of}
use Rattle.blocks.specs.Sound.{Begins}
use Rattle.blocks.proofs.Soundness.{sound}
use Rattle.plans.specs.declared.plan.Moved.{Moved}
use Rattle.plans.specs.Orders.{IsOrder}
use Rattle.plans.specs.Given.{block_count, plan_fault}
use Rattle.plans.proofs.Planned.{planned}
use Rattle.sched_log.specs.Ranges.{HasShortBlocks}
use Rattle.sched_log.proofs.PlanBack.{IsWritten}

some_run : (runs : List Run) (y : ℕ) → Begins runs y → 0 < length runs
some_run [] y begins = absurd begins
some_run (r ∷ rs) y begins = omega arith

-- each function of an image has a block
some_blocks : (p : Picture) (m : Moved) (f : Func) (fault : Option Unreadable) → IsKept p → slice_get p.funcs m.func ≡ Some f → fault_of p m.func ≡ fault → 0 < block_count p m
unfolding block_count
some_blocks p m f (Some fault) kept there is = rw is (omega arith)
some_blocks p m f None kept there is = rw is (some_run (runs_of p m.func) f.from (sound p m.func f kept there is).entry)

one_written : (p : Picture) (m : Moved) → IsKept p → m.func < length p.funcs → IsOrder (block_count p m) m.order → HasShortBlocks m → IsWritten m
one_written p m kept there order short = record {
  func = omega (arith, there, kept.few_funcs);
  some = omega (arith, order.size, some_blocks p m (get_or p.funcs m.func (record { from = 0; to = 0 })) (fault_of p m.func) kept (slice_get-get_or p.funcs m.func (record { from = 0; to = 0 }) there) refl);
  short = short;
}

each_written : (p : Picture) (ms : List Moved) → IsKept p → All (λ m. m.func < length p.funcs) ms → All (λ m. IsOrder (block_count p m) m.order) ms → AllByRecursion HasShortBlocks ms → AllByRecursion IsWritten ms
each_written p [] kept there orders short = tt
each_written p (m ∷ ms) kept there orders short = (
  one_written p m kept (All-head (λ m. m.func < length p.funcs) m ms there) (All-head (λ m. IsOrder (block_count p m) m.order) m ms orders) short.0,
  each_written p ms kept (All-tail (λ m. m.func < length p.funcs) m ms there) (All-tail (λ m. IsOrder (block_count p m) m.order) m ms orders) short.1,
)

pub written : (p : Picture) (ms : List Moved) → IsKept p → plan_fault p ms ≡ None → AllByRecursion HasShortBlocks ms → AllByRecursion IsWritten ms
written p ms kept fine short = let plan = planned p ms fine in each_written p ms kept plan.there plan.orders short
