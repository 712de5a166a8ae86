-- The functions of a plan, none of which has a fault, are what the emitter's theorem asks.
use Rattle.std.proofs.Common.{◌≡◌, ℕ, suc, ◌+◌, ◌<◌, Bool, true, false, List, [], ◌∷◌, map, length, get_or, refl, sym, ◌∙◌, subst, ap, inl, inr, arith}
use Rattle.std.specs.Prelude.{Option, Some, None, ℤ, ◌⊎◌, All, slice_get, unwrap_or}
use Rattle.std.specs.List.{flat_map, list_any}
use Rattle.std.specs.Option.{option_map, option_and_then}
use Rattle.std.proofs.lemmas.Bool.{eqb-true, or_cases, false≢true}
use Rattle.std.proofs.lemmas.Option.{slice_get-get_or}
use Rattle.finite.specs.First.{first_of}
use Rattle.rv_isa.specs.Decoded.{decoded}
use Rattle.rv_isa.specs.declared.instr.Instr.{Instr}
use Rattle.rv_isa.specs.declared.instr.Instr.TheVariants as instr
use Rattle.image.specs.declared.ranges.Func.{Func}
use Rattle.image.specs.Aims.{func_start, is_inside}
use Rattle.image.specs.Targets.{target}
use Rattle.image.specs.Texts.{word_at}
use Rattle.image.specs.Picture.{Picture, IsKept}
use Rattle.blocks.specs.declared.fault.Unreadable.{Unreadable}
use Rattle.blocks.specs.declared.word.Word.{Word}
use Rattle.blocks.specs.declared.run.Run.{Run}
use Rattle.blocks.specs.Faults.{fault_of}
use Rattle.blocks.specs.Blocks.{runs_of}
use Rattle.blocks.specs.Sound.{Begins, BeginsInside, AreRuns}
use Rattle.blocks.specs.Sound as found
use Rattle.blocks.proofs.Soundness.{sound}
use Rattle.plans.specs.declared.plan.Moved.{Moved}
use Rattle.plans.specs.Given.{block_count, IsPlanOf}
use Rattle.plans.specs.Orders.{IsOrder}
use Rattle.layout.specs.Points.{second_of, start_of}
use Rattle.layout.proofs.TextWords.{text_high, text_outside, aimed_outside, target_small}
use Rattle.layout.proofs.Full.{site_target}
use Rattle.emit.specs.declared.fault.EmitFault.{EmitFault}
use Rattle.emit.specs.Entries.{Calls, is_number, moves, calls_of, in_order, part_entries, entries_of}
use Rattle.emit.specs.Emitted.{unreadable_as, part_fault, plan_unreadable}
use Rattle.emit.proofs.Leading.{Moving, function_of, emitted, IsOutside, Leads, SiteAims, Aims, IsWord, IsRun, AllBlocks, AllFunctions, StartsIn}
use Rattle.emit.proofs.Ordered.{all_in_order, begins_in_order}

-- ---- the parts of a plan
-- a part whose function is there and has no fault, with an order of its blocks
pub record IsReady (p : Picture) (m : Moved) : Type 0 where
  pub func : Func
  pub there : slice_get p.funcs m.func ≡ Some func
  pub clean : fault_of p m.func ≡ None
  pub order : IsOrder (length (runs_of p m.func)) m.order

abbrev pub AreReady : Picture → List Moved → Type 0
AreReady p [] = Unit {0}
AreReady p (m ∷ ms) = IsReady p m × AreReady p ms

abbrev pub no_func : Func
no_func = record { from = 0; to = 0 }

abbrev pub moving : Picture → Moved → Moving
moving p m = record { func = unwrap_or (slice_get p.funcs m.func) no_func; runs = in_order (runs_of p m.func) m.order }

none_first : (o : Option Unreadable) (g : ℕ) (rest : List (Option EmitFault)) → first_of (option_map (unreadable_as g) o ∷ rest) ≡ None → (o ≡ None) × (first_of rest ≡ None)
none_first None g rest e = (refl, e)
none_first (Some why) g rest e = absurd (cc)

counted : (p : Picture) (m : Moved) → fault_of p m.func ≡ None → IsOrder (block_count p m) m.order → IsOrder (length (runs_of p m.func)) m.order
unfolding block_count
counted p m e o = rw e at o

ready_from : (p : Picture) (parts : List Moved) → All (λ m. m.func < length p.funcs) parts → All (λ m. IsOrder (block_count p m) m.order) parts → first_of (map (part_fault p) parts) ≡ None → AreReady p parts
ready_from p [] there orders e = tt
ready_from p (m ∷ ms) there orders e =
    let f = none_first (fault_of p m.func) m.func (map (part_fault p) ms) e in (
      record { func = get_or p.funcs m.func no_func; there = slice_get-get_or p.funcs m.func no_func (there 0 m (omega arith)); clean = f.0; order = counted p m f.0 (orders 0 m (omega arith)) },
      ready_from p ms (λ i d lt. there (suc i) d (omega arith)) (λ i d lt. orders (suc i) d (omega arith)) f.1,
    )

pub ready : (p : Picture) (parts : List Moved) → IsPlanOf p parts → plan_unreadable p parts ≡ None → AreReady p parts
unfolding plan_unreadable
ready p parts plan e = ready_from p parts plan.there plan.orders e

same_part : (p : Picture) (c : Calls) (m : Moved) → IsReady p m → part_entries p c m ≡ function_of c (moving p m)
unfolding part_entries
same_part p c m r = rw r.there refl

same_parts : (p : Picture) (c : Calls) (parts : List Moved) → AreReady p parts → flat_map (part_entries p c) parts ≡ emitted c (map (moving p) parts)
same_parts p c [] r = refl
same_parts p c (m ∷ ms) r = rw (same_part p c m r.0, same_parts p c ms r.1) refl

pub entries_are : (p : Picture) (parts : List Moved) → AreReady p parts → entries_of p parts ≡ emitted (calls_of p parts) (map (moving p) parts)
unfolding entries_of
entries_are p parts r = same_parts p (calls_of p parts) parts r

-- ---- a function
module _ (p : Picture) (kept : IsKept p) (parts : List Moved) (known : ℕ → Type 0) (moved : (g : ℕ) → (calls_of p parts).moved g ≡ true → known g) where
  abbrev text : ℕ → Option ℕ
  text = word_at p.texts

  abbrev second : ℕ → Option ℕ
  second = λ x. option_and_then (start_of p) (second_of p x)

  after_outside : (x w : ℕ) → word_at p.texts x ≡ Some w → IsOutside p (x + 4)
  after_outside x w e =
      let high = text_high p kept x w e in
      record { free = text_outside p kept x w e (x + 4) (omega arith) (omega arith); below = omega (arith, high) }

  module _ (f : Func) (rs : List Run) (begins : (y : ℕ) → Begins rs y → known y) where
    leads_inside : (y : ℕ) → BeginsInside f rs y → (is_inside y f ≡ false → IsOutside p y) → Leads known (IsOutside p) f y
    leads_inside y b o = record { here = λ e. begins y (b e); there = o }

    module _ (a w : ℕ) (is : word_at p.texts a ≡ Some w) where
      site_aims : (rd : ℕ) (off : ℤ) → decoded w ≡ Some (instr.Jal rd off) → SiteAims known (IsOutside p) (calls_of p parts) a (target a off)
      unfolding calls_of
      site_aims rd off d = record {
        is = λ g e. site_target p kept a w rd g off e is d;
        moved = λ g e h. moved g h;
        stays = λ g e. subst (IsOutside p) (site_target p kept a w rd g off e is d) (record { free = aimed_outside p kept a w (instr.Jal rd off) (target a off) is d refl; below = target_small a off });
      }

      aims : (i : Instr) → decoded w ≡ Some i → found.Aims p.texts f rs a i → Aims text second known (IsOutside p) (calls_of p parts) f a i
      unfolding calls_of
      aims (instr.Jal rd off) d h =
          (leads_inside (target a off) h.1 (λ e. record { free = aimed_outside p kept a w (instr.Jal rd off) (target a off) is d refl; below = target_small a off }), site_aims rd off d)
      aims (instr.Jalr rd rs1 off) d h = λ g e. (e, moved g)
      aims (instr.Branch k rs1 rs2 off) d h =
          (leads_inside (target a off) (λ e. h.2) (λ e. absurd (false≢true (sym e ∙ h.0))), leads_inside (a + 4) h.3 (λ e. after_outside a w is))
      aims (instr.Alu op rd rs1 rs2) d h = tt
      aims i d h = tt

    word_ok : (a : ℕ) (w : Word) → found.IsWord p.texts f rs a w → IsWord text second known (IsOutside p) (calls_of p parts) f a w
    word_ok a w s = record { at = s.at; is = s.is; reads = s.reads; aims = aims a w.word s.is w.instr s.reads s.aims }

    run_ok : (a : ℕ) (ws : List Word) (b : ℕ) (falls : Bool) → found.IsRun p.texts f rs a ws b falls → IsRun text second known (IsOutside p) (calls_of p parts) f a ws b falls
    run_ok a [] b falls r = absurd r
    run_ok a (w ∷ []) b falls r = (word_ok a w r.0, r.1, r.2)
    run_ok a (w ∷ v ∷ ws) b falls r = (word_ok a w r.0, r.1, run_ok (a + 4) (v ∷ ws) b falls r.3)

    -- a block's last word
    run_end : (a : ℕ) (ws : List Word) (b : ℕ) (falls : Bool) → found.IsRun p.texts f rs a ws b falls → IsOutside p b
    run_end a [] b falls r = absurd r
    run_end a (w ∷ []) b falls r = subst (IsOutside p) r.1 (after_outside a w.word r.0.is)
    run_end a (w ∷ v ∷ ws) b falls r = run_end (a + 4) (v ∷ ws) b falls r.3

    blocks_ok : (a : ℕ) (qs : List Run) (b : ℕ) → AreRuns p.texts f rs a qs b → AllBlocks text second known (IsOutside p) (calls_of p parts) f qs
    blocks_ok a [] b r = tt
    blocks_ok a (q ∷ qs) b r =
        (record { words = run_ok q.from q.words q.to q.falls r.1; leads = λ e. leads_inside q.to r.2 (λ o. run_end q.from q.words q.to q.falls r.1) }, blocks_ok q.to qs b r.3)

  functions : (ms : List Moved) → AreReady p ms → ((y : ℕ) → StartsIn (map (moving p) ms) y → known y) → AllFunctions text second known (IsOutside p) (calls_of p parts) (map (moving p) ms)
  functions [] r into = tt
  functions (m ∷ ms) r into =
      let s = sound p m.func r.0.func kept r.0.there r.0.clean in
      let b = blocks_ok r.0.func (runs_of p m.func) (λ y h. into y (inl (begins_in_order (runs_of p m.func) m.order y r.0.order h))) r.0.func.from (runs_of p m.func) r.0.func.to s.words in
      let f : unwrap_or (slice_get p.funcs m.func) no_func ≡ r.0.func = ap (λ o. unwrap_or o no_func) r.0.there in
      (rw f (all_in_order text second known (IsOutside p) (calls_of p parts) r.0.func (runs_of p m.func) m.order b), functions ms r.1 (λ y h. into y (inr h)))

-- a function that moves has a block at its start
pub first_begins : (p : Picture) (m : Moved) → IsKept p → (r : IsReady p m) → Begins (in_order (runs_of p m.func) m.order) r.func.from
first_begins p m k r = begins_in_order (runs_of p m.func) m.order r.func.from r.order (sound p m.func r.func k r.there r.clean).entry

starts_moved : (p : Picture) (ms : List Moved) (g : ℕ) → IsKept p → AreReady p ms → list_any (λ m. is_number g (start_of p m.func)) ms ≡ true → StartsIn (map (moving p) ms) g
unfolding start_of
starts_moved p [] g k r e = absurd (cc)
starts_moved p (m ∷ ms) g k r e =
    by_case (or_cases (is_number g (start_of p m.func)) (list_any (λ m. is_number g (start_of p m.func)) ms) e) (starts_moved p ms g k r.1)
  where
    own : is_number g (option_map func_start (slice_get p.funcs m.func)) ≡ true → Begins (in_order (runs_of p m.func) m.order) g
    own h =
        let n : is_number g (Some r.0.func.from) ≡ true = sym (ap (λ o. is_number g (option_map func_start o)) r.0.there) ∙ h in
        subst (Begins (in_order (runs_of p m.func) m.order)) (eqb-true r.0.func.from g n) (first_begins p m k r.0)

    by_case : (is_number g (option_map func_start (slice_get p.funcs m.func)) ≡ true) ⊎ (list_any (λ m. is_number g (start_of p m.func)) ms ≡ true)
        → (list_any (λ m. is_number g (start_of p m.func)) ms ≡ true → StartsIn (map (moving p) ms) g) → StartsIn (map (moving p) (m ∷ ms)) g
    by_case (inl h) later = inl (own h)
    by_case (inr h) later = inr (later h)

-- the plan is what the emitter's theorem asks
pub assembled : (p : Picture) (parts : List Moved) → IsKept p → AreReady p parts
    → AllFunctions (word_at p.texts) (λ x. option_and_then (start_of p) (second_of p x)) (StartsIn (map (moving p) parts)) (IsOutside p) (calls_of p parts) (map (moving p) parts)
unfolding calls_of moves
assembled p parts k r = functions p k parts (StartsIn (map (moving p) parts)) (λ g e. starts_moved p parts g k r e) parts r (λ y h. h)
