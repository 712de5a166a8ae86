-- What a replacement makes, and why it is refused.
use Rattle.std.proofs.Common.{◌≡◌, ◌≢◌, ℕ, ◌+◌, ◌-◌, ◌*◌, ◌%◌, ◌^◌, ◌<◌, ◌≤◌, true, List, [], ◌∷◌, length, refl, sym, ap, ◌∙◌, subst, arith}
use Rattle.std.specs.Prelude.{Option, Some, None, nat_le, nat_lt, All, find}
use Rattle.std.specs.Option.{option_map}
use Rattle.std.proofs.lemmas.Bool.{and_from, le-leb, lt-ltb}
use Rattle.std.proofs.lemmas.List.Elements.{All-contains}
use Rattle.layout.proofs.TextWords.{found}
use Rattle.oc_base.specs.declared.range.Range.{Range}
use Rattle.image.specs.Picture.{Picture, IsKept}
use Rattle.layout.specs.Laid.{Laid, IsLaid}
use Rattle.layout.specs.Points.{in_range}
use Rattle.layout.specs.Alone.{InRegion, RendersAlone}
use Rattle.plans.specs.declared.plan.Moved.{Moved}
use Rattle.plans.specs.Given.{plan_fault}
use Rattle.emit.specs.Entries.{entries_of}
use Rattle.emit.specs.Emitted.{IsEmitted, plan_unreadable, Explains, ExplainsSize}
use Rattle.emit.specs.declared.fault.EmitFault.{EmitFault}
use Rattle.emit.specs.declared.fault.EmitFault.TheVariants as fault
use Rattle.emit.proofs.Emission.{emitted_aims, emitted_some}
use Rattle.region.specs.Free.{Rises, AreFree, holds, range_from, fit, largest}
use Rattle.sched_log.specs.declared.facts.Refusal.{Refusal}
use Rattle.sched_log.specs.declared.facts.Refusal.TheVariants as refusal
use Rattle.world.specs.Replacing.{size_of, told_as, IsNew, layout_at, in_layout, in_call, Refuses, ReachRefuses, IsFit}
use Rattle.world.proofs.ShortWords.{short_layout}
use Rattle.world.proofs.WholeHops.{hops_whole}

pub fit_as : (p : Picture) (plan : List Moved) (free : List Range) (need : ℕ) (o : Option ℕ) → need ≡ 4 * length (entries_of p plan) → fit free need ≡ o → fit free (size_of p plan) ≡ o
unfolding size_of
fit_as p plan free need o e f = ap (fit free) (sym e) ∙ f

pub size_as : (p : Picture) (plan : List Moved) (need : ℕ) → need ≡ 4 * length (entries_of p plan) → need ≡ size_of p plan
unfolding size_of
size_as p plan need e = e

-- ---- where it fits
pub fit_whole : (free : List Range) (n b : ℕ) → All (λ (r : Range). r.from % 4 ≡ 0) free → fit free n ≡ Some b → b % 4 ≡ 0
unfolding fit
fit_whole free n b h e = by_find (find (holds n) free) refl e
  where
    by_find : (o : Option Range) → find (holds n) free ≡ o → option_map range_from o ≡ Some b → b % 4 ≡ 0
    by_find None f g = absurd (cc)
    by_find (Some r) f g =
        let k = All-contains (λ (r : Range). r.from % 4 ≡ 0) free r h (found (holds n) free r f).0 in
        let same : r.from ≡ b = cc in
        subst (λ m. m % 4 ≡ 0) same k

fit_room : (low high : ℕ) (rs : List Range) (n b : ℕ) → Rises low high rs → fit rs n ≡ Some b → low < high
unfolding fit
fit_room low high [] n b h e = absurd (cc)
fit_room low high (r ∷ rs) n b h e = omega (arith, h.0, h.1, h.2)

region_low : (p : Picture) → IsKept p → p.region.from < p.region.to → p.region.to ≤ 0x08000000
region_low p k lt = let last = (k.region.free (p.region.to - 1) (omega (arith, lt)) (omega (arith, lt))).high in omega (arith, last, lt)

pub fit_low : (p : Picture) (r : Range) (free : List Range) (need b m : ℕ) → IsKept p → r ≡ p.region → Rises r.from r.to free → fit free need ≡ Some b → need ≡ m → b + need ≤ r.to → b + m ≤ 0x08000000
fit_low p r free need b m k e h f g le =
    let room = fit_room r.from r.to free need b h f in
    let low = region_low p k (subst (λ (q : Range). q.from < q.to) e room) in
    let to = ap (λ (q : Range). q.to) e in
    omega (arith, le, low, to, g)

pub within_region : (r : Range) (base n : ℕ) → r.from ≤ base → base + 4 * n ≤ r.to → (k : ℕ) → k < n → in_range r (base + 4 * k) ≡ true
within_region r base n low high k lt =
    and_from (nat_le r.from (base + 4 * k)) (nat_lt (base + 4 * k) r.to) (le-leb r.from (base + 4 * k) (omega (arith, low))) (lt-ltb (base + 4 * k) r.to (omega (arith, high, lt)))

-- ---- the new layout
module _ (p : Picture) (plan : List Moved) (free : List Range) (r : Range) (need base : ℕ) (l : Laid) where
  pub is_new : plan ≢ [] → need ≡ 4 * length (entries_of p plan) → fit free need ≡ Some base → IsEmitted p plan base l → IsNew p free plan (Some l)
  is_new some e f made =
      layout_at l some (fit_as p plan free need (Some l.base) e (f ∙ ap Some (sym made.base_is))) (subst (λ b. IsEmitted p plan b l) (sym made.base_is) made)

  pub is_fit : IsKept p → r ≡ p.region → plan ≢ [] → plan_fault p plan ≡ None → plan_unreadable p plan ≡ None → IsLaid l → need ≡ 4 * length (entries_of p plan) → r.from ≤ base → base + need ≤ r.to
      → AreFree free base need → IsEmitted p plan base l → (InRegion p base (length l.words) → RendersAlone p l) → All (λ w. w < 2 ^ 32) l.words
      → IsFit p free l
  is_fit k e some given clean laid size low high unused made renders short =
      let words : length l.words ≡ length (entries_of p plan) = made.words.size in
      let bytes : need ≡ 4 * length l.words = size ∙ ap (λ n. 4 * n) (sym words) in
      let inside : InRegion p base (length l.words) = subst (λ (q : Range). (j : ℕ) → j < length l.words → in_range q (base + 4 * j) ≡ true) e (within_region r base (length l.words) low (omega (arith, high, bytes))) in
      let here : IsEmitted p plan l.base l = subst (λ b. IsEmitted p plan b l) (sym made.base_is) made in
      let here_inside : InRegion p l.base (length l.words) = subst (λ b. InRegion p b (length l.words)) (sym made.base_is) inside in
      record {
        laid = laid;
        renders = renders inside;
        hops = hops_whole p plan l k given clean here;
        aims = emitted_aims p plan l k given clean laid here here_inside;
        some = emitted_some p plan l.base l k given clean here some;
        unused = subst (λ n. AreFree free l.base n) bytes (subst (λ b. AreFree free b need) (sym made.base_is) unused);
        short = short_layout l short;
      }

-- ---- why not
pub full_refuses : (p : Picture) (lives : List Laid) (free : List Range) (plan : List Moved) (need most : ℕ) → plan_unreadable p plan ≡ None → plan ≢ [] → need ≡ 4 * length (entries_of p plan)
    → fit free need ≡ None → most ≡ largest free → Refuses p lives free plan (refusal.RegionFull need most)
full_refuses p lives free plan need most clean some e f g = (clean, some, fit_as p plan free need None e f, size_as p plan need e, g)

pub size_refuses : (p : Picture) (lives : List Laid) (free : List Range) (plan : List Moved) (e : EmitFault) → ExplainsSize p plan e → Refuses p lives free plan (told_as e)
size_refuses p lives free plan (fault.Unreadable g why) h = h
size_refuses p lives free plan (fault.BranchReach at target) h = absurd h
size_refuses p lives free plan fault.NoMemory h = tt

pub emit_refuses : (p : Picture) (lives : List Laid) (free : List Range) (plan : List Moved) (need base : ℕ) (e : EmitFault) → plan ≢ [] → need ≡ 4 * length (entries_of p plan) → fit free need ≡ Some base
    → Explains p plan base e → Refuses p lives free plan (told_as e)
emit_refuses p lives free plan need base (fault.Unreadable g why) some s f h = h
emit_refuses p lives free plan need base (fault.BranchReach at target) some s f h = (h.0, in_layout base some (fit_as p plan free need (Some base) s f) h.1)
emit_refuses p lives free plan need base fault.NoMemory some s f h = tt

pub reach_refuses : (p : Picture) (lives : List Laid) (free : List Range) (plan : List Moved) (new : Option Laid) (why : Refusal) → plan_unreadable p plan ≡ None → IsNew p free plan new
    → ReachRefuses p new lives why → Refuses p lives free plan why
reach_refuses p lives free plan new (refusal.BranchReach at target) clean n h = (clean, in_call new n h)
reach_refuses p lives free plan new (refusal.RegionFull need most) clean n h = absurd h
reach_refuses p lives free plan new (refusal.Unreadable g why) clean n h = absurd h
reach_refuses p lives free plan new refusal.NoMemory clean n h = tt

-- a plan that moves nothing
pub none_unreadable : (p : Picture) (plan : List Moved) → plan ≡ [] → plan_unreadable p plan ≡ None
unfolding plan_unreadable
none_unreadable p plan e = rw e refl
