-- What a replacement makes of a world, and why it is refused. Source: this project; the outline is OCOLOS (Zhang et al., MICRO 2022).
use Rattle.std.specs.Prelude.{◌≡◌, ◌≢◌, ℕ, ◌+◌, ◌*◌, ◌^◌, ◌<◌, ◌==◌, ◌&&◌, List, slice_get, [], ◌∷◌, ◌++◌, length, Bool, true, false, is_some, All, Option, Some, None, IfSome, Result, Ok, Err, unwrap_or, if◌then◌else◌}
use Rattle.std.specs.List.{filter_map}
use Rattle.std.specs.Option.{option_map, option_eq}
use Rattle.oc_base.specs.declared.range.Range.{Range}
use Rattle.image.specs.declared.ranges.TextRange.{TextRange}
use Rattle.image.specs.declared.ranges.Aim.{Aim}
use Rattle.image.specs.Texts.{word_at}
use Rattle.image.specs.Picture.{Picture}
use Rattle.plans.specs.declared.plan.Moved.{Moved}
use Rattle.guest_mem.specs.Memory.{Memory, is_link_at, number_at}
use Rattle.layout.specs.Laid.{Laid, IsLaid}
use Rattle.layout.specs.Points.{Code, start_of}
use Rattle.layout.specs.Rows.{CallsAim}
use Rattle.layout.specs.Alone.{alone, RendersAlone}
use Rattle.emit.specs.Entries.{entries_of}
use Rattle.emit.specs.Emitted.{IsEmitted, plan_unreadable}
use Rattle.emit.specs.declared.fault.EmitFault.{EmitFault}
use Rattle.emit.specs.declared.fault.EmitFault.TheVariants as fault
use Rattle.emit.specs.Placed as emitted
use Rattle.patcher.specs.declared.patches.Patches.{Patches}
use Rattle.patcher.specs.Goals.{goal_of, moved_to}
use Rattle.patcher.specs.Patched.{ArePatches, IsPatchedText, ArePatched, joined}
use Rattle.patcher.specs.Reach.{AllReach}
use Rattle.patcher.specs.Reach as reach
use Rattle.region.specs.Free.{AreFree, fit, largest, taken}
use Rattle.sched_log.specs.declared.facts.Refusal.{Refusal}
use Rattle.sched_log.specs.declared.facts.Refusal.TheVariants as refusal
use Rattle.sim_laws.specs.Changes.{with_links, with_memory}
use Rattle.sim_laws.specs.Codes.{GoesToWord}
use Rattle.sim_laws.specs.Origins.{origin}
use Rattle.world.specs.declared.counts.Counts.{Counts}
use Rattle.world.specs.Worlds.{Replaced, code_of, more}

-- how many bytes the layout of a plan has
unfoldable pub size_of : Picture → List Moved → ℕ
size_of p plan = 4 * length (entries_of p plan)

-- the layout that a plan asks for: none if it moves no function, else its layout at the least address that fits
pub data IsNew (p : Picture) (free : List Range) (plan : List Moved) : Option Laid → Type 0 where
  no_layout : plan ≡ [] → IsNew p free plan None
  layout_at : (l : Laid) → plan ≢ [] → fit free (size_of p plan) ≡ Some l.base → IsEmitted p plan l.base l → IsNew p free plan (Some l)

module _ (p : Picture) (lives : List Laid) (free : List Range) (plan : List Moved) where
  -- the first word out of reach: those of the new layout ascending, and then the calls in the patcher's order
  pub data IsOutOfReach (at target : ℕ) : Type 0 where
    in_layout : (base : ℕ) → plan ≢ [] → fit free (size_of p plan) ≡ Some base → emitted.IsFirstOut base (entries_of p plan) at target → IsOutOfReach at target
    in_call : (new : Option Laid) → IsNew p free plan new → reach.IsFirstOut p new lives at target → IsOutOfReach at target

  -- The first of these that applies: a function that can't be cut into blocks, no free range of that size, a word out of reach.
  -- Want of memory has no cause.
  abbrev pub Refuses : Refusal → Type 0
  Refuses (refusal.Unreadable g why) = plan_unreadable p plan ≡ Some (fault.Unreadable g why)
  Refuses (refusal.RegionFull need most) =
      (plan_unreadable p plan ≡ None) × (plan ≢ []) × (fit free (size_of p plan) ≡ None) × (need ≡ size_of p plan) × (most ≡ largest free)
  Refuses (refusal.BranchReach at target) = (plan_unreadable p plan ≡ None) × IsOutOfReach at target
  Refuses refusal.NoMemory = Unit {0}

-- the first call out of reach
abbrev pub ReachRefuses : Picture → Option Laid → List Laid → Refusal → Type 0
ReachRefuses p new lives (refusal.BranchReach at target) = reach.IsFirstOut p new lives at target
ReachRefuses p new lives refusal.NoMemory = Unit {0}
ReachRefuses p new lives _ = ⊥

abbrev pub is_no_memory : Refusal → Bool
is_no_memory refusal.NoMemory = true
is_no_memory _ = false

-- an emitter's fault as a refusal
abbrev pub told_as : EmitFault → Refusal
told_as (fault.Unreadable g why) = refusal.Unreadable g why
told_as (fault.BranchReach at target) = refusal.BranchReach at target
told_as fault.NoMemory = refusal.NoMemory

-- ---- slots
-- The slot is a link still, and stands for where its function starts.
abbrev pub is_own : Picture → Code → Memory → Aim → Bool
is_own p c m s = is_link_at m s.at && option_eq (λ x y. x == y) (start_of p s.func) (Some (origin c (number_at m s.at)))

-- the slot's address, and where the new layout starts its function, or else the original start
abbrev pub sent_to : Picture → Option Laid → Aim → Option (ℕ × ℕ)
sent_to p new s = option_map (λ x. (s.at, unwrap_or (moved_to new x) x)) (start_of p s.func)

-- the slots that are sent there
unfoldable pub slots_sent : Picture → Code → Option Laid → Memory → List (ℕ × ℕ)
slots_sent p c new m = filter_map (λ s. if is_own p c m s then sent_to p new s else None) p.slots

-- ---- words of 32 bits
abbrev pub HasShortWords : Laid → Type 0
HasShortWords l = (k m : ℕ) → slice_get l.words k ≡ Some m → m < 2 ^ 32

-- of text only the words of calls are made anew
abbrev pub HasShortCalls : Picture → Option Laid → List TextRange → Type 0
HasShortCalls p new ts = (a m : ℕ) → is_some (goal_of p new a) ≡ true → word_at ts a ≡ Some m → m < 2 ^ 32

-- ---- what is worked out before the first change
-- a layout that may be placed at free addresses of the region
pub record IsFit (p : Picture) (free : List Range) (l : Laid) : Type 0 where
  pub laid : IsLaid l
  pub renders : RendersAlone p l
  pub hops : All GoesToWord l.points
  pub aims : CallsAim (alone p l)
  pub some : 0 < length l.words
  pub unused : AreFree free l.base (4 * length l.words)
  pub short : HasShortWords l

pub record IsPlacement (p : Picture) (lives : List Laid) (free : List Range) (plan : List Moved) (new : Option Laid) (patches : Patches) : Type 0 where
  pub readable : plan_unreadable p plan ≡ None
  pub is_new : IsNew p free plan new
  pub fits : IfSome new (IsFit p free)
  pub reach : AllReach p new lives
  pub aims : ArePatches p new lives patches
  pub short : All (λ s. s.word < 2 ^ 32) patches.text

-- ---- the attempt's counts
abbrev pub placed_by : Option Laid → Counts → Counts
placed_by None c = c
placed_by (Some l) c = record c { placed = more c.placed }

abbrev pub done_by : Option Laid → Counts → Counts
done_by new c = placed_by new (record c { attempts = more c.attempts; done = more c.done })

-- layouts are numbered from 1
abbrev pub numbered : Option Laid → Counts → List ℕ → List ℕ
numbered None c numbers = numbers
numbered (Some l) c numbers = numbers ++ more c.placed ∷ []

abbrev pub left_by : Option Laid → List Range → List Range
left_by None free = free
left_by (Some l) free = taken l.base (l.base + 4 * length l.words) free

-- The layout is made, and every call of text and of the live layouts is sent to it, or back to original code, and so is each slot that
-- the program hasn't overwritten.
pub record IsReplaced (plan : List Moved) (w v : Replaced) : Type 0 where
  pub new : Option Laid
  pub text : List TextRange
  pub older : List Laid
  pub readable : plan_unreadable w.image plan ≡ None
  pub is_new : IsNew w.image w.free plan new
  pub reach : AllReach w.image new w.lives
  pub in_text : IsPatchedText w.image new w.text text
  pub in_lives : ArePatched w.image new w.lives older
  -- the words that are made have 32 bits, so there is one such world
  pub short_words : IfSome new HasShortWords
  pub short_calls : HasShortCalls w.image new text
  pub short_older : All HasShortWords older
  pub is : v ≡ record w {
    text = text;
    lives = joined older new;
    numbers = numbered new w.counts w.numbers;
    free = left_by new w.free;
    machine = with_memory (with_links (slots_sent w.image (code_of w) new w.machine.memory) w.machine.memory) w.machine;
    counts = done_by new w.counts;
  }

-- a refused attempt is counted and kept with its number, and nothing else is changed
abbrev pub refused_as : Refusal → Replaced → Replaced
refused_as why w = record w {
  counts = record w.counts { attempts = more w.counts.attempts };
  refusals = w.refusals ++ (record { attempt = more w.counts.attempts; refusal = why }) ∷ [];
}

-- an answer to a refusal: counted and kept, or want of memory, which changes nothing and isn't counted
abbrev pub RefusedBy : Refusal → Replaced → Result Unit Refusal → Replaced → Type 0
RefusedBy why w (Ok u) v = ⊥
RefusedBy why w (Err refusal.NoMemory) v = v ≡ w
RefusedBy why w (Err e) v = (e ≡ why) × (v ≡ refused_as why w)

-- want of memory changes nothing, and isn't counted
abbrev pub IsRefused : List Moved → Replaced → Refusal → Replaced → Type 0
IsRefused plan w refusal.NoMemory v = v ≡ w
IsRefused plan w why v = Refuses w.image w.lives w.free plan why × (v ≡ refused_as why w)

-- an attempt's answer, and the world then; a run that has ended changes no more
abbrev pub Attempts : List Moved → Replaced → (has_ended : Bool) → Result Unit Refusal → Replaced → Type 0
Attempts plan w true (Ok u) v = v ≡ w
Attempts plan w true (Err why) v = ⊥
Attempts plan w false (Ok u) v = IsReplaced plan w v
Attempts plan w false (Err why) v = IsRefused plan w why v

-- what an attempt that doesn't want for memory makes of a world
pub data Replaces (plan : List Moved) (w v : Replaced) : Type 0 where
  over : is_some w.machine.outcome ≡ true → v ≡ w → Replaces plan w v
  done : is_some w.machine.outcome ≡ false → IsReplaced plan w v → Replaces plan w v
  refused : (why : Refusal) → why ≢ refusal.NoMemory → is_some w.machine.outcome ≡ false → Refuses w.image w.lives w.free plan why → v ≡ refused_as why w → Replaces plan w v
