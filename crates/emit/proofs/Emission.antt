-- What is emitted renders the image, its calls aim at their functions, and it has words.
use Rattle.std.proofs.Common.{◌≡◌, ◌≢◌, ℕ, ◌+◌, ◌*◌, ◌%◌, ◌≤◌, ◌<◌, List, [], ◌∷◌, map, length, refl, sym, ◌∙◌, subst, ap, inl, arith}
use Rattle.std.specs.Prelude.{Option, None}
use Rattle.std.specs.Option.{option_and_then}
use Rattle.std.proofs.lemmas.List.{length-map}
use Rattle.image.specs.Texts.{word_at}
use Rattle.image.specs.Picture.{Picture, IsKept}
use Rattle.plans.specs.declared.plan.Moved.{Moved}
use Rattle.plans.specs.Given.{plan_fault}
use Rattle.plans.proofs.Planned.{planned}
use Rattle.layout.specs.Laid.{Laid, IsLaid}
use Rattle.layout.specs.Points.{site_of, second_of, start_of}
use Rattle.layout.specs.Rows.{Renders, CallsAim}
use Rattle.layout.specs.Alone.{alone, InRegion, AreCallsOf, RendersAlone}
use Rattle.layout.proofs.Plain.{alone_plain}
use Rattle.emit.specs.declared.entry.Entry.{Entry}
use Rattle.emit.specs.declared.fault.EmitFault.{EmitFault}
use Rattle.emit.specs.declared.fault.EmitFault.TheVariants as fault
use Rattle.emit.specs.Entries.{calls_of, entries_of}
use Rattle.emit.specs.Placed.{ArePlaced, point_of, calls_in, Stops}
use Rattle.emit.specs.Emitted.{IsMadeOf, plan_unreadable, Explains, ExplainsSize}
use Rattle.emit.proofs.Leading.{emitted, IsOutside, AllFunctions, StartsIn}
use Rattle.emit.proofs.EntryRows.{Rows}
use Rattle.emit.proofs.PlanRows.{starts_occur, plan_rows}
use Rattle.emit.proofs.Halves.{Halves, all_halves}
use Rattle.emit.proofs.Places.{Occurs}
use Rattle.emit.proofs.Laid.{renders, calls_aim}
use Rattle.emit.proofs.Listed.{calls_exact, calls_rise, calls_within}
use Rattle.emit.proofs.Assembled.{AreReady, moving, ready, entries_are, first_begins, assembled}

-- ---- the words of a plan
abbrev known : Picture → List Moved → ℕ → Type 0
known p parts = StartsIn (map (moving p) parts)

abbrev second : Picture → ℕ → Option ℕ
second p = λ x. option_and_then (start_of p) (second_of p x)

module _ (p : Picture) (parts : List Moved) (kept : IsKept p) (plan : plan_fault p parts ≡ None) (clean : plan_unreadable p parts ≡ None) where
  is_ready : AreReady p parts
  is_ready = ready p parts (planned p parts plan) clean

  same : entries_of p parts ≡ emitted (calls_of p parts) (map (moving p) parts)
  same = entries_are p parts is_ready

  functions : AllFunctions (word_at p.texts) (second p) (known p parts) (IsOutside p) (calls_of p parts) (map (moving p) parts)
  functions = assembled p parts kept is_ready

  occurs : (y : ℕ) → known p parts y → Occurs y (entries_of p parts)
  occurs y k = subst (Occurs y) (sym same) (starts_occur (word_at p.texts) (second p) (known p parts) (IsOutside p) (calls_of p parts) (map (moving p) parts) y functions k)

  rows : Rows (word_at p.texts) (second p) (known p parts) (IsOutside p) (entries_of p parts) []
  rows = subst (λ (es : List Entry). Rows (word_at p.texts) (second p) (known p parts) (IsOutside p) es []) (sym same)
      (plan_rows (word_at p.texts) (second p) (known p parts) (IsOutside p) (calls_of p parts) (map (moving p) parts) [] functions)

  halves : Halves None (entries_of p parts)
  halves = subst (Halves None) (sym same) (all_halves (calls_of p parts) (map (moving p) parts) None)

-- ---- a layout of them
pub emitted_renders : (p : Picture) (parts : List Moved) (l : Laid) → IsKept p → plan_fault p parts ≡ None → plan_unreadable p parts ≡ None → IsLaid l
    → IsMadeOf p (entries_of p parts) l.base l → InRegion p l.base (length l.words) → RendersAlone p l
emitted_renders p parts l kept plan clean laid made within = record {
  within = within;
  renders = subst Renders (sym (alone_plain p l laid))
      (renders p kept l laid within (entries_of p parts) made.points made.words (known p parts) (occurs p parts kept plan clean) (rows p parts kept plan clean) (halves p parts kept plan clean));
  calls = record {
    sites = subst (AreCallsOf (site_of p) l) (sym made.sites) (calls_exact (site_of p) l (entries_of p parts) made.points);
    pairs = subst (AreCallsOf (second_of p) l) (sym made.pairs) (calls_exact (second_of p) l (entries_of p parts) made.points);
  };
}

-- each of its calls is the original word, or goes to a Start of its function
pub emitted_aims : (p : Picture) (parts : List Moved) (l : Laid) → IsKept p → plan_fault p parts ≡ None → plan_unreadable p parts ≡ None → IsLaid l
    → IsMadeOf p (entries_of p parts) l.base l → InRegion p l.base (length l.words) → CallsAim (alone p l)
emitted_aims p parts l kept plan clean laid made within =
    subst CallsAim (sym (alone_plain p l laid))
    (calls_aim p kept l laid within (entries_of p parts) made.points made.words (known p parts) (occurs p parts kept plan clean) (rows p parts kept plan clean) (halves p parts kept plan clean))

some_words : (y : ℕ) (es : List Entry) → Occurs y es → 0 < length es
some_words y [] o = absurd o
some_words y (e ∷ es) o = omega arith

-- where a function moves, there are words
pub emitted_some : (p : Picture) (parts : List Moved) (base : ℕ) (l : Laid) → IsKept p → plan_fault p parts ≡ None → plan_unreadable p parts ≡ None
    → IsMadeOf p (entries_of p parts) base l → parts ≢ [] → 0 < length l.words
emitted_some p [] base l kept plan clean made n = absurd (n refl)
emitted_some p (m ∷ ms) base l kept plan clean made n =
    let r = is_ready p (m ∷ ms) kept plan clean in
    let first = some_words r.0.func.from (entries_of p (m ∷ ms)) (occurs p (m ∷ ms) kept plan clean r.0.func.from (inl (first_begins p m kept r.0))) in
    let size = made.words.size in
    omega (arith, first, size)

-- ---- the same by the base that was asked for
pub renders_at : (p : Picture) (parts : List Moved) (base : ℕ) (l : Laid) → IsKept p → plan_fault p parts ≡ None → plan_unreadable p parts ≡ None → IsLaid l
    → IsMadeOf p (entries_of p parts) base l → InRegion p base (length l.words) → RendersAlone p l
renders_at p parts base l kept plan clean laid made within =
    emitted_renders p parts l kept plan clean laid (subst (λ (n : ℕ). IsMadeOf p (entries_of p parts) n l) (sym made.base_is) made)
    (subst (λ (n : ℕ). InRegion p n (length l.words)) (sym made.base_is) within)

pub aims_at : (p : Picture) (parts : List Moved) (base : ℕ) (l : Laid) → IsKept p → plan_fault p parts ≡ None → plan_unreadable p parts ≡ None → IsLaid l
    → IsMadeOf p (entries_of p parts) base l → InRegion p base (length l.words) → CallsAim (alone p l)
aims_at p parts base l kept plan clean laid made within =
    emitted_aims p parts l kept plan clean laid (subst (λ (n : ℕ). IsMadeOf p (entries_of p parts) n l) (sym made.base_is) made)
    (subst (λ (n : ℕ). InRegion p n (length l.words)) (sym made.base_is) within)

-- ---- what is made of words
-- what is made of words at a base is a layout
pub made_laid : (p : Picture) (base : ℕ) (es : List Entry) (words : List ℕ) (points : List _) (sites pairs : List _) → base % 4 ≡ 0 → base + 4 * length es ≤ 0x08000000 → ArePlaced base es words
    → points ≡ map point_of es → sites ≡ calls_in (site_of p) base es → pairs ≡ calls_in (second_of p) base es
    → IsLaid (record { base = base; words = words; points = points; sites = sites; pairs = pairs })
made_laid p base es words points sites pairs whole fits placed e s t =
    let size = placed.size in
    record {
      whole = whole;
      high = omega (arith, size, fits);
      each = ap length e ∙ length-map es point_of ∙ sym size;
      sites_rise = rw s (calls_rise (site_of p) base es);
      sites_within = rw (s, e) (calls_within (site_of p) base es);
      pairs_rise = rw t (calls_rise (second_of p) base es);
      pairs_within = rw (t, e) (calls_within (second_of p) base es);
    }

pub stops_explains : (p : Picture) (parts : List Moved) (base : ℕ) (e : EmitFault) → plan_unreadable p parts ≡ None → Stops base (entries_of p parts) e → Explains p parts base e
stops_explains p parts base (fault.Unreadable g why) c s = absurd s
stops_explains p parts base (fault.BranchReach at target) c s = (c, s)
stops_explains p parts base fault.NoMemory c s = tt

pub size_explains : (p : Picture) (parts : List Moved) (base : ℕ) (e : EmitFault) → ExplainsSize p parts e → Explains p parts base e
size_explains p parts base (fault.Unreadable g why) s = s
size_explains p parts base (fault.BranchReach at target) s = absurd s
size_explains p parts base fault.NoMemory s = tt
