-- A replacement from a world has one result.
use Rattle.std.proofs.Common.{◌≡◌, ◌≢◌, ◌⊎◌, inl, inr, ◌<◌, ◌≤◌, ◌+◌, ◌*◌, ◌^◌, ℕ, zero, suc, true, List, [], ◌∷◌, length, refl, sym, ap, subst, ◌∙◌, arith}
use Rattle.std.specs.Prelude.{Option, Some, None, IfSome, IsSome, All, AllPairs, slice_get, is_some}
use Rattle.std.proofs.lemmas.List.Elements.{All-tail}
use Rattle.std.proofs.lemmas.Bool.{cases_lt, false≢true}
use Rattle.image.specs.declared.ranges.TextRange.{TextRange}
use Rattle.image.specs.Texts.{word_at}
use Rattle.image.specs.Picture.{Picture}
use Rattle.oc_base.specs.declared.range.Range.{Range}
use Rattle.plans.specs.declared.plan.Moved.{Moved}
use Rattle.layout.specs.declared.point.Point.{Point}
use Rattle.layout.specs.declared.point.Point.TheVariants.{Start, Hop, Mid}
use Rattle.layout.specs.Laid.{Laid, IsLaid, item_at, point_in}
use Rattle.layout.specs.Apart.{LieApart}
use Rattle.layout.proofs.Places.{item_here, item_within}
use Rattle.emit.specs.Entries.{entries_of}
use Rattle.emit.specs.Emitted.{IsMadeOf}
use Rattle.emit.specs.Placed as emitted
use Rattle.emit.specs.declared.entry.Entry.{Entry}
use Rattle.emit.specs.declared.entry.Made.{Made}
use Rattle.emit.specs.declared.entry.Made.TheVariants.{Same, Jump, Branch, High, Low}
use Rattle.patcher.specs.declared.goal.Goal.{Goal}
use Rattle.patcher.specs.declared.goal.Goal.TheVariants as goal
use Rattle.patcher.specs.Goals.{goal_of, goal_at, goal_in, site_goal, start_in, IsMade}
use Rattle.patcher.specs.Patched.{IsSet, IsPatchedText, IsPatchedLayout, ArePatched}
use Rattle.patcher.specs.Reach as reach
use Rattle.patcher.specs.Texts.{AreTexts}
use Rattle.patcher.proofs.Spans.{are_texts}
use Rattle.region.specs.Free.{fit}
use Rattle.sched_log.specs.declared.facts.Refusal.{Refusal}
use Rattle.sched_log.specs.declared.facts.Refusal.TheVariants as refusal
use Rattle.world.specs.Worlds.{Replaced}
use Rattle.world.specs.Replacing.{size_of, IsNew, no_layout, layout_at, IsOutOfReach, in_layout, in_call, Refuses, IsReplaced, Replaces, over, done, refused, refused_as}
use Rattle.delivered.proofs.OneWord.{one_decoded}
use Rattle.delivered.proofs.OneText.{same_items, get_below, same_text}

-- ---- words of 32 bits
abbrev pub SmallLayout : Laid → Type 0
SmallLayout l = (k m : ℕ) → slice_get l.words k ≡ Some m → m < 2 ^ 32

-- of text only the words of calls are made anew
abbrev pub SmallCalls : Picture → Option Laid → List TextRange → Type 0
SmallCalls p new ts = (a m : ℕ) → is_some (goal_of p new a) ≡ true → word_at ts a ≡ Some m → m < 2 ^ 32

-- ---- the new layout
made_once : (base : ℕ) (es : List Entry) (a : ℕ) (m : Made) (v w : ℕ) → v < 2 ^ 32 → w < 2 ^ 32 → emitted.IsMade base es a m v → emitted.IsMade base es a m w → v ≡ w
made_once base es a (Same x) v w p q e f = e ∙ sym f
made_once base es a (Jump rd to) v w p q e f = one_decoded v w _ p q e f
made_once base es a (Branch c rs1 rs2 to) v w p q e f = one_decoded v w _ p q e f
made_once base es a (High rd x) v w p q e f = one_decoded v w _ p q e f
made_once base es a (Low rd x) v w p q e f = one_decoded v w _ p q e f

entry_at : (es : List Entry) (k : ℕ) → k < length es → (e : Entry) × (slice_get es k ≡ Some e)
entry_at [] k lt = absurd (omega (arith, lt))
entry_at (e ∷ es) zero lt = (e, refl)
entry_at (e ∷ es) (suc k) lt = entry_at es k (omega (arith, lt))

entry_below : (es : List Entry) (k : ℕ) (e : Entry) → slice_get es k ≡ Some e → k < length es
entry_below [] k e is = absurd (cc)
entry_below (x ∷ es) zero e is = omega arith
entry_below (x ∷ es) (suc k) e is = let lt = entry_below es k e is in omega (arith, lt)

one_laid : (p : Picture) (es : List Entry) (base : ℕ) (l m : Laid) → SmallLayout l → SmallLayout m → IsMadeOf p es base l → IsMadeOf p es base m → l ≡ m
one_laid p es base l m small small' a b =
    let size = a.words.size in
    let n : length l.words ≡ length m.words = a.words.size ∙ sym b.words.size in
    let words : l.words ≡ m.words = same_items l.words m.words n (λ k v w e f.
    let lt = get_below l.words k v e in
    let at = entry_at es k (omega (arith, lt, size)) in
    made_once base es (base + 4 * k) at.0.made v w (small k v e) (small' k w f) (a.words.made.words k v at.0 at.1 e) (b.words.made.words k w at.0 at.1 f)) in
    let bases : l.base ≡ m.base = a.base_is ∙ sym b.base_is in
    let points : l.points ≡ m.points = a.points ∙ sym b.points in
    let sites : l.sites ≡ m.sites = a.sites ∙ sym b.sites in
    let pairs : l.pairs ≡ m.pairs = a.pairs ∙ sym b.pairs in
    λ i. record { base = bases i; words = words i; points = points i; sites = sites i; pairs = pairs i }

same_base : (free : List Range) (n b c : ℕ) → fit free n ≡ Some b → fit free n ≡ Some c → b ≡ c
same_base free n b c e f = let g : Some b ≡ Some c = sym e ∙ f in cc

module _ (p : Picture) (free : List Range) (plan : List Moved) where
  one_new : (new also : Option Laid) → IfSome new SmallLayout → IfSome also SmallLayout → IsNew p free plan new → IsNew p free plan also → new ≡ also
  one_new new also small small' (no_layout e) (no_layout f) = refl
  one_new new also small small' (no_layout e) (layout_at m some place is) = absurd (some e)
  one_new new also small small' (layout_at l some place is) (no_layout e) = absurd (some e)
  one_new new also small small' (layout_at l some place is) (layout_at m some' place' is') =
      let base : m.base ≡ l.base = same_base free (size_of p plan) m.base l.base place' place in
      ap (λ x. Some x) (one_laid p (entries_of p plan) l.base l m small small' is (subst (λ b. IsMadeOf p (entries_of p plan) b m) base is'))

  -- what calls become is the same, whatever the words are
  like_goals : (l m : Laid) → l.base ≡ m.base → l.points ≡ m.points → (x : ℕ) → goal_of p (Some l) x ≡ goal_of p (Some m) x
  unfolding goal_of site_goal start_in
  like_goals l m base points x = rw (base, points) refl

  same_goals : (new also : Option Laid) → IsNew p free plan new → IsNew p free plan also → (x : ℕ) → goal_of p new x ≡ goal_of p also x
  same_goals new also (no_layout e) (no_layout f) x = refl
  same_goals new also (no_layout e) (layout_at m some place is) x = absurd (some e)
  same_goals new also (layout_at l some place is) (no_layout e) x = absurd (some e)
  same_goals new also (layout_at l some place is) (layout_at m some' place' is') x =
      like_goals l m (same_base free (size_of p plan) l.base m.base place place') (is.points ∙ sym is'.points) x

  -- ---- words out of reach
  -- no word of a layout that is placed is out of reach
  none_out : (new : Option Laid) (base at target : ℕ) → IsNew p free plan new → plan ≢ [] → fit free (size_of p plan) ≡ Some base → emitted.IsFirstOut base (entries_of p plan) at target → ⊥
  none_out new base at target (no_layout e) some place first = some e
  none_out new base at target (layout_at l some' place' is) some place first =
      let same : base ≡ l.base = same_base free (size_of p plan) base l.base place place' in
      let lt = entry_below (entries_of p plan) first.index first.entry first.stands in
      let words : emitted.ArePlaced base (entries_of p plan) l.words = subst (λ b. emitted.ArePlaced b (entries_of p plan) l.words) (sym same) is.words in
      words.reach.reach first.index first.entry lt first.stands (subst (λ a. emitted.IsOut base (entries_of p plan) a first.entry.made) first.is_at first.out)

one_first : (base : ℕ) (es : List Entry) (at target at' target' : ℕ) → emitted.IsFirstOut base es at target → emitted.IsFirstOut base es at' target' → (at ≡ at') × (target ≡ target')
one_first base es at target at' target' a b = by_order (cases_lt a.index b.index) (cases_lt b.index a.index)
  where
    earlier : (at target at' target' : ℕ) (a : emitted.IsFirstOut base es at target) (b : emitted.IsFirstOut base es at' target') → a.index < b.index → ⊥
    earlier at target at' target' a b lt = b.before.reach a.index a.entry lt a.stands (subst (λ x. emitted.IsOut base es x a.entry.made) a.is_at a.out)

    by_order : (a.index < b.index) ⊎ (b.index ≤ a.index) → (b.index < a.index) ⊎ (a.index ≤ b.index) → (at ≡ at') × (target ≡ target')
    by_order (inl lt) s = absurd (earlier at target at' target' a b lt)
    by_order (inr le) (inl lt) = absurd (earlier at' target' at target b a lt)
    by_order (inr le) (inr le') =
        let index : a.index ≡ b.index = omega (arith, le, le') in
        let entry : a.entry ≡ b.entry = let e = sym a.stands ∙ ap (slice_get es) index ∙ b.stands in cc in
        let place : at ≡ at' = a.is_at ∙ ap (λ k. base + 4 * k) index ∙ sym b.is_at in
        (place, a.wants ∙ ap (λ x. emitted.wanted base es x a.entry.made) place ∙ ap (λ (x : Entry). emitted.wanted base es at' x.made) entry ∙ sym b.wants)

one_target : (g : Option Goal) (at t u : ℕ) → reach.IsOut g at t → reach.IsOut g at u → t ≡ u
one_target (Some (goal.Jump rd to)) at t u a b = a.0 ∙ sym b.0
one_target (Some (goal.Same v)) at t u a b = absurd a
one_target None at t u a b = absurd a

-- ---- calls of live layouts
module _ (p : Picture) (new also : Option Laid) (same : (x : ℕ) → goal_of p new x ≡ goal_of p also x) where
  same_goal_at : (u : Option Point) → goal_at (goal_of p new) u ≡ goal_at (goal_of p also) u
  same_goal_at (Some (Start x)) = same x
  same_goal_at (Some (Hop x)) = refl
  same_goal_at (Some (Mid x)) = refl
  same_goal_at None = refl

  lives_out : (ls : List Laid) (at target : ℕ) → reach.LivesOut p new ls at target → reach.LivesOut p also ls at target
  lives_out [] at target o = o
  lives_out (l ∷ ls) at target (inl o) = inl (subst (λ g. reach.IsOut g at target) (same_goal_at (point_in l at)) o)
  lives_out (l ∷ ls) at target (inr o) = inr (lives_out ls at target o)

-- a call of a layout is a word of it
out_within : (p : Picture) (new : Option Laid) (l : Laid) (at target : ℕ) → IsLaid l → reach.IsOut (goal_in p new l at) at target → (l.base ≤ at) × (at < l.base + 4 * length l.words)
out_within p new l at target laid o = by_point (point_in l at) refl o
  where
    by_point : (u : Option Point) → point_in l at ≡ u → reach.IsOut (goal_at (goal_of p new) u) at target → (l.base ≤ at) × (at < l.base + 4 * length l.words)
    by_point None e o = absurd o
    by_point (Some u) e o =
        let some : IsSome (item_at l.base l.points at) = rw e refl in
        let k = item_within l.base l.points at some in
        let low = k.0 in
        let high = k.1 in
        let each = laid.each in
        (low, omega (arith, low, high, each))

-- layouts that lie apart have no call in common
module _ (p : Picture) (new : Option Laid) where
  never_both : (l : Laid) (ls : List Laid) (at t u : ℕ) → IsLaid l → All IsLaid ls → All (LieApart l) ls → reach.IsOut (goal_in p new l at) at t → reach.LivesOut p new ls at u → ⊥
  never_both l [] at t u laid all apart o q = q
  never_both l (m ∷ ls) at t u laid all apart o (inl q) =
      let a = out_within p new l at t laid o in
      let b = out_within p new m at u (all 0 m (omega arith)) q in
      by_side (apart 0 m (omega arith)) a.0 a.1 b.0 b.1
    where
      by_side : LieApart l m → l.base ≤ at → at < l.base + 4 * length l.words → m.base ≤ at → at < m.base + 4 * length m.words → ⊥
      by_side (inl k) a b c d = omega (arith, k, a, b, c, d)
      by_side (inr k) a b c d = omega (arith, k, a, b, c, d)
  never_both l (m ∷ ls) at t u laid all apart o (inr q) = never_both l ls at t u laid (All-tail IsLaid m ls all) (All-tail (LieApart l) m ls apart) o q

  first_apart : (l : Laid) (ls : List Laid) → AllPairs LieApart (l ∷ ls) → All (LieApart l) ls
  first_apart l ls pairs k d lt = pairs 0 (suc k) d (omega arith) (omega (arith, lt))

  later_apart : (l : Laid) (ls : List Laid) → AllPairs LieApart (l ∷ ls) → AllPairs LieApart ls
  later_apart l ls pairs i j d lt in' = pairs (suc i) (suc j) d (omega (arith, lt)) (omega (arith, in'))

  one_live : (ls : List Laid) (at t u : ℕ) → All IsLaid ls → AllPairs LieApart ls → reach.LivesOut p new ls at t → reach.LivesOut p new ls at u → t ≡ u
  one_live [] at t u all apart a b = absurd a
  one_live (l ∷ ls) at t u all apart (inl a) (inl b) = one_target (goal_in p new l at) at t u a b
  one_live (l ∷ ls) at t u all apart (inl a) (inr b) = absurd (never_both l ls at t u (all 0 l (omega arith)) (All-tail IsLaid l ls all) (first_apart l ls apart) a b)
  one_live (l ∷ ls) at t u all apart (inr a) (inl b) = absurd (never_both l ls at u t (all 0 l (omega arith)) (All-tail IsLaid l ls all) (first_apart l ls apart) b a)
  one_live (l ∷ ls) at t u all apart (inr a) (inr b) = one_live ls at t u (All-tail IsLaid l ls all) (later_apart l ls apart) a b

-- the first call out of reach
one_call : (p : Picture) (new also : Option Laid) (ls : List Laid) (at target at' target' : ℕ) → All IsLaid ls → AllPairs LieApart ls → ((x : ℕ) → goal_of p new x ≡ goal_of p also x)
    → reach.IsFirstOut p new ls at target → reach.IsFirstOut p also ls at' target' → (at ≡ at') × (target ≡ target')
one_call p new also ls at target at' target' all apart same (inl a) (inl b) =
    let below = a.1 at' target' (subst (λ g. reach.IsOut g at' target') (sym (same at')) b.0) in
    let above = b.1 at target (subst (λ g. reach.IsOut g at target) (same at) a.0) in
    let place : at ≡ at' = omega (arith, below, above) in
    (place, one_target (goal_of p also at') at' target target' (subst (λ x. reach.IsOut (goal_of p also x) x target) place (subst (λ g. reach.IsOut g at target) (same at) a.0)) b.0)
one_call p new also ls at target at' target' all apart same (inl a) (inr b) = absurd (b.0 at target (subst (λ g. reach.IsOut g at target) (same at) a.0))
one_call p new also ls at target at' target' all apart same (inr a) (inl b) = absurd (a.0 at' target' (subst (λ g. reach.IsOut g at' target') (sym (same at')) b.0))
one_call p new also ls at target at' target' all apart same (inr a) (inr b) =
    let there = lives_out p new also same ls at target a.1.0 in
    let below = a.1.1 at' target' (lives_out p also new (λ x. sym (same x)) ls at' target' b.1.0) in
    let above = b.1.1 at target there in
    let place : at ≡ at' = omega (arith, below, above) in
    (place, one_live p also ls at' target target' all apart (subst (λ x. reach.LivesOut p also ls x target) place there) b.1.0)

-- ---- refusals
module _ (p : Picture) (lives : List Laid) (free : List Range) (plan : List Moved) (all : All IsLaid lives) (apart : AllPairs LieApart lives) where
  one_place : (at target at' target' : ℕ) → IsOutOfReach p lives free plan at target → IsOutOfReach p lives free plan at' target' → (at ≡ at') × (target ≡ target')
  one_place at target at' target' (in_layout base some place first) (in_layout base' some' place' first') =
      let same : base' ≡ base = same_base free (size_of p plan) base' base place' place in
      one_first base (entries_of p plan) at target at' target' first (subst (λ b. emitted.IsFirstOut b (entries_of p plan) at' target') same first')
  one_place at target at' target' (in_layout base some place first) (in_call new is first') = absurd (none_out p free plan new base at target is some place first)
  one_place at target at' target' (in_call new is first) (in_layout base some place first') = absurd (none_out p free plan new base at' target' is some place first')
  one_place at target at' target' (in_call new is first) (in_call also is' first') = one_call p new also lives at target at' target' all apart (same_goals p free plan new also is is') first first'

  -- a plan that has no room has nothing out of reach
  no_room : (at target : ℕ) → plan ≢ [] → fit free (size_of p plan) ≡ None → IsOutOfReach p lives free plan at target → ⊥
  no_room at target some full (in_layout base some' place first) = cc
  no_room at target some full (in_call new (no_layout e) first) = some e
  no_room at target some full (in_call new (layout_at l some' place is) first) = cc

  one_why : (x y : Refusal) → x ≢ refusal.NoMemory → y ≢ refusal.NoMemory → Refuses p lives free plan x → Refuses p lives free plan y → x ≡ y
  one_why (refusal.Unreadable g w) (refusal.Unreadable h v) room room' a b = let e = sym a ∙ b in cc
  one_why (refusal.Unreadable g w) (refusal.RegionFull n m) room room' a b = let e = b.0 in cc
  one_why (refusal.Unreadable g w) (refusal.BranchReach at to) room room' a b = let e = b.0 in cc
  one_why (refusal.RegionFull n m) (refusal.Unreadable g w) room room' a b = let e = a.0 in cc
  one_why (refusal.RegionFull n m) (refusal.RegionFull n' m') room room' a b = let e = a.3 ∙ sym b.3 in let f = a.4 ∙ sym b.4 in cc
  one_why (refusal.RegionFull n m) (refusal.BranchReach at to) room room' a b = absurd (no_room at to a.1 a.2 b.1)
  one_why (refusal.BranchReach at to) (refusal.Unreadable g w) room room' a b = let e = a.0 in cc
  one_why (refusal.BranchReach at to) (refusal.RegionFull n m) room room' a b = absurd (no_room at to b.1 b.2 a.1)
  one_why (refusal.BranchReach at to) (refusal.BranchReach at' to') room room' a b = let s = one_place at to at' to' a.1 b.1 in let e = s.0 in let f = s.1 in cc
  one_why refusal.NoMemory y room room' a b = absurd (room refl)
  one_why (refusal.Unreadable g w) refusal.NoMemory room room' a b = absurd (room' refl)
  one_why (refusal.RegionFull n m) refusal.NoMemory room room' a b = absurd (room' refl)
  one_why (refusal.BranchReach at to) refusal.NoMemory room room' a b = absurd (room' refl)

-- a layout that is made is refused for nothing
not_both : (plan : List Moved) (w u : Replaced) (why : Refusal) → why ≢ refusal.NoMemory → IsReplaced plan w u → Refuses w.image w.lives w.free plan why → ⊥
not_both plan w u (refusal.Unreadable g y) room is refuses = let e = is.readable in cc
not_both plan w u (refusal.RegionFull n m) room is refuses = by_new is.new is.is_new
  where
    by_new : (new : Option Laid) → IsNew w.image w.free plan new → ⊥
    by_new new (no_layout e) = refuses.1 e
    by_new new (layout_at l some place made) = let e = refuses.2 in cc
not_both plan w u (refusal.BranchReach at to) room is refuses = by_place refuses.1
  where
    by_place : IsOutOfReach w.image w.lives w.free plan at to → ⊥
    by_place (in_layout base some place first) = none_out w.image w.free plan is.new base at to is.is_new some place first
    by_place (in_call new made (inl first)) =
        is.reach.in_text at to (subst (λ g. reach.IsOut g at to) (same_goals w.image w.free plan new is.new made is.is_new at) first.0)
    by_place (in_call new made (inr first)) =
        is.reach.in_lives at to (lives_out w.image new is.new (same_goals w.image w.free plan new is.new made is.is_new) w.lives at to first.1.0)
not_both plan w u refusal.NoMemory room is refuses = absurd (room refl)

-- ---- text
set_once : (a : ℕ) (g : Option Goal) (before x y : Option ℕ) (v w : ℕ) → (is_some g ≡ true → v < 2 ^ 32) → (is_some g ≡ true → w < 2 ^ 32) → IsSet a g before x → IsSet a g before y → x ≡ Some v → y ≡ Some w → v ≡ w
set_once a None before x y v w p q s t e f = let g = sym e ∙ s ∙ sym t ∙ f in cc
set_once a (Some (goal.Jump rd to)) before x y v w p q s t e f =
    let m : s.0 ≡ v = let g = sym s.1 ∙ e in cc in
    let n : t.0 ≡ w = let g = sym t.1 ∙ f in cc in
    one_decoded v w _ (p refl) (q refl) (subst (λ z. IsMade a (goal.Jump rd to) z) m s.2) (subst (λ z. IsMade a (goal.Jump rd to) z) n t.2)
set_once a (Some (goal.Same c)) before x y v w p q s t e f =
    let m : s.0 ≡ v = let g = sym s.1 ∙ e in cc in
    let n : t.0 ≡ w = let g = sym t.1 ∙ f in cc in
    sym m ∙ s.2 ∙ sym t.2 ∙ n

one_text : (p : Picture) (new : Option Laid) (before x y : List TextRange) → AreTexts before → SmallCalls p new x → SmallCalls p new y → IsPatchedText p new before x → IsPatchedText p new before y → x ≡ y
one_text p new before x y texts small small' a b =
    same_text x y (are_texts x before a.spans texts).rise (are_texts y before b.spans texts).rise (a.spans ∙ sym b.spans)
    (λ at v w e f. set_once at (goal_of p new at) (word_at before at) (word_at x at) (word_at y at) v w (λ t. small at v t e) (λ t. small' at w t f) (a.words at) (b.words at) e f)

-- ---- live layouts
one_layout : (p : Picture) (new : Option Laid) (l x y : Laid) → SmallLayout x → SmallLayout y → IsPatchedLayout p new l x → IsPatchedLayout p new l y → x ≡ y
one_layout p new l x y small small' a b =
    let base : x.base ≡ y.base = a.base ∙ sym b.base in
    let size : length x.words ≡ length y.words = a.size ∙ sym b.size in
    let words : x.words ≡ y.words = same_items x.words y.words size (λ k v w e f.
    let at : ℕ = l.base + 4 * k in
    set_once at (goal_in p new l at) (item_at l.base l.words at) (item_at x.base x.words at) (item_at y.base y.words at) v w (λ t. small k v e) (λ t. small' k w f) (a.words at) (b.words at)
    (ap (λ n. item_at n x.words (l.base + 4 * k)) a.base ∙ item_here l.base x.words k ∙ e)
    (ap (λ n. item_at n y.words (l.base + 4 * k)) b.base ∙ item_here l.base y.words k ∙ f)) in
    let points : x.points ≡ y.points = a.points ∙ sym b.points in
    let sites : x.sites ≡ y.sites = a.sites ∙ sym b.sites in
    let pairs : x.pairs ≡ y.pairs = a.pairs ∙ sym b.pairs in
    λ i. record { base = base i; words = words i; points = points i; sites = sites i; pairs = pairs i }

one_older : (p : Picture) (new : Option Laid) (ls xs ys : List Laid) → All SmallLayout xs → All SmallLayout ys → ArePatched p new ls xs → ArePatched p new ls ys → xs ≡ ys
one_older p new [] [] [] small small' a b = refl
one_older p new [] [] (y ∷ ys) small small' a b = absurd b
one_older p new [] (x ∷ xs) ys small small' a b = absurd a
one_older p new (l ∷ ls) [] ys small small' a b = absurd a
one_older p new (l ∷ ls) (x ∷ xs) [] small small' a b = absurd b
one_older p new (l ∷ ls) (x ∷ xs) (y ∷ ys) small small' a b =
    ap (λ z. z ∷ xs) (one_layout p new l x y (small 0 x (omega arith)) (small' 0 y (omega arith)) a.0 b.0)
    ∙ ap (λ zs. y ∷ zs) (one_older p new ls xs ys (All-tail SmallLayout x xs small) (All-tail SmallLayout y ys small') a.1 b.1)

-- ---- all of it
one_done : (plan : List Moved) (w u v : Replaced) → AreTexts w.text → IsReplaced plan w u → IsReplaced plan w v → u ≡ v
one_done plan w u v texts a b =
    let new : a.new ≡ b.new = one_new w.image w.free plan a.new b.new a.short_words b.short_words a.is_new b.is_new in
    let text : a.text ≡ b.text = one_text w.image a.new w.text a.text b.text texts a.short_calls (subst (λ n. SmallCalls w.image n b.text) (sym new) b.short_calls) a.in_text (subst (λ n. IsPatchedText w.image n w.text b.text) (sym new) b.in_text) in
    let older : a.older ≡ b.older = one_older w.image a.new w.lives a.older b.older a.short_older b.short_older a.in_lives (subst (λ n. ArePatched w.image n w.lives b.older) (sym new) b.in_lives) in
    a.is ∙ rw (new, text, older) (sym b.is)

pub one_replacement : (plan : List Moved) (w u v : Replaced) → All IsLaid w.lives → AllPairs LieApart w.lives → AreTexts w.text
    → Replaces plan w u → Replaces plan w v → u ≡ v
one_replacement plan w u v all apart texts (over e is) (over f is') = is ∙ sym is'
one_replacement plan w u v all apart texts (over e is) (done f b) = absurd (false≢true (sym f ∙ e))
one_replacement plan w u v all apart texts (over e is) (refused why room f refuses is') = absurd (false≢true (sym f ∙ e))
one_replacement plan w u v all apart texts (done e a) (over f is') = absurd (false≢true (sym e ∙ f))
one_replacement plan w u v all apart texts (done e a) (done f b) = one_done plan w u v texts a b
one_replacement plan w u v all apart texts (done e a) (refused why room f refuses is') = absurd (not_both plan w u why room a refuses)
one_replacement plan w u v all apart texts (refused why room e refuses is) (over f is') = absurd (false≢true (sym e ∙ f))
one_replacement plan w u v all apart texts (refused why room e refuses is) (done f b) = absurd (not_both plan w v why room b refuses)
one_replacement plan w u v all apart texts (refused why room e refuses is) (refused why' room' f refuses' is') =
    let same : why ≡ why' = one_why w.image w.lives w.free plan all apart why why' room room' refuses refuses' in
    is ∙ ap (λ y. refused_as y w) same ∙ sym is'
