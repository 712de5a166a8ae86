-- What an address has after patches, and with a new layout beside the others.
use Rattle.std.proofs.Common.{◌≡◌, ℕ, zero, suc, ◌+◌, ◌*◌, ◌<◌, ◌≤◌, List, [], ◌∷◌, ◌++◌, length, get_or, refl, sym, ◌∙◌, ap, subst, inl, inr, arith}
use Rattle.std.specs.Prelude.{◌&&◌, Option, Some, None, IsSome, is_some, All}
use Rattle.std.specs.Option.{option_or}
use Rattle.std.proofs.lemmas.List.Elements.{All-tail}
use Rattle.finite.proofs.Finding.{none_of}
use Rattle.image.specs.Picture.{Picture}
use Rattle.layout.specs.declared.point.Point.{Point}
use Rattle.layout.specs.Laid.{Laid, IsLaid, item_at, point_in}
use Rattle.layout.specs.Points.{Here, here_of, here_in, live_at}
use Rattle.layout.specs.Alone.{NamesCalls}
use Rattle.layout.specs.Apart.{LieApart}
use Rattle.layout.proofs.Places.{item_within}
use Rattle.patcher.specs.declared.goal.Goal.{Goal}
use Rattle.patcher.specs.Goals.{goal_of, goal_at}
use Rattle.patcher.specs.Patched.{IsSet, IsPatchedLayout, ArePatched, joined}
use Rattle.patcher.proofs.Patching.{same_item}

-- ---- one layout
pub here_back : (l : Laid) (a : ℕ) (h : Here) → here_in l a ≡ Some h → (item_at l.base l.words a ≡ Some h.word) × (point_in l a ≡ Some h.point) × (h.home ≡ l.base)
unfolding here_in
here_back l a h e = by_parts (item_at l.base l.words a) (item_at l.base l.points a) refl refl e
  where
    by_parts : (o : Option ℕ) (u : Option Point) → item_at l.base l.words a ≡ o → item_at l.base l.points a ≡ u → here_of l.base o u ≡ Some h
        → (item_at l.base l.words a ≡ Some h.word) × (point_in l a ≡ Some h.point) × (h.home ≡ l.base)
    by_parts None u f g k = absurd (cc)
    by_parts (Some w) None f g k = absurd (cc)
    by_parts (Some w) (Some q) f g k =
        let same : (record { home = l.base; word = w; point = q }) ≡ h = cc in
        (f ∙ ap (λ (x : Here). Some x.word) same, g ∙ ap (λ (x : Here). Some x.point) same, sym (ap (λ (x : Here). x.home) same))

pub here_point_back : (l : Laid) (a : ℕ) (h : Here) → here_in l a ≡ Some h → point_in l a ≡ Some h.point
here_point_back l a h e = (here_back l a h e).1

pub here_make : (l : Laid) (a w : ℕ) (u : Point) → item_at l.base l.words a ≡ Some w → point_in l a ≡ Some u → here_in l a ≡ Some (record { home = l.base; word = w; point = u })
unfolding here_in
here_make l a w u e f = rw (e, f) refl

here_some : (base : ℕ) (o : Option ℕ) (u : Option Point) → is_some (here_of base o u) ≡ (is_some o && is_some u)
here_some base None u = refl
here_some base (Some w) None = refl
here_some base (Some w) (Some q) = refl

here_in_some : (l : Laid) (a : ℕ) → is_some (here_in l a) ≡ (is_some (item_at l.base l.words a) && is_some (item_at l.base l.points a))
unfolding here_in
here_in_some l a = here_some l.base (item_at l.base l.words a) (item_at l.base l.points a)

or_none : {X : Type 0} (o : Option X) → option_or o None ≡ o
or_none None = refl
or_none (Some x) = refl

pub live_one : (l : Laid) (a : ℕ) → live_at (l ∷ []) a ≡ here_in l a
unfolding live_at
live_one l a = or_none (here_in l a)

pub live_first : (l : Laid) (ls : List Laid) (a : ℕ) (h : Here) → here_in l a ≡ Some h → live_at (l ∷ ls) a ≡ Some h
unfolding live_at
live_first l ls a h e = rw e refl

pub live_later : (l : Laid) (ls : List Laid) (a : ℕ) → here_in l a ≡ None → live_at (l ∷ ls) a ≡ live_at ls a
unfolding live_at
live_later l ls a e = rw e refl

pub live_alone : (l : Laid) (a : ℕ) (h : Here) → live_at (l ∷ []) a ≡ Some h → here_in l a ≡ Some h
live_alone l a h e = sym (live_one l a) ∙ e

pub live_nothing : (a : ℕ) → live_at [] a ≡ None
unfolding live_at
live_nothing a = refl

-- ---- layouts with their patches
module _ (p : Picture) (new : Option Laid) where
  -- what stands at a is what stood there, but for its word
  pub record IsStill (a : ℕ) (h : Here) (o : Option Here) : Type 0 where
    pub word : ℕ
    pub stands : o ≡ Some (record { home = h.home; word = word; point = h.point })
    pub sets : IsSet a (goal_at (goal_of p new) (Some h.point)) (Some h.word) (Some word)

  word_of : (a : ℕ) (g : Option Goal) (after : Option ℕ) (v : ℕ) → IsSet a g (Some v) after → (w : ℕ) × (after ≡ Some w) × IsSet a g (Some v) (Some w)
  word_of a None after v e = (v, e, refl)
  word_of a (Some g) after v (w, e, m) = (w, e, (w, refl, m))

  module _ (l m : Laid) (t : IsPatchedLayout p new l m) where
    point_same : (a : ℕ) → point_in m a ≡ point_in l a
    point_same a = rw (t.base, t.points) refl

    here_patched : (a : ℕ) (h : Here) → here_in l a ≡ Some h → IsStill a h (here_in m a)
    here_patched a h e =
        let b = here_back l a h e in
        let set : IsSet a (goal_at (goal_of p new) (Some h.point)) (Some h.word) (item_at m.base m.words a) =
        subst (λ (o : Option ℕ). IsSet a (goal_at (goal_of p new) (Some h.point)) o (item_at m.base m.words a)) b.0
        (subst (λ (u : Option Point). IsSet a (goal_at (goal_of p new) u) (item_at l.base l.words a) (item_at m.base m.words a)) b.1 (t.words a)) in
        let w = word_of a (goal_at (goal_of p new) (Some h.point)) (item_at m.base m.words a) h.word set in
        let home : m.base ≡ h.home = t.base ∙ sym b.2 in
        record { word = w.0; stands = here_make m a w.0 h.point w.1 (point_same a ∙ b.1) ∙ ap (λ (n : ℕ). Some (record { home = n; word = w.0; point = h.point })) home; sets = w.2 }

    here_absent : (a : ℕ) → here_in l a ≡ None → here_in m a ≡ None
    here_absent a e =
        let words : is_some (item_at m.base m.words a) ≡ is_some (item_at l.base l.words a) = rw t.base (same_item l.base m.words l.words a t.size) in
        let points : is_some (item_at m.base m.points a) ≡ is_some (item_at l.base l.points a) = rw (t.base, t.points) refl in
        none_of (here_in m a) (here_in_some m a ∙ (rw (words, points) (sym (here_in_some l a))) ∙ ap is_some e)

    pub names_same : NamesCalls p l → NamesCalls p m
    names_same n = record { sites = λ a g. rw (t.base, t.points, t.sites) (n.sites a g); pairs = λ a g. rw (t.base, t.points, t.pairs) (n.pairs a g) }

    pub laid_same : IsLaid l → IsLaid m
    laid_same h =
        let b = t.base in
        let n = t.size in
        let high = h.high in
        record {
          whole = rw b h.whole;
          high = omega (arith, b, n, high);
          each = rw t.points (h.each ∙ sym n);
          sites_rise = rw t.sites h.sites_rise;
          sites_within = rw (b, t.points, t.sites) h.sites_within;
          pairs_rise = rw t.pairs h.pairs_rise;
          pairs_within = rw (b, t.points, t.pairs) h.pairs_within;
        }

  pub live_patched : (ls ms : List Laid) → ArePatched p new ls ms → (a : ℕ) (h : Here) → live_at ls a ≡ Some h → IsStill a h (live_at ms a)
  live_patched [] [] t a h e = absurd (let n = live_nothing a in cc)
  live_patched [] (m ∷ ms) t a h e = absurd t
  live_patched (l ∷ ls) [] t a h e = absurd t
  live_patched (l ∷ ls) (m ∷ ms) t a h e = by_here (here_in l a) refl (live_patched ls ms t.1 a h)
    where
      by_here : (o : Option Here) → here_in l a ≡ o → (live_at ls a ≡ Some h → IsStill a h (live_at ms a)) → IsStill a h (live_at (m ∷ ms) a)
      by_here None k ih =
          let r = ih (sym (live_later l ls a k) ∙ e) in
          record { word = r.word; stands = live_later m ms a (here_absent l m t.0 a k) ∙ r.stands; sets = r.sets }
      by_here (Some i) k ih =
          let f = live_first l ls a i k in
          let same : i ≡ h = cc in
          let r = here_patched l m t.0 a h (k ∙ ap Some same) in
          record { word = r.word; stands = live_first m ms a (record { home = h.home; word = r.word; point = h.point }) r.stands; sets = r.sets }

  pub live_absent : (ls ms : List Laid) → ArePatched p new ls ms → (a : ℕ) → live_at ls a ≡ None → live_at ms a ≡ None
  live_absent [] [] t a e = e
  live_absent [] (m ∷ ms) t a e = absurd t
  live_absent (l ∷ ls) [] t a e = absurd t
  live_absent (l ∷ ls) (m ∷ ms) t a e = by_here (here_in l a) refl (live_absent ls ms t.1 a)
    where
      by_here : (o : Option Here) → here_in l a ≡ o → (live_at ls a ≡ None → live_at ms a ≡ None) → live_at (m ∷ ms) a ≡ None
      by_here None k ih = live_later m ms a (here_absent l m t.0 a k) ∙ ih (sym (live_later l ls a k) ∙ e)
      by_here (Some i) k ih = absurd (let f = live_first l ls a i k in cc)

  -- the layouts one by one
  pub patched_length : (ls ms : List Laid) → ArePatched p new ls ms → length ms ≡ length ls
  patched_length [] [] t = refl
  patched_length [] (m ∷ ms) t = absurd t
  patched_length (l ∷ ls) [] t = absurd t
  patched_length (l ∷ ls) (m ∷ ms) t = ap suc (patched_length ls ms t.1)

  pub patched_at : (ls ms : List Laid) → ArePatched p new ls ms → (i : ℕ) (d : Laid) → i < length ls → IsPatchedLayout p new (get_or ls i d) (get_or ms i d)
  patched_at [] ms t i d lt = absurd (omega arith)
  patched_at (l ∷ ls) [] t i d lt = absurd t
  patched_at (l ∷ ls) (m ∷ ms) t zero d lt = t.0
  patched_at (l ∷ ls) (m ∷ ms) t (suc i) d lt = patched_at ls ms t.1 i d (omega arith)

  -- what patches leave alone
  pub all_patched : (P : Laid → Type 0) → ((l m : Laid) → IsPatchedLayout p new l m → P l → P m) → (ls ms : List Laid) → ArePatched p new ls ms → All P ls → All P ms
  all_patched P f ls ms t h i d lt =
      let within : i < length ls = subst (λ n. i < n) (patched_length ls ms t) lt in
      f (get_or ls i d) (get_or ms i d) (patched_at ls ms t i d within) (h i d within)

  pub names_all : (ls ms : List Laid) → ArePatched p new ls ms → All (NamesCalls p) ls → All (NamesCalls p) ms
  names_all ls ms t n = all_patched (NamesCalls p) names_same ls ms t n

  pub laid_all : (ls ms : List Laid) → ArePatched p new ls ms → All IsLaid ls → All IsLaid ms
  laid_all ls ms t n = all_patched IsLaid laid_same ls ms t n

-- ---- with the new one
live_before : (ms : List Laid) (l : Laid) (a : ℕ) (h : Here) → live_at ms a ≡ Some h → live_at (ms ++ l ∷ []) a ≡ Some h
live_before [] l a h e = absurd (let n = live_nothing a in cc)
live_before (m ∷ ms) l a h e = by_here (here_in m a) refl (live_before ms l a h)
  where
    by_here : (o : Option Here) → here_in m a ≡ o → (live_at ms a ≡ Some h → live_at (ms ++ l ∷ []) a ≡ Some h) → live_at (m ∷ (ms ++ l ∷ [])) a ≡ Some h
    by_here None k ih = live_later m (ms ++ l ∷ []) a k ∙ ih (sym (live_later m ms a k) ∙ e)
    by_here (Some i) k ih = live_first m (ms ++ l ∷ []) a i k ∙ sym (live_first m ms a i k) ∙ e

pub live_joined : (ms : List Laid) (new : Option Laid) (a : ℕ) (h : Here) → live_at ms a ≡ Some h → live_at (joined ms new) a ≡ Some h
live_joined ms None a h e = e
live_joined ms (Some l) a h e = live_before ms l a h e

pub live_last : (ms : List Laid) (l : Laid) (a : ℕ) → live_at ms a ≡ None → live_at (ms ++ l ∷ []) a ≡ here_in l a
live_last [] l a e = live_one l a
live_last (m ∷ ms) l a e = by_here (here_in m a) refl (live_last ms l a)
  where
    by_here : (o : Option Here) → here_in m a ≡ o → (live_at ms a ≡ None → live_at (ms ++ l ∷ []) a ≡ here_in l a) → live_at (m ∷ (ms ++ l ∷ [])) a ≡ here_in l a
    by_here None k ih = live_later m (ms ++ l ∷ []) a k ∙ ih (sym (live_later m ms a k) ∙ e)
    by_here (Some i) k ih = absurd (let f = live_first m ms a i k in cc)

-- layouts that lie apart share no address
pub here_bounds : (l : Laid) (a : ℕ) (h : Here) → here_in l a ≡ Some h → (l.base ≤ a) × (a < l.base + 4 * length l.words)
here_bounds l a h e =
    let b = (here_back l a h e).0 in
    let some : IsSome (item_at l.base l.words a) = rw b refl in
    let w = item_within l.base l.words a some in
    let low = w.0 in
    let high = w.1 in
    (low, omega (arith, low, high))

not_both : (l m : Laid) (a : ℕ) (h i : Here) → LieApart l m → here_in l a ≡ Some h → here_in m a ≡ Some i → ⊥
not_both l m a h i (inl k) e f =
    let b = here_bounds l a h e in
    let d = here_bounds m a i f in
    let high = b.1 in
    let low = d.0 in
    omega (arith, k, high, low)
not_both l m a h i (inr k) e f =
    let b = here_bounds l a h e in
    let d = here_bounds m a i f in
    let low = b.0 in
    let high = d.1 in
    omega (arith, k, high, low)

pub alone_here : (ls : List Laid) (l : Laid) → All (LieApart l) ls → (a : ℕ) (h : Here) → here_in l a ≡ Some h → live_at ls a ≡ None
alone_here [] l t a h e = live_nothing a
alone_here (m ∷ ls) l t a h e = by_here (here_in m a) refl (alone_here ls l (All-tail (LieApart l) m ls t) a h e)
  where
    by_here : (o : Option Here) → here_in m a ≡ o → live_at ls a ≡ None → live_at (m ∷ ls) a ≡ None
    by_here None k ih = live_later m ls a k ∙ ih
    by_here (Some i) k ih = absurd (not_both l m a h i (t 0 m (omega arith)) e k)
