-- The calls of text, and of a layout, are all in their list.
use Rattle.std.proofs.Common.{◌≡◌, ℕ, zero, suc, ◌+◌, ◌<◌, ◌^◌, List, [], ◌∷◌, get_or, refl, ◌∙◌, ap, inl, inr, arith}
use Rattle.std.specs.Prelude.{◌⊎◌, Option, Some, None, All, Contains, option_and_then}
use Rattle.std.specs.List.{filter_map, cons_option}
use Rattle.std.specs.Option.{option_map, option_or}
use Rattle.std.proofs.lemmas.List.Elements.{All-append, All-cons, Contains-append_left, Contains-append_right}
use Rattle.image.specs.declared.ranges.Aim.{Aim}
use Rattle.image.specs.declared.ranges.Func.{Func}
use Rattle.image.specs.declared.ranges.TextRange.{TextRange}
use Rattle.image.specs.Texts.{word_at}
use Rattle.image.specs.Aims.{site_at, far_call_at}
use Rattle.image.specs.Picture.{Picture, IsKept}
use Rattle.layout.specs.declared.point.Point.{Point}
use Rattle.layout.specs.declared.point.Point.TheVariants.{Start, Hop, Mid}
use Rattle.layout.specs.Laid.{Laid, point_in}
use Rattle.layout.specs.Points.{site_of, second_of, start_of}
use Rattle.layout.specs.Alone.{called_at, NamesCalls}
use Rattle.layout.proofs.CallWords.{site_listed, second_listed, pair_far}
use Rattle.layout.proofs.TextWords.{text_high}
use Rattle.patcher.specs.declared.goal.Goal.{Goal}
use Rattle.patcher.specs.declared.goal.Call.{Call}
use Rattle.patcher.specs.Goals.{moved_to, site_goal, second_by, goal_of, goal_at, goal_in}
use Rattle.patcher.specs.Calls.{call_at, call_of, text_calls, layout_calls}
use Rattle.patcher.proofs.Tallies.{ListsCalls}

-- ---- which words are calls
pub goal_calls : (p : Picture) (new : Option Laid) (x : ℕ) (g : Goal) → goal_of p new x ≡ Some g → ((f : ℕ) × (site_of p x ≡ Some f)) ⊎ ((f : ℕ) × (second_of p x ≡ Some f))
unfolding goal_of
goal_calls p new x g e = by_site (site_of p x) (second_of p x) refl refl e
  where
    by_site : (s t : Option ℕ) → site_of p x ≡ s → second_of p x ≡ t
        → option_or (option_map (site_goal p new x) (option_and_then (start_of p) s)) (option_and_then (λ z. second_by p x (moved_to new z)) (option_and_then (start_of p) t)) ≡ Some g
        → ((f : ℕ) × (site_of p x ≡ Some f)) ⊎ ((f : ℕ) × (second_of p x ≡ Some f))
    by_site (Some f) t a b h = inl (f, a)
    by_site None (Some f) a b h = inr (f, b)
    by_site None None a b h = absurd (cc)

-- ---- lists that are filtered
module _ (goals : ℕ → Option Goal) (past : ℕ) where
  pub each_goal : (xs : List Aim) → All (λ c. goals c.at ≡ Some c.goal) (filter_map (call_of goals past) xs)
  each_goal [] = λ k d lt. absurd (omega arith)
  each_goal (x ∷ xs) = by_goal (goals (x.at + past)) refl (each_goal xs)
    where
      by_goal : (o : Option Goal) → goals (x.at + past) ≡ o → All (λ c. goals c.at ≡ Some c.goal) (filter_map (call_of goals past) xs)
          → All (λ c. goals c.at ≡ Some c.goal) (cons_option (option_map (call_at (x.at + past)) o) (filter_map (call_of goals past) xs))
      by_goal None e h = h
      by_goal (Some g) e h = All-cons (λ (c : Call). goals c.at ≡ Some c.goal) (call_at (x.at + past) g) (filter_map (call_of goals past) xs) e h

  pub in_list : (xs : List Aim) (s : Aim) (a : ℕ) (g : Goal) → Contains xs s → s.at + past ≡ a → goals a ≡ Some g → Contains (filter_map (call_of goals past) xs) (call_at a g)
  in_list [] s a g (k, lt, e) i h = absurd (omega arith)
  in_list (x ∷ xs) s a g (zero, lt, e) i h =
      let same : x ≡ s = e in
      let at : x.at + past ≡ a = ap (λ (y : Aim). y.at + past) same ∙ i in
      let found : goals (x.at + past) ≡ Some g = ap goals at ∙ h in
      rw found (0, omega arith, ap (λ (n : ℕ). call_at n g) at)
  in_list (x ∷ xs) s a g (suc k, lt, e) i h = by_goal (call_of goals past x) (in_list xs s a g (k, omega arith, e) i h)
    where
      by_goal : (o : Option Call) → Contains (filter_map (call_of goals past) xs) (call_at a g) → Contains (cons_option o (filter_map (call_of goals past) xs)) (call_at a g)
      by_goal None c = c
      by_goal (Some d) c = Contains-append_right (d ∷ []) (filter_map (call_of goals past) xs) (call_at a g) c

-- ---- text
pub text_lists : (p : Picture) (new : Option Laid) → ListsCalls (goal_of p new) (text_calls p new)
text_lists p new =
    record {
      each = All-append (λ (c : Call). goal_of p new c.at ≡ Some c.goal) (filter_map (call_of (goal_of p new) 0) p.sites) (filter_map (call_of (goal_of p new) 4) p.pairs)
          (each_goal (goal_of p new) 0 p.sites) (each_goal (goal_of p new) 4 p.pairs);
      all = all;
    }
  where
    all : (a : ℕ) (g : Goal) → goal_of p new a ≡ Some g → Contains (text_calls p new) (call_at a g)
    all a g e = by_call (goal_calls p new a g e)
      where
        by_call : ((f : ℕ) × (site_of p a ≡ Some f)) ⊎ ((f : ℕ) × (second_of p a ≡ Some f)) → Contains (text_calls p new) (call_at a g)
        by_call (inl h) =
            let s = site_listed p a h.0 h.1 in
            let is = s.2 in
            Contains-append_left (filter_map (call_of (goal_of p new) 0) p.sites) (filter_map (call_of (goal_of p new) 4) p.pairs) (call_at a g)
            (in_list (goal_of p new) 0 p.sites s.0 a g s.1 (omega (arith, is)) e)
        by_call (inr h) =
            let s = second_listed p a h.0 h.1 in
            Contains-append_right (filter_map (call_of (goal_of p new) 0) p.sites) (filter_map (call_of (goal_of p new) 4) p.pairs) (call_at a g)
            (in_list (goal_of p new) 4 p.pairs s.0 a g s.1 s.2 e)

-- ---- layouts
pub start_called : (p : Picture) (new : Option Laid) (o : Option Point) (g : Goal) → goal_at (goal_of p new) o ≡ Some g → (x : ℕ) × (o ≡ Some (Start x)) × (goal_of p new x ≡ Some g)
start_called p new None g e = absurd (cc)
start_called p new (Some (Start x)) g e = (x, refl, e)
start_called p new (Some (Hop x)) g e = absurd (cc)
start_called p new (Some (Mid x)) g e = absurd (cc)

pub layout_lists : (p : Picture) (new : Option Laid) (l : Laid) → NamesCalls p l → ListsCalls (goal_in p new l) (layout_calls p new l)
layout_lists p new l names =
    record {
      each = All-append (λ (c : Call). goal_in p new l c.at ≡ Some c.goal) (filter_map (call_of (goal_in p new l) 0) l.sites) (filter_map (call_of (goal_in p new l) 0) l.pairs)
          (each_goal (goal_in p new l) 0 l.sites) (each_goal (goal_in p new l) 0 l.pairs);
      all = all;
    }
  where
    all : (a : ℕ) (g : Goal) → goal_in p new l a ≡ Some g → Contains (layout_calls p new l) (call_at a g)
    all a g e =
        let s = start_called p new (point_in l a) g e in
        by_call s.0 s.1 (goal_calls p new s.0 g s.2)
      where
        by_call : (x : ℕ) → point_in l a ≡ Some (Start x) → ((f : ℕ) × (site_of p x ≡ Some f)) ⊎ ((f : ℕ) × (second_of p x ≡ Some f)) → Contains (layout_calls p new l) (call_at a g)
        by_call x at (inl h) =
            let named : called_at (site_of p) (point_in l a) ≡ Some h.0 = rw at h.1 in
            Contains-append_left (filter_map (call_of (goal_in p new l) 0) l.sites) (filter_map (call_of (goal_in p new l) 0) l.pairs) (call_at a g)
            (in_list (goal_in p new l) 0 l.sites (record { at = a; func = h.0 }) a g ((names.sites a h.0).0 named) (omega arith) e)
        by_call x at (inr h) =
            let named : called_at (second_of p) (point_in l a) ≡ Some h.0 = rw at h.1 in
            Contains-append_right (filter_map (call_of (goal_in p new l) 0) l.sites) (filter_map (call_of (goal_in p new l) 0) l.pairs) (call_at a g)
            (in_list (goal_in p new l) 0 l.pairs (record { at = a; func = h.0 }) a g ((names.pairs a h.0).0 named) (omega arith) e)

-- ---- addresses
some_word : (texts : List TextRange) (a : ℕ) (f : ℕ → Option ℕ) (n : ℕ) → option_and_then f (word_at texts a) ≡ Some n → (w : ℕ) × (word_at texts a ≡ Some w)
some_word texts a f n e = by_word (word_at texts a) refl e
  where
    by_word : (o : Option ℕ) → word_at texts a ≡ o → option_and_then f o ≡ Some n → (w : ℕ) × (word_at texts a ≡ Some w)
    by_word None k e = absurd (cc)
    by_word (Some w) k e = (w, k)

site_word : (texts : List TextRange) (funcs : List Func) (a n : ℕ) → site_at texts funcs a ≡ Some n → (w : ℕ) × (word_at texts a ≡ Some w)
unfolding site_at
site_word texts funcs a n e = some_word texts a _ n e

far_word : (texts : List TextRange) (funcs : List Func) (a n : ℕ) → far_call_at texts funcs a ≡ Some n → (w : ℕ) × (word_at texts a ≡ Some w)
unfolding far_call_at
far_word texts funcs a n e = some_word texts a _ n e

pub sites_low : (p : Picture) → IsKept p → All (λ s. s.at + 0 < 2 ^ 64) p.sites
sites_low p k i d lt =
    let s = k.sites_call i d lt in
    let w = site_word p.texts p.funcs (get_or p.sites i d).at (get_or p.sites i d).func s in
    let high = text_high p k (get_or p.sites i d).at w.0 w.1 in
    omega (arith, high)

pub pairs_low : (p : Picture) → IsKept p → All (λ s. s.at + 4 < 2 ^ 64) p.pairs
pairs_low p k i d lt =
    let s = k.pairs_call i d lt in
    let w = far_word p.texts p.funcs (get_or p.pairs i d).at (get_or p.pairs i d).func (pair_far p.texts p.funcs p.entry (get_or p.pairs i d).at (get_or p.pairs i d).func s) in
    let high = text_high p k (get_or p.pairs i d).at w.0 w.1 in
    omega (arith, high)
