-- Text and live layouts with their patches, and the new layout beside them, render the image as before.
use Rattle.std.proofs.Common.{◌≡◌, ℕ, zero, suc, ◌+◌, ◌*◌, ◌^◌, ◌<◌, Bool, true, false, List, [], ◌∷◌, length, get_or, refl, sym, ◌∙◌, ap, subst, inl, inr, arith}
use Rattle.std.specs.Prelude.{◌⊎◌, pos, ◌-ℤ◌, Option, Some, None, IsSome, IfSome, slice_get, position, unwrap_or, option_and_then, All, if◌then◌else◌}
use Rattle.std.specs.Option.{option_map, option_or}
use Rattle.std.proofs.lemmas.Bool.{eqb-true}
use Rattle.std.proofs.lemmas.List.Quantifiers.{position-Some}
use Rattle.std.proofs.lemmas.List.Elements.{All-push}
use Rattle.rv_isa.specs.Decoded.{decoded}
use Rattle.rv_isa.specs.declared.instr.Instr.TheVariants as instr
use Rattle.image.specs.declared.ranges.TextRange.{TextRange}
use Rattle.image.specs.Targets.{target}
use Rattle.image.specs.Texts.{word_at}
use Rattle.image.specs.Picture.{Picture, IsKept}
use Rattle.layout.specs.declared.point.Point.{Point}
use Rattle.layout.specs.declared.point.Point.TheVariants.{Start, Hop, Mid}
use Rattle.layout.specs.Laid.{Laid, IsLaid, item_at, point_in}
use Rattle.layout.specs.Points.{Code, StandsFor, in_range, read, site_of, second_of, start_of, Here, here_in, here_point, live_at, code_of}
use Rattle.layout.specs.Rows.{MovedRow, StartRow, HopRow, MidRow, Renders, GoesTo, CallsAim}
use Rattle.layout.specs.Alone.{alone, NamesCalls}
use Rattle.layout.proofs.CallWords.{bound, IsJalr, site_is_jal, second_is_jalr}
use Rattle.layout.proofs.Places.{item_here}
use Rattle.layout.proofs.TextRows.{read_is, read_same}
use Rattle.patcher.specs.declared.goal.Goal.{Goal}
use Rattle.patcher.specs.declared.goal.Goal.TheVariants.{Jump, Same}
use Rattle.patcher.specs.declared.patches.Patches.{Patches}
use Rattle.patcher.specs.Goals.{link_of, is_start, start_in, moved_to, site_goal, second_by, goal_of, goal_at, IsMade}
use Rattle.patcher.specs.Patched.{ArePatches, IsSet, IsPatchedText, ArePatched, texts_with, layouts_with, CanJoin, CanPlace, joined, IsPlaced}
use Rattle.patcher.proofs.FuncStarts.{IsStart, start_outside}
use Rattle.patcher.proofs.MoreRows.{Carries, stands_more, moved_more, kept_row, site_row, second_row, original_row, hop_row, mid_row, target_back}
use Rattle.patcher.proofs.Patching.{fits, patched_text, patched_layouts, spans_all}
use Rattle.patcher.proofs.Joined.{IsStill, here_make, live_alone, live_first, live_patched, live_absent, live_joined, live_last, alone_here, names_all, laid_all}

-- ---- what stands at an address
pub data PointCase (p : Picture) (lives : List Laid) (a : ℕ) (u : Point) : Type 0 where
  inside : (h : Here) → in_range p.region a ≡ true → live_at lives a ≡ Some h → h.point ≡ u → PointCase p lives a u
  outside : in_range p.region a ≡ false → u ≡ Start a → PointCase p lives a u

module _ (p : Picture) (words : ℕ → Option ℕ) (lives : List Laid) (a : ℕ) where
  point_case : (u : Point) → (code_of p words lives).point a ≡ Some u → PointCase p lives a u
  point_case u e = by_test (in_range p.region a) refl e
    where
      by_here : (o : Option Here) → in_range p.region a ≡ true → live_at lives a ≡ o → option_map here_point o ≡ Some u → PointCase p lives a u
      by_here None r k e = absurd (cc)
      by_here (Some h) r k e = inside h r k (cc)

      by_test : (b : Bool) → in_range p.region a ≡ b → (if b then option_map here_point (live_at lives a) else Some (Start a)) ≡ Some u → PointCase p lives a u
      by_test true r e = by_here (live_at lives a) r refl e
      by_test false r e = outside r (cc)

  module _ (h : Here) (r : in_range p.region a ≡ true) (e : live_at lives a ≡ Some h) where
    point_inside : (code_of p words lives).point a ≡ Some h.point
    point_inside = rw (r, e) refl

    home_inside : (code_of p words lives).home a ≡ Some h.home
    home_inside = rw (r, e) refl

    word_inside : (code_of p words lives).word a ≡ Some h.word
    word_inside = rw (r, e) refl

  module _ (r : in_range p.region a ≡ false) where
    point_outside : (code_of p words lives).point a ≡ Some (Start a)
    point_outside = rw r refl

    home_outside : (code_of p words lives).home a ≡ None
    home_outside = rw r refl

    word_outside : (code_of p words lives).word a ≡ words a
    word_outside = rw r refl

-- ---- what a call becomes
record SiteCase (p : Picture) (new : Option Laid) (x : ℕ) (g : Goal) : Type 0 where
  func : ℕ
  start : ℕ
  called : site_of p x ≡ Some func
  starts : start_of p func ≡ Some start
  goal : site_goal p new x start ≡ g

record SecondCase (p : Picture) (new : Option Laid) (x : ℕ) (g : Goal) : Type 0 where
  func : ℕ
  start : ℕ
  called : second_of p x ≡ Some func
  starts : start_of p func ≡ Some start
  goal : second_by p x (moved_to new start) ≡ Some g

mapped : {X Y : Type 0} (o : Option X) (f : X → Y) (y : Y) → option_map f o ≡ Some y → (x : X) × (o ≡ Some x) × (f x ≡ y)
mapped None f y e = absurd (cc)
mapped (Some x) f y e = (x, refl, cc)

goal_case : (p : Picture) (new : Option Laid) (x : ℕ) (g : Goal) → goal_of p new x ≡ Some g → SiteCase p new x g ⊎ SecondCase p new x g
unfolding goal_of
goal_case p new x g e = by_site (option_map (site_goal p new x) (option_and_then (start_of p) (site_of p x))) refl e
  where
    by_site : (o : Option Goal) → option_map (site_goal p new x) (option_and_then (start_of p) (site_of p x)) ≡ o
        → option_or o (option_and_then (λ s. second_by p x (moved_to new s)) (option_and_then (start_of p) (second_of p x))) ≡ Some g → SiteCase p new x g ⊎ SecondCase p new x g
    by_site (Some h) k e =
        let m = mapped (option_and_then (start_of p) (site_of p x)) (site_goal p new x) g (k ∙ e) in
        let b = bound (site_of p x) (start_of p) m.0 m.1 in
        inl (record { func = b.0; start = m.0; called = b.1; starts = b.2; goal = m.2 })
    by_site None k e =
        let m = bound (option_and_then (start_of p) (second_of p x)) (λ s. second_by p x (moved_to new s)) g e in
        let b = bound (second_of p x) (start_of p) m.0 m.1 in
        inr (record { func = b.0; start = m.0; called = b.1; starts = b.2; goal = m.2 })

site_goal_is : (p : Picture) (new : Option Laid) (x s : ℕ) → site_goal p new x s ≡ Jump (link_of (read (word_at p.texts) x)) (unwrap_or (moved_to new s) s)
unfolding site_goal
site_goal_is p new x s = refl

-- a word of another kind is no call
no_call : (p : Picture) → IsKept p → (new : Option Laid) (x rd imm : ℕ) → read (word_at p.texts) x ≡ Some (instr.Auipc rd imm) → goal_of p new x ≡ None
no_call p k new x rd imm r = by_goal (goal_of p new x) refl
  where
    by_case : {g : Goal} → SiteCase p new x g ⊎ SecondCase p new x g → ⊥
    by_case (inl h) =
        let j = site_is_jal p k x h.func h.called in
        let q = read_is (word_at p.texts) x j.word (Some (instr.Jal j.rd j.off)) j.stands j.reads in
        cc
    by_case (inr h) =
        let j = second_is_jalr p k x h.func h.called in
        let q = read_is (word_at p.texts) x j.word (Some (instr.Jalr j.rd j.rs j.off)) j.stands j.reads in
        cc

    by_goal : (o : Option Goal) → goal_of p new x ≡ o → o ≡ None
    by_goal None e = refl
    by_goal (Some g) e = absurd (by_case (goal_case p new x g e))

-- ---- Starts of the new layout
get_some : {X : Type 0} (xs : List X) (i : ℕ) (d : X) → i < length xs → slice_get xs i ≡ Some (get_or xs i d)
get_some [] i d lt = absurd (omega arith)
get_some (x ∷ xs) zero d lt = refl
get_some (x ∷ xs) (suc i) d lt = get_some xs i d (omega arith)

start_is : (s : ℕ) (q : Point) → is_start s q ≡ true → q ≡ Start s
start_is s (Start y) e = ap Start (eqb-true y s e)
start_is s (Hop y) e = absurd (cc)
start_is s (Mid y) e = absurd (cc)

record IsPlace (l : Laid) (s t : ℕ) : Type 0 where
  index : ℕ
  within : index < length l.points
  at : t ≡ l.base + 4 * index
  point : slice_get l.points index ≡ Some (Start s)

start_place : (l : Laid) (s t : ℕ) → start_in l s ≡ Some t → IsPlace l s t
unfolding start_in
start_place l s t e =
    let m = mapped (position (is_start s) l.points) (λ k. l.base + 4 * k) t e in
    let q = position-Some (is_start s) l.points m.0 (Start 0) m.1 in
    record { index = m.0; within = q.0; at = sym m.2; point = get_some l.points m.0 (Start 0) q.0 ∙ ap Some (start_is s (get_or l.points m.0 (Start 0)) q.1) }

-- ---- where calls go
module _ (p : Picture) (new : Option Laid) (x s : ℕ) where
  has_site_goal : option_and_then (start_of p) (site_of p x) ≡ Some s → goal_of p new x ≡ Some (site_goal p new x s)
  unfolding goal_of
  has_site_goal e = rw e refl

  has_second_goal : option_and_then (start_of p) (site_of p x) ≡ None → option_and_then (start_of p) (second_of p x) ≡ Some s → goal_of p new x ≡ second_by p x (moved_to new s)
  unfolding goal_of
  has_second_goal n e = rw (n, e) refl

no_site : (p : Picture) → IsKept p → (x f : ℕ) → second_of p x ≡ Some f → option_and_then (start_of p) (site_of p x) ≡ None
no_site p k x f e = by_site (site_of p x) refl
  where
    by_site : (o : Option ℕ) → site_of p x ≡ o → option_and_then (start_of p) o ≡ None
    by_site None i = refl
    by_site (Some g) i =
        let j = site_is_jal p k x g i in
        let q = read_is (word_at p.texts) x j.word (Some (instr.Jal j.rd j.off)) j.stands j.reads in
        let h = second_is_jalr p k x f e in
        let r = read_is (word_at p.texts) x h.word (Some (instr.Jalr h.rd h.rs h.off)) h.stands h.reads in
        absurd (cc)

-- ---- the words afterwards
module _ (p : Picture) (k : IsKept p) (now after : List TextRange) (lives ms : List Laid) (new : Option Laid) (text : IsPatchedText p new now after) (patched : ArePatched p new lives ms)
    (joins : IfSome new (CanJoin p lives)) (renders : Renders (code_of p (word_at now) lives)) where
  abbrev c : Code
  c = code_of p (word_at now) lives

  abbrev d : Code
  d = code_of p (word_at after) (joined ms new)

  still : (a : ℕ) (h : Here) → live_at lives a ≡ Some h → IsStill p new a h (live_at ms a)
  still a h e = live_patched p new lives ms patched a h e

  still_here : (a : ℕ) (h : Here) (e : live_at lives a ≡ Some h) → live_at (joined ms new) a ≡ Some (record { home = h.home; word = (still a h e).word; point = h.point })
  still_here a h e = live_joined ms new a (record { home = h.home; word = (still a h e).word; point = h.point }) (still a h e).stands

  -- a point stays
  pub point_more : (a : ℕ) (u : Point) → c.point a ≡ Some u → d.point a ≡ Some u
  point_more a u e = by_case (point_case p (word_at now) lives a u e)
    where
      by_case : PointCase p lives a u → d.point a ≡ Some u
      by_case (inside h r l q) = point_inside p (word_at after) (joined ms new) a (record { home = h.home; word = (still a h l).word; point = h.point }) r (still_here a h l) ∙ ap Some q
      by_case (outside r q) = point_outside p (word_at after) (joined ms new) a r ∙ ap Some (sym q)

  home_more : (a : ℕ) (u : Point) → c.point a ≡ Some u → d.home a ≡ c.home a
  home_more a u e = by_case (point_case p (word_at now) lives a u e)
    where
      by_case : PointCase p lives a u → d.home a ≡ c.home a
      by_case (inside h r l q) =
          home_inside p (word_at after) (joined ms new) a (record { home = h.home; word = (still a h l).word; point = h.point }) r (still_here a h l)
          ∙ sym (home_inside p (word_at now) lives a h r l)
      by_case (outside r q) = home_outside p (word_at after) (joined ms new) a r ∙ sym (home_outside p (word_at now) lives a r)

  carries : Carries c d
  carries = record { text = λ x. refl; site = λ x. refl; second = λ x. refl; point = point_more; home = home_more }

  words : (a : ℕ) (u : Point) → c.point a ≡ Some u → IsSet a (goal_at (goal_of p new) (Some u)) (c.word a) (d.word a)
  words a u e = by_case (point_case p (word_at now) lives a u e)
    where
      both : (g : Option Goal) (o b o' b' : Option ℕ) → o ≡ b → o' ≡ b' → IsSet a g b b' → IsSet a g o o'
      both g o b o' b' e f s = subst (λ (v : Option ℕ). IsSet a g v o') (sym e) (subst (λ (v : Option ℕ). IsSet a g b v) (sym f) s)

      by_case : PointCase p lives a u → IsSet a (goal_at (goal_of p new) (Some u)) (c.word a) (d.word a)
      by_case (inside h r l q) =
          both (goal_at (goal_of p new) (Some u)) (c.word a) (Some h.word) (d.word a) (Some (still a h l).word) (word_inside p (word_at now) lives a h r l)
          (word_inside p (word_at after) (joined ms new) a (record { home = h.home; word = (still a h l).word; point = h.point }) r (still_here a h l))
          (subst (λ (v : Point). IsSet a (goal_at (goal_of p new) (Some v)) (Some h.word) (Some (still a h l).word)) q (still a h l).sets)
      by_case (outside r q) =
          both (goal_at (goal_of p new) (Some u)) (c.word a) (word_at now a) (d.word a) (word_at after a) (word_outside p (word_at now) lives a r)
          (word_outside p (word_at after) (joined ms new) a r)
          (subst (λ (v : Point). IsSet a (goal_at (goal_of p new) (Some v)) (word_at now a) (word_at after a)) (sym q) (text.words a))

  same_word : (a : ℕ) (u : Point) → c.point a ≡ Some u → goal_at (goal_of p new) (Some u) ≡ None → d.word a ≡ c.word a
  same_word a u e n = subst (λ (g : Option Goal). IsSet a g (c.word a) (d.word a)) n (words a u e)

  -- ---- the new layout
  record FromNew (a : ℕ) (u : Point) : Type 0 where
    layout : Laid
    is_new : new ≡ Some layout
    here : Here
    within : in_range p.region a ≡ true
    stands : here_in layout a ≡ Some here
    point : here.point ≡ u

  back : (a : ℕ) (u : Point) → d.point a ≡ Some u → (c.point a ≡ Some u) ⊎ FromNew a u
  back a u e = by_case (point_case p (word_at after) (joined ms new) a u e)
    where
      by_new : (h : Here) → in_range p.region a ≡ true → live_at (joined ms new) a ≡ Some h → h.point ≡ u → live_at ms a ≡ None → (o : Option Laid) → new ≡ o → (c.point a ≡ Some u) ⊎ FromNew a u
      by_new h r l q n None i = absurd (let m = ap (λ (o : Option Laid). live_at (joined ms o) a) (sym i) ∙ l in cc)
      by_new h r l q n (Some m) i =
          let at : here_in m a ≡ Some h = sym (live_last ms m a n) ∙ ap (λ (o : Option Laid). live_at (joined ms o) a) (sym i) ∙ l in
          inr (record { layout = m; is_new = i; here = h; within = r; stands = at; point = q })

      by_old : (h : Here) → in_range p.region a ≡ true → live_at (joined ms new) a ≡ Some h → h.point ≡ u → (o : Option Here) → live_at lives a ≡ o → (c.point a ≡ Some u) ⊎ FromNew a u
      by_old h r l q (Some i) j =
          let s = sym (still_here a i j) ∙ l in
          let same : i.point ≡ h.point = cc in
          inl (point_inside p (word_at now) lives a i r j ∙ ap Some (same ∙ q))
      by_old h r l q None j = by_new h r l q (live_absent p new lives ms patched a j) new refl

      by_case : PointCase p (joined ms new) a u → (c.point a ≡ Some u) ⊎ FromNew a u
      by_case (inside h r l q) = by_old h r l q (live_at lives a) refl
      by_case (outside r q) = inl (point_outside p (word_at now) lives a r ∙ ap Some (sym q))

  module _ (l : Laid) (is_new : new ≡ Some l) where
    join : CanJoin p lives l
    join = subst (λ (o : Option Laid). IfSome o (CanJoin p lives)) is_new joins

    new_here : (a : ℕ) (h : Here) → here_in l a ≡ Some h → live_at (joined ms new) a ≡ Some h
    new_here a h e =
        let n = live_absent p new lives ms patched a (alone_here lives l join.apart a h e) in
        ap (λ (o : Option Laid). live_at (joined ms o) a) is_new ∙ live_last ms l a n ∙ e

    abbrev b : Code
    b = alone p l

    new_point : (a : ℕ) (u : Point) → b.point a ≡ Some u → d.point a ≡ Some u
    new_point a u e = by_case (point_case p (word_at p.texts) (l ∷ []) a u e)
      where
        by_case : PointCase p (l ∷ []) a u → d.point a ≡ Some u
        by_case (inside h r i q) = point_inside p (word_at after) (joined ms new) a h r (new_here a h (live_alone l a h i)) ∙ ap Some q
        by_case (outside r q) = point_outside p (word_at after) (joined ms new) a r ∙ ap Some (sym q)

    new_home : (a : ℕ) (u : Point) → b.point a ≡ Some u → d.home a ≡ b.home a
    new_home a u e = by_case (point_case p (word_at p.texts) (l ∷ []) a u e)
      where
        by_case : PointCase p (l ∷ []) a u → d.home a ≡ b.home a
        by_case (inside h r i q) = home_inside p (word_at after) (joined ms new) a h r (new_here a h (live_alone l a h i)) ∙ sym (home_inside p (word_at p.texts) (l ∷ []) a h r i)
        by_case (outside r q) = home_outside p (word_at after) (joined ms new) a r ∙ sym (home_outside p (word_at p.texts) (l ∷ []) a r)

    new_carries : Carries b d
    new_carries = record { text = λ x. refl; site = λ x. refl; second = λ x. refl; point = new_point; home = new_home }

    -- a word of the region
    new_word : (a : ℕ) (u : Point) → in_range p.region a ≡ true → b.point a ≡ Some u → d.word a ≡ b.word a
    new_word a u r e = by_case (point_case p (word_at p.texts) (l ∷ []) a u e)
      where
        by_case : PointCase p (l ∷ []) a u → d.word a ≡ b.word a
        by_case (inside h r i q) = word_inside p (word_at after) (joined ms new) a h r (new_here a h (live_alone l a h i)) ∙ sym (word_inside p (word_at p.texts) (l ∷ []) a h r i)
        by_case (outside n q) = absurd (cc)

    mid_inside : (a y : ℕ) → b.point a ≡ Some (Mid y) → in_range p.region a ≡ true
    mid_inside a y e = by_case (point_case p (word_at p.texts) (l ∷ []) a (Mid y) e)
      where
        by_case : PointCase p (l ∷ []) a (Mid y) → in_range p.region a ≡ true
        by_case (inside h r i q) = r
        by_case (outside n q) = absurd (cc)

    new_mid : (a y : ℕ) → b.point a ≡ Some (Mid y) → d.word a ≡ b.word a
    new_mid a y e = new_word a (Mid y) (mid_inside a y e) e

  -- ---- calls
  moved_point : (s t : ℕ) → moved_to new s ≡ Some t → (d.point t ≡ Some (Start s)) × (t < 2 ^ 64)
  moved_point s t e = by_new new refl e
    where
      at_place : (l : Laid) (i : new ≡ Some l) (n : ℕ) → n < length l.points → t ≡ l.base + 4 * n → slice_get l.points n ≡ Some (Start s) → (d.point t ≡ Some (Start s)) × (t < 2 ^ 64)
      at_place l i n lt at q =
          let j = join l i in
          let each = j.laid.each in
          let high = j.laid.high in
          let in' : n < length l.words = omega (arith, lt, each) in
          let r : in_range p.region t ≡ true = rw at (j.renders.within n in') in
          let point : point_in l t ≡ Some (Start s) = rw at (item_here l.base l.points n ∙ q) in
          let word : item_at l.base l.words t ≡ Some (get_or l.words n 0) = rw at (item_here l.base l.words n ∙ get_some l.words n 0 in') in (
            point_inside p (word_at after) (joined ms new) t (record { home = l.base; word = get_or l.words n 0; point = Start s }) r
                (new_here l i t (record { home = l.base; word = get_or l.words n 0; point = Start s }) (here_make l t (get_or l.words n 0) (Start s) word point)),
            omega (arith, at, in', high),
          )

      by_new : (o : Option Laid) → new ≡ o → moved_to o s ≡ Some t → (d.point t ≡ Some (Start s)) × (t < 2 ^ 64)
      by_new None i e = absurd (cc)
      by_new (Some l) i e = let q = start_place l s t e in at_place l i q.index q.within q.at q.point

  -- where a function is moved to is a Start of it, and so is where it starts
  pub aim_point : (s : ℕ) → IsStart p s → (d.point (unwrap_or (moved_to new s) s) ≡ Some (Start s)) × (unwrap_or (moved_to new s) s < 2 ^ 64)
  aim_point s st = by_moved (moved_to new s) refl
    where
      by_moved : (o : Option ℕ) → moved_to new s ≡ o → (d.point (unwrap_or o s) ≡ Some (Start s)) × (unwrap_or o s < 2 ^ 64)
      by_moved None e = (point_outside p (word_at after) (joined ms new) s st.outside, st.low)
      by_moved (Some t) e = moved_point s t e

  module _ (a x w : ℕ) (at : c.point a ≡ Some (Start x)) (dw : d.word a ≡ Some w) (row : StartRow c a x) where
    site_call : (g : Goal) → IsMade a g w → SiteCase p new x g → StartRow d a x
    site_call g m h =
        let j = site_is_jal p k x h.func h.called in
        let reads = read_is (word_at p.texts) x j.word (Some (instr.Jal j.rd j.off)) j.stands j.reads in
        let to = unwrap_or (moved_to new h.start) h.start in
        let made : decoded w ≡ Some (instr.Jal (link_of (read (word_at p.texts) x)) (pos (unwrap_or (moved_to new h.start) h.start) -ℤ pos a)) =
        subst (λ (f : Goal). IsMade a f w) (sym h.goal ∙ site_goal_is p new x h.start) m in
        let link : link_of (read (word_at p.texts) x) ≡ j.rd = ap link_of reads in
        let f : c.site x ≡ Some h.start = rw (h.called, h.starts) refl in
        let aim = aim_point h.start (start_outside p k h.func h.start h.starts) in
        site_row c d carries a x at w h.start (unwrap_or (moved_to new h.start) h.start) j.rd j.off reads f dw
        (made ∙ ap (λ (r : ℕ). Some (instr.Jal r (pos (unwrap_or (moved_to new h.start) h.start) -ℤ pos a))) link) aim.0 aim.1 row

    second_call : (g : Goal) → IsMade a g w → SecondCase p new x g → StartRow d a x
    second_call g m h = by_moved (moved_to new h.start) refl h.goal
      where
        j : IsJalr p x
        j = second_is_jalr p k x h.func h.called

        reads : read (word_at p.texts) x ≡ Some (instr.Jalr j.rd j.rs j.off)
        reads = read_is (word_at p.texts) x j.word (Some (instr.Jalr j.rd j.rs j.off)) j.stands j.reads

        f : c.second x ≡ Some h.start
        f = rw (h.called, h.starts) refl

        original : (v : ℕ) → word_at p.texts x ≡ Some v → Same v ≡ g → StartRow d a x
        original v e i =
            let same : w ≡ v = subst (λ (z : Goal). IsMade a z w) (sym i) m in
            let s = j.stands in
            let is : v ≡ j.word = cc in
            original_row c d carries a x at w j.rd j.rs j.off (e ∙ ap Some (sym same)) (ap decoded (same ∙ is) ∙ j.reads) dw row

        by_word : (o : Option ℕ) → word_at p.texts x ≡ o → option_map Same o ≡ Some g → StartRow d a x
        by_word None e i = absurd (cc)
        by_word (Some v) e i = original v e (cc)

        by_moved : (o : Option ℕ) → moved_to new h.start ≡ o → second_by p x o ≡ Some g → StartRow d a x
        by_moved None e i = by_word (word_at p.texts x) refl i
        by_moved (Some t) e i =
            let goal : Jump (link_of (read (word_at p.texts) x)) t ≡ g = cc in
            let made : decoded w ≡ Some (instr.Jal (link_of (read (word_at p.texts) x)) (pos t -ℤ pos a)) = subst (λ (z : Goal). IsMade a z w) (sym goal) m in
            let link : link_of (read (word_at p.texts) x) ≡ j.rd = ap link_of reads in
            let aim = moved_point h.start t e in
            second_row c d carries a x at w h.start t j.rd j.rs j.off reads f dw (made ∙ ap (λ (r : ℕ). Some (instr.Jal r (pos t -ℤ pos a))) link) aim.0 aim.1 row

    call_row : (g : Goal) → goal_of p new x ≡ Some g → IsMade a g w → StartRow d a x
    call_row g e m = by_case (goal_case p new x g e)
      where
        by_case : SiteCase p new x g ⊎ SecondCase p new x g → StartRow d a x
        by_case (inl h) = site_call g m h
        by_case (inr h) = second_call g m h

  -- ---- the rows
  fresh_point : (a : ℕ) (u : Point) (f : FromNew a u) → (alone p f.layout).point a ≡ Some u
  fresh_point a u f = point_inside p (word_at p.texts) (f.layout ∷ []) a f.here f.within (live_first f.layout [] a f.here f.stands) ∙ ap Some f.point

  start_row : (a x : ℕ) → d.point a ≡ Some (Start x) → StartRow d a x
  start_row a x e = by_back (back a (Start x) e)
    where
      old : c.point a ≡ Some (Start x) → (o : Option Goal) → goal_of p new x ≡ o → StartRow d a x
      old at None n = kept_row c d carries a x at (same_word a (Start x) at n) (λ y m. same_word (a + 4) (Mid y) m refl) (renders.starts a x at)
      old at (Some g) n =
          let s : IsSet a (Some g) (c.word a) (d.word a) = subst (λ (o : Option Goal). IsSet a o (c.word a) (d.word a)) n (words a (Start x) at) in
          call_row a x s.0 at s.1 (renders.starts a x at) g n s.2

      fresh : FromNew a (Start x) → StartRow d a x
      fresh f =
          let at = fresh_point a (Start x) f in
          kept_row (alone p f.layout) d (new_carries f.layout f.is_new) a x at (new_word f.layout f.is_new a (Start x) f.within at) (λ y m. new_mid f.layout f.is_new (a + 4) y m)
          ((join f.layout f.is_new).renders.renders.starts a x at)

      by_back : (c.point a ≡ Some (Start x)) ⊎ FromNew a (Start x) → StartRow d a x
      by_back (inl at) = old at (goal_of p new x) refl
      by_back (inr f) = fresh f

  hops : (a x : ℕ) → d.point a ≡ Some (Hop x) → HopRow d a x
  hops a x e = by_back (back a (Hop x) e)
    where
      by_back : (c.point a ≡ Some (Hop x)) ⊎ FromNew a (Hop x) → HopRow d a x
      by_back (inl at) = hop_row c d carries a x at (same_word a (Hop x) at refl) (renders.hops a x at)
      by_back (inr f) =
          let at = fresh_point a (Hop x) f in
          hop_row (alone p f.layout) d (new_carries f.layout f.is_new) a x at (new_word f.layout f.is_new a (Hop x) f.within at) ((join f.layout f.is_new).renders.renders.hops a x at)

  -- the first word of an address that was moved stands where the second does
  first_inside : (l : Laid) (a x : ℕ) → (alone p l).point a ≡ Some (Start x) → (alone p l).point (a + 4) ≡ Some (Mid x) → (alone p l).home (a + 4) ≡ (alone p l).home a → in_range p.region a ≡ true
  first_inside l a x at mid home = by_cases (point_case p (word_at p.texts) (l ∷ []) a (Start x) at) (point_case p (word_at p.texts) (l ∷ []) (a + 4) (Mid x) mid)
    where
      by_cases : PointCase p (l ∷ []) a (Start x) → PointCase p (l ∷ []) (a + 4) (Mid x) → in_range p.region a ≡ true
      by_cases (inside h r i q) y = r
      by_cases (outside n q) (inside h r i z) =
          absurd (let e = home_inside p (word_at p.texts) (l ∷ []) (a + 4) h r i in let f = home_outside p (word_at p.texts) (l ∷ []) a n in cc)
      by_cases (outside n q) (outside r z) = absurd (cc)

  mids : (m x : ℕ) → d.point m ≡ Some (Mid x) → MidRow d m x
  mids m x e = by_back (back m (Mid x) e)
    where
      by_back : (c.point m ≡ Some (Mid x)) ⊎ FromNew m (Mid x) → MidRow d m x
      by_back (inl at) =
          let r = renders.mids m x at in
          mid_row c d carries m x r (same_word r.first (Start x) r.start (no_call p k new x r.rd r.moved.imm r.moved.text)) (same_word (r.first + 4) (Mid x) r.moved.mid refl)
      by_back (inr f) =
          let at = fresh_point m (Mid x) f in
          let r = (join f.layout f.is_new).renders.renders.mids m x at in
          mid_row (alone p f.layout) d (new_carries f.layout f.is_new) m x r
          (new_word f.layout f.is_new r.first (Start x) (first_inside f.layout r.first x r.start r.moved.mid r.moved.home) r.start) (new_mid f.layout f.is_new (r.first + 4) x r.moved.mid)

  moved_reads : (a x : ℕ) → IsSome (d.home a) → d.point a ≡ Some (Start x) → IsSome (read d.text x)
  moved_reads a x h e = by_back (back a (Start x) e)
    where
      by_back : (c.point a ≡ Some (Start x)) ⊎ FromNew a (Start x) → IsSome (read d.text x)
      by_back (inl at) = renders.reads a x (subst (λ (o : Option ℕ). IsSome o) (home_more a (Start x) at) h) at
      by_back (inr f) =
          let at = fresh_point a (Start x) f in
          (join f.layout f.is_new).renders.renders.reads a x (subst (λ (o : Option ℕ). IsSome o) (new_home f.layout f.is_new a (Start x) at) h) at

  pub renders_on : Renders (code_of p (word_at after) (joined ms new))
  renders_on = record { starts = start_row; hops = hops; mids = mids; reads = moved_reads }

  -- ---- code pointers
  -- whoever is at an address goes on from there as before
  pub stands_on : (a x : ℕ) → StandsFor c a x → StandsFor d a x
  stands_on a x s = stands_more c d carries a x s

  -- an address that is made in two words goes on to be made by them: they are no call
  pub moved_on : (b x rd high : ℕ) → MovedRow c b x rd high → MovedRow d b x rd high
  moved_on b x rd high m =
      let r = renders.mids (b + 4) x m.mid in
      let after = r.after in
      let same : r.first ≡ b = omega (arith, after) in
      let at : c.point b ≡ Some (Start x) = subst (λ a. c.point a ≡ Some (Start x)) same r.start in
      moved_more c d carries b x at rd high (same_word b (Start x) at (no_call p k new x rd m.imm m.text)) (same_word (b + 4) (Mid x) m.mid refl) m

  -- ---- where the calls go
  goes : (a w r to s : ℕ) → d.word a ≡ Some w → decoded w ≡ Some (instr.Jal r (pos to -ℤ pos a)) → d.point to ≡ Some (Start s) → to < 2 ^ 64 → GoesTo d a s
  goes a w r to s e m q lt = record { rd = r; aim = pos to -ℤ pos a; word = read_is d.word a w (Some (instr.Jal r (pos to -ℤ pos a))) e m; start = rw (target_back a to lt) q }

  site_aims : (a x s : ℕ) → c.point a ≡ Some (Start x) → option_and_then (start_of p) (site_of p x) ≡ Some s → GoesTo d a s
  site_aims a x s at e =
      let f = bound (site_of p x) (start_of p) s e in
      let set : IsSet a (Some (Jump (link_of (read (word_at p.texts) x)) (unwrap_or (moved_to new s) s))) (c.word a) (d.word a) =
      subst (λ (o : Option Goal). IsSet a o (c.word a) (d.word a)) (has_site_goal p new x s e ∙ ap Some (site_goal_is p new x s)) (words a (Start x) at) in
      let aim = aim_point s (start_outside p k f.0 s f.2) in
      goes a set.0 (link_of (read (word_at p.texts) x)) (unwrap_or (moved_to new s) s) s set.1 set.2 aim.0 aim.1

  second_aims : (a x s : ℕ) → c.point a ≡ Some (Start x) → option_and_then (start_of p) (second_of p x) ≡ Some s → (d.word a ≡ word_at p.texts x) ⊎ GoesTo d a s
  second_aims a x s at e = by_moved (moved_to new s) refl
    where
      goal : goal_of p new x ≡ second_by p x (moved_to new s)
      goal = let f = bound (second_of p x) (start_of p) s e in has_second_goal p new x s (no_site p k x f.0 f.1) e

      set : IsSet a (second_by p x (moved_to new s)) (c.word a) (d.word a)
      set = subst (λ (o : Option Goal). IsSet a o (c.word a) (d.word a)) goal (words a (Start x) at)

      stands : (v : ℕ) → word_at p.texts x ≡ Some v → IsSet a (Some (Same v)) (c.word a) (d.word a) → d.word a ≡ word_at p.texts x
      stands v i z = z.1 ∙ ap Some z.2 ∙ sym i

      by_word : (o : Option ℕ) → word_at p.texts x ≡ o → IsSet a (option_map Same o) (c.word a) (d.word a) → (d.word a ≡ word_at p.texts x) ⊎ GoesTo d a s
      by_word None i z =
          let f = bound (second_of p x) (start_of p) s e in
          let j = second_is_jalr p k x f.0 f.1 in
          let stays = j.stands in
          absurd (cc)
      by_word (Some v) i z = inl (stands v i z)

      by_moved : (o : Option ℕ) → moved_to new s ≡ o → (d.word a ≡ word_at p.texts x) ⊎ GoesTo d a s
      by_moved None i = by_word (word_at p.texts x) refl (subst (λ (o : Option ℕ). IsSet a (second_by p x o) (c.word a) (d.word a)) i set)
      by_moved (Some t) i =
          let z : IsSet a (Some (Jump (link_of (read (word_at p.texts) x)) t)) (c.word a) (d.word a) = subst (λ (o : Option ℕ). IsSet a (second_by p x o) (c.word a) (d.word a)) i set in
          let aim = moved_point s t i in
          inr (goes a z.0 (link_of (read (word_at p.texts) x)) t s z.1 z.2 aim.0 aim.1)

  module _ (l : Laid) (is_new : new ≡ Some l) (a : ℕ) where
    aims_more : (s : ℕ) → d.word a ≡ (alone p l).word a → GoesTo (alone p l) a s → GoesTo d a s
    aims_more s e g = record { rd = g.rd; aim = g.aim; word = read_same d.word (alone p l).word a e ∙ g.word; start = new_point l is_new (target a g.aim) (Start s) g.start }

    either_more : (x s : ℕ) → d.word a ≡ (alone p l).word a → ((alone p l).word a ≡ word_at p.texts x) ⊎ GoesTo (alone p l) a s → (d.word a ≡ word_at p.texts x) ⊎ GoesTo d a s
    either_more x s e (inl z) = inl (e ∙ z)
    either_more x s e (inr g) = inr (aims_more s e g)

  pub calls_aim : IfSome new (λ l. CallsAim (alone p l)) → CallsAim (code_of p (word_at after) (joined ms new))
  calls_aim h = record { sites = sites; seconds = seconds }
    where
      own : (l : Laid) → new ≡ Some l → CallsAim (alone p l)
      own l e = subst (λ (o : Option Laid). IfSome o (λ l. CallsAim (alone p l))) e h

      sites : (a x s : ℕ) → d.point a ≡ Some (Start x) → d.site x ≡ Some s → (d.word a ≡ word_at p.texts x) ⊎ GoesTo d a s
      sites a x s e f = by_back (back a (Start x) e)
        where
          by_back : (c.point a ≡ Some (Start x)) ⊎ FromNew a (Start x) → (d.word a ≡ word_at p.texts x) ⊎ GoesTo d a s
          by_back (inl at) = inr (site_aims a x s at f)
          by_back (inr n) =
              let at = fresh_point a (Start x) n in
              either_more n.layout n.is_new a x s (new_word n.layout n.is_new a (Start x) n.within at) ((own n.layout n.is_new).sites a x s at f)

      seconds : (a x s : ℕ) → d.point a ≡ Some (Start x) → d.second x ≡ Some s → (d.word a ≡ word_at p.texts x) ⊎ GoesTo d a s
      seconds a x s e f = by_back (back a (Start x) e)
        where
          by_back : (c.point a ≡ Some (Start x)) ⊎ FromNew a (Start x) → (d.word a ≡ word_at p.texts x) ⊎ GoesTo d a s
          by_back (inl at) = second_aims a x s at f
          by_back (inr n) =
              let at = fresh_point a (Start x) n in
              either_more n.layout n.is_new a x s (new_word n.layout n.is_new a (Start x) n.within at) ((own n.layout n.is_new).seconds a x s at f)

pub all_joined : (P : Laid → Type 0) (ms : List Laid) (new : Option Laid) → All P ms → ((l : Laid) → new ≡ Some l → P l) → All P (joined ms new)
all_joined P ms None a f = a
all_joined P ms (Some l) a f = All-push P ms l a (f l refl)

joins_of : (p : Picture) (lives : List Laid) (new : Option Laid) (l : Laid) → IfSome new (CanJoin p lives) → new ≡ Some l → CanJoin p lives l
joins_of p lives new l j e = subst (λ (o : Option Laid). IfSome o (CanJoin p lives)) e j

pub keeps : (p : Picture) (new : Option Laid) (now : List TextRange) (lives : List Laid) (q : Patches) → CanPlace p now lives new → ArePatches p new lives q
    → IsPlaced p (texts_with q.text now) (joined (layouts_with q.lives lives) new)
keeps p new now lives q can m =
    let f = fits p new now lives q can.kept can.text can.laid m in
    let text = patched_text p new now q.text m.of_text f.in_text in
    let ms = patched_layouts p new lives q.lives m.of_lives f.in_lives in
    record {
      text = spans_all q.text now ∙ can.text;
      laid = all_joined IsLaid (layouts_with q.lives lives) new (laid_all p new lives (layouts_with q.lives lives) ms can.laid) (λ l e. (joins_of p lives new l can.joins e).laid);
      calls = all_joined (NamesCalls p) (layouts_with q.lives lives) new (names_all p new lives (layouts_with q.lives lives) ms can.calls) (λ l e. (joins_of p lives new l can.joins e).renders.calls);
      renders = renders_on p can.kept now (texts_with q.text now) lives (layouts_with q.lives lives) new text ms can.joins can.renders;
    }

pub aims : (p : Picture) (new : Option Laid) (now : List TextRange) (lives : List Laid) (q : Patches) → CanPlace p now lives new → ArePatches p new lives q
    → IfSome new (λ l. CallsAim (alone p l)) → CallsAim (code_of p (word_at (texts_with q.text now)) (joined (layouts_with q.lives lives) new))
aims p new now lives q can m h =
    let f = fits p new now lives q can.kept can.text can.laid m in
    calls_aim p can.kept now (texts_with q.text now) lives (layouts_with q.lives lives) new (patched_text p new now q.text m.of_text f.in_text) (patched_layouts p new lives q.lives m.of_lives f.in_lives)
    can.joins can.renders h
