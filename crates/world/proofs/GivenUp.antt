-- The code of what is left once some layouts are given up.
use Rattle.std.proofs.Common.{◌≡◌, ℕ, zero, suc, ◌<◌, Bool, true, false, not, List, [], ◌∷◌, length, refl, sym, ap, ◌∙◌, subst, arith}
use Rattle.std.specs.Prelude.{◌&&◌, All, AllPairs, Contains, Option, Some, None, is_some, slice_get, if◌then◌else◌}
use Rattle.std.specs.Option.{option_map}
use Rattle.std.proofs.lemmas.Option.{slice_get_within, get_or_from_slice_get}
use Rattle.image.specs.declared.ranges.TextRange.{TextRange}
use Rattle.image.specs.Texts.{word_at}
use Rattle.image.specs.Picture.{Picture}
use Rattle.layout.specs.declared.point.Point.TheVariants.{Start}
use Rattle.layout.specs.Laid.{Laid}
use Rattle.layout.specs.Apart.{LieApart, Covers, LiesIn}
use Rattle.layout.specs.Points.{Code, Here, here_home, here_word, here_point, here_in, live_at, in_range}
use Rattle.patcher.proofs.Joined.{here_back, here_bounds, live_first, live_later, live_nothing}
use Rattle.layout.proofs.Apart.{are_apart, from_there, same_place}
use Rattle.sim_laws.specs.Changes.{GivesUp}
use Rattle.world.specs.Worlds.{code_in}
use Rattle.world.specs.Retiring.{without}
use Rattle.world.proofs.FreeRanges.{same_test}
use Rattle.world.proofs.LeftOver.{Climbs, came_from, went_to}

-- ---- what a layout has at an address
-- an address of which a layout has something
pub record Stands (lives : List Laid) (a : ℕ) (h : Here) : Type 0 where
  pub place : ℕ
  pub layout : Laid
  pub at : slice_get lives place ≡ Some layout
  pub here : here_in layout a ≡ Some h

stands_later : (l : Laid) (ls : List Laid) (a : ℕ) (h : Here) → Stands ls a h → Stands (l ∷ ls) a h
stands_later l ls a h s = record { place = suc s.place; layout = s.layout; at = s.at; here = s.here }

pub stands : (lives : List Laid) (a : ℕ) (h : Here) → live_at lives a ≡ Some h → Stands lives a h
stands [] a h e = absurd (let n = live_nothing a in cc)
stands (l ∷ ls) a h e = by_first (here_in l a) refl (stands ls a h)
  where
    by_first : (o : Option Here) → here_in l a ≡ o → (live_at ls a ≡ Some h → Stands ls a h) → Stands (l ∷ ls) a h
    by_first None f later = stands_later l ls a h (later (sym (live_later l ls a f) ∙ e))
    by_first (Some g) f later = let n = live_first l ls a g f in record { place = zero; layout = l; at = refl; here = f ∙ sym n ∙ e }

-- one of several does
lives_somehow : (lives : List Laid) (k : ℕ) (l : Laid) (a : ℕ) (h : Here) → slice_get lives k ≡ Some l → here_in l a ≡ Some h → (g : Here) × (live_at lives a ≡ Some g)
lives_somehow [] k l a h e f = absurd (cc)
lives_somehow (m ∷ ms) zero l a h e f = let same : m ≡ l = cc in (h, live_first m ms a h (ap (λ (x : Laid). here_in x a) same ∙ f))
lives_somehow (m ∷ ms) (suc k) l a h e f = by_first (here_in m a) refl (lives_somehow ms k l a h e f)
  where
    by_first : (o : Option Here) → here_in m a ≡ o → (g : Here) × (live_at ms a ≡ Some g) → (g : Here) × (live_at (m ∷ ms) a ≡ Some g)
    by_first None p later = (later.0, live_later m ms a p ∙ later.1)
    by_first (Some g) p later = (g, live_first m ms a g p)

pub lies_in : (lives : List Laid) (a : ℕ) (h : Here) (s : Stands lives a h) → LiesIn lives a s.place
lies_in lives a h s = from_there lives s.place (Covers a) s.layout s.at (here_bounds s.layout a h s.here)

module _ (lives : List Laid) (apart : AllPairs LieApart lives) where
  -- and no other one
  pub one_place : (a : ℕ) (g h : Here) (s : Stands lives a g) (t : Stands lives a h) → s.place ≡ t.place
  one_place a g h s t = are_apart lives apart a s.place t.place (lies_in lives a g s) (lies_in lives a h t)

  pub one_layout : (s t : ℕ) (l m : Laid) → s ≡ t → slice_get lives s ≡ Some l → slice_get lives t ≡ Some m → l ≡ m
  one_layout s t l m e f g = same_place lives t l m (ap (λ k. slice_get lives k) (sym e) ∙ f) g

  pub live_is : (a : ℕ) (h : Here) → Stands lives a h → live_at lives a ≡ Some h
  live_is a h s =
      let g = lives_somehow lives s.place s.layout a h s.at s.here in
      let t = stands lives a g.0 g.1 in
      let same = one_layout t.place s.place t.layout s.layout (one_place a g.0 h t s) t.at s.at in
      g.1 ∙ sym t.here ∙ ap (λ (x : Laid). here_in x a) same ∙ s.here

-- ---- what is left
module _ (p : Picture) (text : List TextRange) (lives : List Laid) (gone : List ℕ) (climbs : Climbs gone) (short : All (λ k. k < length lives) gone)
    (some : All (λ (l : Laid). 0 < length l.words) lives) (apart : AllPairs LieApart lives) where
  pub before : Code
  before = code_in p text lives

  pub after : Code
  after = code_in p text (without gone lives)

  -- it was in a layout, and is in none any more
  abbrev pub gone_at : ℕ → Bool
  gone_at a = is_some ((code_in p text lives).home a) && not (is_some ((code_in p text (without gone lives)).home a))

  record Left (a : ℕ) (h : Here) : Type 0 where
    stood : Stands lives a h
    left : Contains gone stood.place → ⊥

  stays : (a : ℕ) (h : Here) → live_at (without gone lives) a ≡ Some h → Left a h
  stays a h e =
      let s = stands (without gone lives) a h e in
      let k = came_from gone lives s.place s.layout climbs short s.at in
      record { stood = record { place = k.0; layout = s.layout; at = k.1; here = s.here }; left = k.2 }

  goes_on : (a : ℕ) (h : Here) → live_at (without gone lives) a ≡ Some h → live_at lives a ≡ Some h
  goes_on a h e = live_is lives apart a h (stays a h e).stood

  -- a layout that isn't given up has all that it had
  pub still : (a : ℕ) (h : Here) (s : Stands lives a h) → (Contains gone s.place → ⊥) → (g : Here) × (live_at (without gone lives) a ≡ Some g)
  still a h s n =
      let i = went_to gone lives s.place s.layout climbs short s.at n in
      lives_somehow (without gone lives) i.0 s.layout a h i.1 s.here

  -- ---- address by address
  lost_by : (r : Bool) (o q : Option Here) (a : ℕ) → (is_some (if r then option_map here_home o else None) && not (is_some (if r then option_map here_home q else None))) ≡ true
      → (if r then option_map here_point q else Some (Start a)) ≡ None
  lost_by false o q a e = absurd (cc)
  lost_by true o None a e = refl
  lost_by true None (Some h) a e = absurd (cc)
  lost_by true (Some g) (Some h) a e = absurd (cc)

  kept_by : {X : Type 0} (f : Here → X) (x : Option X) (r : Bool) (o q : Option Here) → ((h : Here) → q ≡ Some h → o ≡ Some h)
      → (is_some (if r then option_map here_home o else None) && not (is_some (if r then option_map here_home q else None))) ≡ false
      → (if r then option_map f q else x) ≡ (if r then option_map f o else x)
  kept_by f x false o q g e = refl
  kept_by f x true None None g e = refl
  kept_by f x true None (Some h) g e = let n = g h refl in absurd (cc)
  kept_by f x true (Some h) None g e = absurd (cc)
  kept_by f x true (Some h) (Some i) g e = ap (option_map f) (sym (g i refl))

  -- an address of a layout, by its base
  pub record Home (a b : ℕ) : Type 0 where
    pub is : Here
    pub inside : in_range p.region a ≡ true
    pub live : live_at lives a ≡ Some is
    pub stood : Stands lives a is
    pub base : stood.layout.base ≡ b

  pub home_is : (a b : ℕ) → (code_in p text lives).home a ≡ Some b → Home a b
  home_is a b e = by_test (in_range p.region a) refl (live_at lives a) refl e
    where
      by_test : (r : Bool) → in_range p.region a ≡ r → (o : Option Here) → live_at lives a ≡ o → (if r then option_map here_home o else None) ≡ Some b → Home a b
      by_test false r o k e = absurd (cc)
      by_test true r None k e = absurd (cc)
      by_test true r (Some h) k e =
          let s = stands lives a h k in
          let home : h.home ≡ b = cc in
          record { is = h; inside = r; live = k; stood = s; base = sym (here_back s.layout a h s.here).2 ∙ home }

  home_some : (ls : List Laid) (a : ℕ) (h : Here) → in_range p.region a ≡ true → live_at ls a ≡ Some h → (code_in p text ls).home a ≡ Some h.home
  home_some ls a h r e = rw (r, e) refl

  -- a base is that of one layout
  same_base : (j k : ℕ) (l m : Laid) → slice_get lives j ≡ Some l → slice_get lives k ≡ Some m → l.base ≡ m.base → j ≡ k
  same_base j k l m e f same =
      let x = has_words j l e in
      let y = has_words k m f in
      are_apart lives apart l.base j k
      (from_there lives j (Covers l.base) l e (omega arith, omega (arith, x)))
      (from_there lives k (Covers l.base) m f (omega (arith, same), omega (arith, same, y)))
    where
      has_words : (i : ℕ) (n : Laid) → slice_get lives i ≡ Some n → 0 < length n.words
      has_words i n g = subst (λ (x : Laid). 0 < length x.words) (get_or_from_slice_get lives i n n g) (some i n (slice_get_within lives i n g))

  -- so where one address of a layout is left, all are
  left_as : (a b base : ℕ) → Home a base → Home b base → is_some ((code_in p text (without gone lives)).home a) ≡ true → is_some ((code_in p text (without gone lives)).home b) ≡ true
  left_as a b base x y e = by_live (live_at (without gone lives) a) refl e
    where
      by_live : (o : Option Here) → live_at (without gone lives) a ≡ o → is_some (if in_range p.region a then option_map here_home o else None) ≡ true
          → is_some ((code_in p text (without gone lives)).home b) ≡ true
      by_live None k e = absurd (let r = x.inside in by_range (in_range p.region a) e)
        where
          by_range : (r : Bool) → is_some (if r then option_map here_home None else None) ≡ true → ⊥
          by_range true f = absurd (cc)
          by_range false f = absurd (cc)
      by_live (Some h) k e =
          let s = stays a h k in
          let u = s.stood in
          let first : u.place ≡ x.stood.place = one_place lives apart a h x.is u x.stood in
          let second : x.stood.place ≡ y.stood.place = same_base x.stood.place y.stood.place x.stood.layout y.stood.layout x.stood.at y.stood.at (x.base ∙ sym y.base) in
          let g = still b y.is y.stood (subst (λ k. Contains gone k → ⊥) (first ∙ second) s.left) in
          ap is_some (home_some (without gone lives) b g.0 y.inside g.1)

  whole_at : (a b : ℕ) → (code_in p text lives).home a ≡ (code_in p text lives).home b → gone_at a ≡ gone_at b
  whole_at a b e = by_home ((code_in p text lives).home a) refl e
    where
      by_home : (o : Option ℕ) → (code_in p text lives).home a ≡ o → (code_in p text lives).home a ≡ (code_in p text lives).home b → gone_at a ≡ gone_at b
      by_home None k e =
          ap (λ (o : Option ℕ). is_some o && not (is_some ((code_in p text (without gone lives)).home a))) k
          ∙ sym (ap (λ (o : Option ℕ). is_some o && not (is_some ((code_in p text (without gone lives)).home b))) (sym e ∙ k))
      by_home (Some base) k e =
          let x = home_is a base k in
          let y = home_is b base (sym e ∙ k) in
          let left = same_test (is_some ((code_in p text (without gone lives)).home a)) (is_some ((code_in p text (without gone lives)).home b))
          (left_as a b base x y) (left_as b a base y x) in
          λ i. is_some (e i) && not (left i)

  pub gives_up : GivesUp gone_at (code_in p text lives) (code_in p text (without gone lives))
  gives_up = record {
    text = λ x. refl;
    site = λ x. refl;
    second = λ x. refl;
    lost = λ a. lost_by (in_range p.region a) (live_at lives a) (live_at (without gone lives) a) a;
    word = λ a. kept_by here_word (word_at text a) (in_range p.region a) (live_at lives a) (live_at (without gone lives) a) (goes_on a);
    point = λ a. kept_by here_point (Some (Start a)) (in_range p.region a) (live_at lives a) (live_at (without gone lives) a) (goes_on a);
    home = λ a. kept_by here_home None (in_range p.region a) (live_at lives a) (live_at (without gone lives) a) (goes_on a);
    outside = λ a e. ap (λ (o : Option ℕ). is_some o && not (is_some ((code_in p text (without gone lives)).home a))) e;
    whole = whole_at;
  }

  -- ---- whose layouts these are
  pub record Lost (a : ℕ) : Type 0 where
    pub is : Here
    pub stood : Stands lives a is
    pub lost : (Contains gone stood.place → ⊥) → ⊥

  pub lost_at : (a : ℕ) → gone_at a ≡ true → Lost a
  lost_at a e = by_home ((code_in p text lives).home a) refl e
    where
      by_home : (o : Option ℕ) → (code_in p text lives).home a ≡ o → (is_some o && not (is_some ((code_in p text (without gone lives)).home a))) ≡ true → Lost a
      by_home None k e = absurd (cc)
      by_home (Some base) k e =
          let x = home_is a base k in
          record {
            is = x.is;
            stood = x.stood;
            lost = λ n. (
                let g = still a x.is x.stood n in
                let f = ap (λ (o : Option ℕ). not (is_some o)) (home_some (without gone lives) a g.0 x.inside g.1) in
                let q = sym f ∙ e in
                absurd (cc));
          }

  pub not_lost : (a : ℕ) (h : Here) (s : Stands lives a h) → in_range p.region a ≡ true → gone_at a ≡ false → Contains gone s.place → ⊥
  not_lost a h s r e c = by_live (live_at (without gone lives) a) refl
    where
      before_home : (code_in p text lives).home a ≡ Some h.home
      before_home = home_some lives a h r (live_is lives apart a h s)

      by_live : (o : Option Here) → live_at (without gone lives) a ≡ o → ⊥
      by_live None k =
          let after_home : (code_in p text (without gone lives)).home a ≡ None = rw (r, k) refl in
          let first = ap (λ (o : Option ℕ). is_some o && not (is_some ((code_in p text (without gone lives)).home a))) before_home in
          let second = ap (λ (o : Option ℕ). not (is_some o)) after_home in
          let q = sym (first ∙ second) ∙ e in
          absurd (cc)
      by_live (Some g) k = let u = stays a g k in u.left (subst (Contains gone) (one_place lives apart a h g s u.stood) c)
