-- What nothing refers to is no live code pointer's and no call's, so what is left renders the image.
use Rattle.std.proofs.Common.{◌≡◌, ℕ, ◌+◌, ◌<◌, Bool, true, false, List, ◌++◌, length, get_or, refl, sym, ap, ◌∙◌, subst, arith}
use Rattle.std.specs.Prelude.{ℤ, All, AllPairs, Contains, Option, Some, None, slice_get, if◌then◌else◌}
use Rattle.std.specs.List.{filter_map, Any}
use Rattle.std.specs.Option.{option_map}
use Rattle.std.proofs.lemmas.List.Elements.{Contains-append_left, Contains-append_right, Contains-get_or}
use Rattle.std.proofs.lemmas.Option.{slice_get_within, get_or_from_slice_get, slice_get_read}
use Rattle.rv_isa.specs.declared.instr.Instr.{Instr}
use Rattle.rv_isa.specs.declared.instr.Instr.TheVariants.{Jal}
use Rattle.image.specs.declared.ranges.TextRange.{TextRange}
use Rattle.image.specs.declared.ranges.Aim.{Aim}
use Rattle.image.specs.Targets.{target}
use Rattle.image.specs.Texts.{word_at}
use Rattle.image.specs.Picture.{Picture}
use Rattle.layout.specs.declared.point.Point.TheVariants.{Start}
use Rattle.layout.specs.Laid.{Laid, item_at}
use Rattle.layout.specs.Apart.{LieApart, LiesIn}
use Rattle.layout.specs.Points.{Here, here_point, live_at, in_range, read, site_of, second_of, start_of}
use Rattle.layout.specs.Alone.{NamesCalls, called_at}
use Rattle.layout.proofs.CallWords.{bound, site_listed, second_listed}
use Rattle.layout.proofs.TextRows.{read_same}
use Rattle.patcher.proofs.Joined.{here_back}
use Rattle.retire.specs.References.{PointInto, jump_of, aim_of, aims_of, CallsInto, Refers, by_pointer, by_call, AreUnreferenced}
use Rattle.layout.proofs.Apart.{from_there}
use Rattle.sim_laws.specs.Changes.{StaysClear, LeavesCalls}
use Rattle.world.specs.Worlds.{code_in}
use Rattle.world.specs.Retiring.{text_aim, text_aims}
use Rattle.world.proofs.LeftOver.{climbs}
use Rattle.world.proofs.GivenUp.{Stands, stands, lies_in, gone_at, Lost, lost_at, not_lost}
use Rattle.world.proofs.Held.{in_chosen}

-- ---- small things
any_of : {X : Type 0} (P : X → Type 0) (xs : List X) (x : X) → Contains xs x → P x → Any P xs
any_of P xs x c p = (c.0, x, c.1, c.2, p)

place_of : {X : Type 0} (xs : List X) (x : X) → Contains xs x → (k : ℕ) × (slice_get xs k ≡ Some x)
place_of xs x c = (c.0, slice_get_read xs (length xs) c.0 x refl c.1 (sym c.2))

jump_is : (a rd : ℕ) (off : ℤ) (o : Option Instr) → o ≡ Some (Jal rd off) → jump_of a o ≡ Some (target a off)
jump_is a rd off o e = rw e refl

pub within_all : (lives : List Laid) (held gone : List ℕ) → AreUnreferenced lives held gone → All (λ k. k < length lives) gone
within_all lives held gone u i d lt = ((u.exact (get_or gone i d)).0 (Contains-get_or gone i d lt)).0

-- ---- layouts that nothing refers to
module _ (p : Picture) (text : List TextRange) (lives : List Laid) (gone : List ℕ) (held : List ℕ) (u : AreUnreferenced lives held gone)
    (some : All (λ (l : Laid). 0 < length l.words) lives) (apart : AllPairs LieApart lives) where
  abbrev pub gone_from : ℕ → Bool
  gone_from = gone_at p text lives gone (climbs gone u.ascending) (within_all lives held gone u) some apart

  -- to what is referred isn't given up
  not_gone : (k : ℕ) → Refers lives held k → Contains gone k → ⊥
  not_gone k r c = ((u.exact k).0 c).1 r

  by_bool : (b c : Bool) → b ≡ c → (b ≡ true → ⊥) → b ≡ false
  by_bool b true e f = absurd (f e)
  by_bool b false e f = e

  pub held_clear : (a : ℕ) → Contains held a → gone_from a ≡ false
  held_clear a c = by_bool (gone_from a) (gone_from a) refl is_not
    where
      is_not : gone_from a ≡ true → ⊥
      is_not e =
          let l = lost_at p text lives gone (climbs gone u.ascending) (within_all lives held gone u) some apart a e in
          let s = l.stood in
          l.lost (not_gone s.place (by_pointer s.place (any_of (λ x. LiesIn lives x s.place) held a c (lies_in lives a l.is s))))

  -- a call of a layout that is left
  inside_clear : (a t : ℕ) (h : Here) (s : Stands lives a h) → in_range p.region a ≡ true → gone_from a ≡ false → Contains (aims_of s.layout) t → gone_from t ≡ false
  inside_clear a t h s r e c = by_bool (gone_from t) (gone_from t) refl is_not
    where
      left : Contains gone s.place → ⊥
      left = not_lost p text lives gone (climbs gone u.ascending) (within_all lives held gone u) some apart a h s r e

      is_not : gone_from t ≡ true → ⊥
      is_not g = by_same
        where
          l : Lost p text lives gone (climbs gone u.ascending) (within_all lives held gone u) some apart t
          l = lost_at p text lives gone (climbs gone u.ascending) (within_all lives held gone u) some apart t g

          itself : s.place ≡ l.stood.place → ⊥
          itself same = l.lost (subst (λ k. Contains gone k → ⊥) same left)

          calls : CallsInto lives s.place l.stood.place
          calls =
              from_there lives s.place (λ m. PointInto lives (aims_of m) l.stood.place) s.layout s.at
              (any_of (λ x. LiesIn lives x l.stood.place) (aims_of s.layout) t c (lies_in lives t l.is l.stood))

          unreferred : Refers lives held s.place → ⊥
          unreferred f = l.lost (not_gone l.stood.place (by_call s.place l.stood.place itself f calls))

          by_same : ⊥
          by_same = left ((u.exact s.place).1 (slice_get_within lives s.place s.layout s.at, unreferred))

  module _ (calls : All (NamesCalls p) lives) where
    names : (a : ℕ) (h : Here) (s : Stands lives a h) → NamesCalls p s.layout
    names a h s = subst (NamesCalls p) (get_or_from_slice_get lives s.place s.layout s.layout s.at) (calls s.place s.layout (slice_get_within lives s.place s.layout s.at))

    -- a call is one of text, or one of a layout
    data CallCase (a x : ℕ) : Type 0 where
      in_text : in_range p.region a ≡ false → x ≡ a → CallCase a x
      in_layout : (h : Here) (s : Stands lives a h) → in_range p.region a ≡ true → live_at lives a ≡ Some h → h.point ≡ Start x → CallCase a x

    call_case : (a x : ℕ) → (code_in p text lives).point a ≡ Some (Start x) → CallCase a x
    call_case a x e = by_test (in_range p.region a) refl (live_at lives a) refl e
      where
        by_test : (r : Bool) → in_range p.region a ≡ r → (o : Option Here) → live_at lives a ≡ o → (if r then option_map here_point o else Some (Start a)) ≡ Some (Start x) → CallCase a x
        by_test false r o k f = in_text r (let same : Start a ≡ Start x = cc in cc)
        by_test true r None k f = absurd (cc)
        by_test true r (Some h) k f = in_layout h (stands lives a h k) r k (cc)

    word_there : (a : ℕ) (h : Here) (s : Stands lives a h) → in_range p.region a ≡ true → live_at lives a ≡ Some h → (code_in p text lives).word a ≡ item_at s.layout.base s.layout.words a
    word_there a h s r k = rw (r, k) (sym (here_back s.layout a h s.here).0)

    word_in_text : (a : ℕ) → in_range p.region a ≡ false → (code_in p text lives).word a ≡ word_at text a
    word_in_text a r = rw r refl

    -- the aim of a call of a layout
    aim_there : (a g rd : ℕ) (off : ℤ) (h : Here) (s : Stands lives a h) → in_range p.region a ≡ true → live_at lives a ≡ Some h → read (code_in p text lives).word a ≡ Some (Jal rd off)
        → Contains (s.layout.sites ++ s.layout.pairs) (record { at = a; func = g }) → Contains (aims_of s.layout) (target a off)
    aim_there a g rd off h s r k e c =
        let q = place_of (s.layout.sites ++ s.layout.pairs) (record { at = a; func = g }) c in
        in_chosen (aim_of s.layout) (s.layout.sites ++ s.layout.pairs) q.0 (record { at = a; func = g }) (target a off) q.1
        (jump_is a rd off (read (item_at s.layout.base s.layout.words) a)
        (sym (read_same (code_in p text lives).word (item_at s.layout.base s.layout.words) a (word_there a h s r k)) ∙ e))

    -- the aim of one of text
    aim_here : (a at past rd : ℕ) (off : ℤ) (list : List Aim) (s : Aim) → in_range p.region a ≡ false → read (code_in p text lives).word a ≡ Some (Jal rd off)
        → Contains list s → s.at + past ≡ a → Contains (filter_map (text_aim text past) list) (target a off)
    aim_here a at past rd off list s r e c is =
        let q = place_of list s c in
        let word = sym (read_same (code_in p text lives).word (word_at text) a (word_in_text a r)) ∙ e in
        in_chosen (text_aim text past) list q.0 s (target a off) q.1
        (ap (λ b. jump_of b (read (word_at text) b)) is ∙ jump_is a rd off (read (word_at text) a) word)

    module _ (aims : (t : ℕ) → Contains (text_aims p text) t → Contains held t) where
      site_clear : (a x to : ℕ) → gone_from a ≡ false → (code_in p text lives).point a ≡ Some (Start x) → (code_in p text lives).site x ≡ Some to
          → StaysClear gone_from (code_in p text lives) a
      site_clear a x to e at f rd off w = by_case (call_case a x at)
        where
          g : (n : ℕ) × (site_of p x ≡ Some n) × (start_of p n ≡ Some to)
          g = bound (site_of p x) (start_of p) to f

          by_case : CallCase a x → gone_from (target a off) ≡ false
          by_case (in_text r same) =
              let s = site_listed p x g.0 g.1 in
              let is = s.2 in
              held_clear (target a off)
              (aims (target a off) (Contains-append_left (filter_map (text_aim text 0) p.sites) (filter_map (text_aim text 4) p.pairs) (target a off)
              (aim_here a a 0 rd off p.sites s.0 r w s.1 (omega (arith, is, same)))))
          by_case (in_layout h s r k is) =
              let named = ((names a h s).sites a g.0).0
              (ap (called_at (site_of p)) ((here_back s.layout a h s.here).1 ∙ ap Some is) ∙ g.1) in
              inside_clear a (target a off) h s r e
              (aim_there a g.0 rd off h s r k w (Contains-append_left s.layout.sites s.layout.pairs (record { at = a; func = g.0 }) named))

      second_clear : (a x to : ℕ) → gone_from a ≡ false → (code_in p text lives).point a ≡ Some (Start x) → (code_in p text lives).second x ≡ Some to
          → StaysClear gone_from (code_in p text lives) a
      second_clear a x to e at f rd off w = by_case (call_case a x at)
        where
          g : (n : ℕ) × (second_of p x ≡ Some n) × (start_of p n ≡ Some to)
          g = bound (second_of p x) (start_of p) to f

          by_case : CallCase a x → gone_from (target a off) ≡ false
          by_case (in_text r same) =
              let s = second_listed p x g.0 g.1 in
              let is = s.2 in
              held_clear (target a off)
              (aims (target a off) (Contains-append_right (filter_map (text_aim text 0) p.sites) (filter_map (text_aim text 4) p.pairs) (target a off)
              (aim_here a a 4 rd off p.pairs s.0 r w s.1 (omega (arith, is, same)))))
          by_case (in_layout h s r k is) =
              let named = ((names a h s).pairs a g.0).0
              (ap (called_at (second_of p)) ((here_back s.layout a h s.here).1 ∙ ap Some is) ∙ g.1) in
              inside_clear a (target a off) h s r e
              (aim_there a g.0 rd off h s r k w (Contains-append_right s.layout.sites s.layout.pairs (record { at = a; func = g.0 }) named))

      pub leaves_calls : LeavesCalls gone_from (code_in p text lives)
      leaves_calls = record { sites = site_clear; seconds = second_clear }
