-- The tests of a layout's words and lists tell exactly whether it renders its image.
use Rattle.std.proofs.Common.{◌≡◌, ◌≢◌, ℕ, ◌+◌, ◌-◌, ◌*◌, ◌==◌, ◌≤◌, ◌<◌, Bool, true, false, not, List, length, get_or, refl, sym, ◌∙◌, ap, subst, arith}
use Rattle.std.specs.Prelude.{Option, Some, None, ◌&&◌, nat_le, is_some, IsSome, position}
use Rattle.std.specs.List.{All, Contains}
use Rattle.std.proofs.lemmas.Bool.{eqb-true, eq-eqb, leb-true, le-leb, and_parts, and_from, false≢true}
use Rattle.std.proofs.lemmas.Option.{slice_get-get_or, slice_get_within}
use Rattle.std.proofs.lemmas.List.Elements.{All-contains, Contains-get_or}
use Rattle.std.proofs.lemmas.List.Folds.{list_any_at}
use Rattle.std.proofs.lemmas.List.Quantifiers.{position-Some}
use Rattle.finite.proofs.Finding.{any_position}
use Rattle.rv_isa.specs.Decoded.{decoded}
use Rattle.rv_isa.specs.declared.instr.Instr.{Instr}
use Rattle.rv_isa.specs.declared.instr.Instr.TheVariants as instr
use Rattle.image.specs.declared.ranges.Aim.{Aim}
use Rattle.image.specs.Aims.{aim_place}
use Rattle.image.specs.Targets.{target}
use Rattle.image.specs.Texts.{word_at}
use Rattle.image.specs.Picture.{Picture, IsKept}
use Rattle.layout.specs.declared.point.Point.{Point}
use Rattle.layout.specs.declared.point.Point.TheVariants.{Start, Hop, Mid}
use Rattle.layout.specs.Laid.{Laid, IsLaid, item_at, point_in}
use Rattle.layout.specs.Points.{in_range, read, site_of, second_of}
use Rattle.layout.specs.Rows.{MovedRow, StartRow, HopRow, MidRow, Renders}
use Rattle.layout.specs.Alone.{InRegion, called_at, AreCallsOf, NamesCalls, RendersAlone}
use Rattle.layout.specs.Tests.{is_number, starts_as, starts, start_by, start_over, start_test, hop_by, hop_test, makes_address, mid_test, point_test, listed, word_test, site_test, pair_test}
use Rattle.layout.proofs.TextWords.{text_outside}
use Rattle.layout.proofs.TextRows.{read_is, read_same, read_back, text_row}
use Rattle.layout.proofs.Places.{item_here, item_place}
use Rattle.layout.proofs.Plain.{plain, plain_outside, plain_word, alone_plain, here_within, here_point_is, here_home_is, here_word_is, near_all, point_back, point_outside, home_back}
use Rattle.layout.proofs.Sound.{starts_sound, as_start, row_sound}
use Rattle.layout.proofs.Full.{starts_full, moved_of, row_full}

-- ---- lists of calls
as_number : (o : Option ℕ) (n : ℕ) → is_number o n ≡ true → o ≡ Some n
as_number None n e = absurd (cc)
as_number (Some m) n e = ap Some (eqb-true m n e)

is_listed : (o : Option ℕ) (list : List Aim) (a g : ℕ) → o ≡ Some g → listed o list a ≡ true → is_some (position (λ s. aim_place s == a) list) ≡ true
is_listed None list a g e h = absurd (cc)
is_listed (Some m) list a g e h = h

pub calls_sound : (calls : ℕ → Option ℕ) (l : Laid) (list : List Aim)
    → All (λ s. is_number (called_at calls (point_in l s.at)) s.func ≡ true) list
    → ((a : ℕ) (q : Point) → point_in l a ≡ Some q → listed (called_at calls (point_in l a)) list a ≡ true)
    → AreCallsOf calls l list
calls_sound calls l list each all a g = (there, λ c. as_number _ g (All-contains (λ s. is_number (called_at calls (point_in l s.at)) s.func ≡ true) list _ each c))
  where
    d : Aim
    d = record { at = 0; func = 0 }

    by_place : (o : Option ℕ) → position (λ s. aim_place s == a) list ≡ o → is_some o ≡ true → called_at calls (point_in l a) ≡ Some g → Contains list (record { at = a; func = g })
    by_place None e h c = absurd (cc)
    by_place (Some i) e h c =
        let f = position-Some (λ s. aim_place s == a) list i d e in
        let at = eqb-true (get_or list i d).at a f.1 in
        let k = as_number (called_at calls (point_in l (get_or list i d).at)) (get_or list i d).func (each i d f.0) in
        let n : Some (get_or list i d).func ≡ Some g = sym k ∙ ap (λ n. called_at calls (point_in l n)) at ∙ c in
        let func : (get_or list i d).func ≡ g = cc in
        subst (Contains list) (λ j. record { at = at j; func = func j }) (Contains-get_or list i d f.0)

    by_point : (q : Option Point) → point_in l a ≡ q → called_at calls (point_in l a) ≡ Some g → Contains list (record { at = a; func = g })
    by_point None e c = let f = rw e at c in absurd (cc)
    by_point (Some q) e c = by_place (position (λ s. aim_place s == a) list) refl (is_listed (called_at calls (point_in l a)) list a g c (all a q e)) c

    there : called_at calls (point_in l a) ≡ Some g → Contains list (record { at = a; func = g })
    there c = by_point (point_in l a) refl c

pub calls_each : (calls : ℕ → Option ℕ) (l : Laid) (list : List Aim) → AreCallsOf calls l list → All (λ s. is_number (called_at calls (point_in l s.at)) s.func ≡ true) list
calls_each calls l list c i d lt = rw ((c (get_or list i d).at (get_or list i d).func).1 (Contains-get_or list i d lt)) (eq-eqb (get_or list i d).func _ refl)

pub calls_listed : (calls : ℕ → Option ℕ) (l : Laid) (list : List Aim) → AreCallsOf calls l list → (a : ℕ) → listed (called_at calls (point_in l a)) list a ≡ true
calls_listed calls l list c a = by_call (called_at calls (point_in l a)) refl
  where
    by_call : (o : Option ℕ) → called_at calls (point_in l a) ≡ o → listed o list a ≡ true
    by_call None e = refl
    by_call (Some g) e =
        let k = (c a g).0 e in
        any_position (λ s. aim_place s == a) list (position (λ s. aim_place s == a) list) refl
        ∙ list_any_at (λ s. aim_place s == a) list k.0 (record { at = a; func = g }) k.1 (rw k.2 (eq-eqb a a refl))

-- ---- words
as_address : (j : Option Instr) → makes_address j ≡ true → (rd : ℕ) × (imm : ℕ) × (j ≡ Some (instr.Auipc rd imm)) × (rd ≢ 0)
as_address (Some (instr.Auipc rd imm)) e = (rd, imm, refl, λ z. absurd (let k = rw z at e in cc))
as_address _ e = absurd (cc)

module _ (p : Picture) (l : Laid) (is_kept : IsKept p) (laid : IsLaid l) (within : InRegion p l.base (length l.words)) where
  -- a word of the layout stands at no word of text
  apart : (a x w : ℕ) (q : Point) → point_in l a ≡ Some q → word_at p.texts x ≡ Some w → a ≢ x
  apart a x w q e t s =
      let f = here_within p l laid within a q e in
      let g = text_outside p is_kept x w t x (omega arith) (omega arith) in
      false≢true (sym g ∙ ap (in_range p.region) (sym s) ∙ f)

  -- there is a word with each point
  word_there : (a : ℕ) (q : Point) → point_in l a ≡ Some q → (v : ℕ) × (item_at l.base l.words a ≡ Some v)
  word_there a q e =
      let t = item_place l.base l.points a q e in
      let lt = slice_get_within l.points t.0 q t.2 in
      let same = laid.each in
      (_, ap (item_at l.base l.words) t.1 ∙ item_here l.base l.words t.0 ∙ slice_get-get_or l.words t.0 0 (omega (arith, same, lt)))

  start_case : (a x : ℕ) → point_in l a ≡ Some (Start x) → start_test p l a x ≡ true → StartRow (plain p l) a x × IsSome (read (word_at p.texts) x)
  unfolding start_test start_over start_by
  start_case a x e h = by_word (word_at p.texts x) refl h
    where
      by_reads : (w : ℕ) (i : Option Instr) (v : Option ℕ) → word_at p.texts x ≡ Some w → decoded w ≡ i → item_at l.base l.words a ≡ v → start_by p l a x w i v ≡ true
          → StartRow (plain p l) a x × IsSome (read (word_at p.texts) x)
      by_reads w None v t d m h = absurd (cc)
      by_reads w (Some i) None t d m h = absurd (cc)
      by_reads w (Some i) (Some v) t d m h =
          (row_sound p l laid within a (Start x) e x w v t (here_word_is p l laid within a (Start x) e ∙ m) i d h, ap is_some (read_is (word_at p.texts) x w (Some i) t d))

      by_word : (o : Option ℕ) → word_at p.texts x ≡ o → start_over p l a x o ≡ true → StartRow (plain p l) a x × IsSome (read (word_at p.texts) x)
      by_word None t h = absurd (cc)
      by_word (Some w) t h = by_reads w (decoded w) (item_at l.base l.words a) t refl refl h

  hop_case : (a x : ℕ) → point_in l a ≡ Some (Hop x) → hop_test p l a x ≡ true → HopRow (plain p l) a x
  unfolding hop_test hop_by
  hop_case a x e h = by_read (read (item_at l.base l.words) a) (read_same (plain p l).word (item_at l.base l.words) a (here_word_is p l laid within a (Hop x) e)) h
    where
      by_read : (j : Option Instr) → read (plain p l).word a ≡ j → hop_by p l a x j ≡ true → HopRow (plain p l) a x
      by_read (Some (instr.Jal r aim)) k h =
          let f = and_parts (r == 0) (starts p l (target a aim) x) h in
          record {
            aim = aim;
            word = k ∙ ap (λ n. Some (instr.Jal n aim)) (eqb-true r 0 f.0);
            start = starts_sound p l (target a aim) x f.1;
            near = near_all p l laid within a (Hop x) e (target a aim);
          }
      by_read _ k h = absurd (cc)

  -- a Start of an AUIPC whose register isn't x0 is made in two words
  moved_at : (a x rd imm : ℕ) → point_in l a ≡ Some (Start x) → read (word_at p.texts) x ≡ Some (instr.Auipc rd imm) → rd ≢ 0 → StartRow (plain p l) a x → (high : ℕ) × MovedRow (plain p l) a x rd high
  moved_at a x rd imm e t n r =
      let w = read_back (word_at p.texts) x (instr.Auipc rd imm) t in
      let v = word_there a (Start x) e in
      moved_of p l is_kept laid within a (Start x) e x w.0 v.0 (apart a x w.0 (Start x) e w.1) w.1 (here_word_is p l laid within a (Start x) e ∙ v.1) rd imm w.2 n r

  mid_case : (m x : ℕ) → mid_test p l m x ≡ true → ((x : ℕ) → point_in l (m - 4) ≡ Some (Start x) → StartRow (plain p l) (m - 4) x) → MidRow (plain p l) m x
  unfolding mid_test
  mid_case m x h start =
      let f = and_parts (nat_le 4 m && starts_as (point_in l (m - 4)) x) (makes_address (read (word_at p.texts) x)) h in
      let g = and_parts (nat_le 4 m) (starts_as (point_in l (m - 4)) x) f.0 in
      let le = leb-true 4 m g.0 in
      let e = as_start p l (point_in l (m - 4)) x g.1 in
      let t = as_address (read (word_at p.texts) x) f.1 in
      let r = moved_at (m - 4) x t.0 t.1 e t.2 t.3 (start x e) in
      record {
        first = m - 4;
        rd = t.0;
        high = r.0;
        after = omega arith;
        start = here_point_is p l laid within (m - 4) (Start x) e;
        moved = r.1;
      }

  module _ (words : (k : ℕ) → k < length l.words → word_test p l (l.base + 4 * k) ≡ true) where
    word_passes : (a : ℕ) (q : Point) → point_in l a ≡ Some q
        → (point_test p l a (Some q) ≡ true) × (listed (called_at (site_of p) (point_in l a)) l.sites a ≡ true) × (listed (called_at (second_of p) (point_in l a)) l.pairs a ≡ true)
    unfolding word_test
    word_passes a q e =
        let t = item_place l.base l.points a q e in
        let lt = slice_get_within l.points t.0 q t.2 in
        let same = laid.each in
        let h : word_test p l a ≡ true = rw t.1 (words t.0 (omega (arith, same, lt))) in
        let f = and_parts (point_test p l a (point_in l a) && listed (called_at (site_of p) (point_in l a)) l.sites a) (listed (called_at (second_of p) (point_in l a)) l.pairs a) h in
        let g = and_parts (point_test p l a (point_in l a)) (listed (called_at (site_of p) (point_in l a)) l.sites a) f.0 in
        (sym (ap (point_test p l a) e) ∙ g.0, g.1, f.1)

    start_passes : (a x : ℕ) → point_in l a ≡ Some (Start x) → StartRow (plain p l) a x × IsSome (read (word_at p.texts) x)
    unfolding point_test
    start_passes a x e = start_case a x e (word_passes a (Start x) e).0

    by_region : {A : Type 0} (a : ℕ) (q : Point) → (plain p l).point a ≡ Some q → (point_in l a ≡ Some q → A) → (in_range p.region a ≡ false → q ≡ Start a → A) → A
    by_region {A = A} a q e inside outside = by_test (in_range p.region a) refl
      where
        by_test : (b : Bool) → in_range p.region a ≡ b → A
        by_test true r = inside (point_back p l a q r e)
        by_test false r = outside r (point_outside p l a q r e)

    starts_sound_all : (a x : ℕ) → (plain p l).point a ≡ Some (Start x) → StartRow (plain p l) a x
    starts_sound_all a x e = by_region a (Start x) e (λ k. (start_passes a x k).0) (λ r k. let same : a ≡ x = cc in subst (λ (n : ℕ). StartRow (plain p l) a n) same (text_row p is_kept (plain p l) (plain_outside p l) a (plain_word p l a r)))

    hops_sound : (a x : ℕ) → (plain p l).point a ≡ Some (Hop x) → HopRow (plain p l) a x
    unfolding point_test
    hops_sound a x e = by_region a (Hop x) e (λ k. hop_case a x k (word_passes a (Hop x) k).0) (λ r k. absurd (cc))

    mids_sound : (a x : ℕ) → (plain p l).point a ≡ Some (Mid x) → MidRow (plain p l) a x
    unfolding point_test
    mids_sound a x e = by_region a (Mid x) e (λ k. mid_case a x (word_passes a (Mid x) k).0 (λ y h. (start_passes (a - 4) y h).0)) (λ r k. absurd (cc))

    plain_renders : Renders (plain p l)
    plain_renders = record {
      starts = starts_sound_all;
      hops = hops_sound;
      mids = mids_sound;
      reads = λ a x h e. (start_passes a x (point_back p l a (Start x) (home_back p l a h) e)).1;
    }

    pub sound : All (λ s. site_test p l s ≡ true) l.sites → All (λ s. pair_test p l s ≡ true) l.pairs → RendersAlone p l
    unfolding site_test pair_test
    sound sites pairs = record {
      within = within;
      renders = subst Renders (sym (alone_plain p l laid)) plain_renders;
      calls = record {
        sites = calls_sound (site_of p) l l.sites sites (λ a q e. (word_passes a q e).1);
        pairs = calls_sound (second_of p) l l.pairs pairs (λ a q e. (word_passes a q e).2);
      };
    }

  -- ---- and back
  start_full : (a x : ℕ) → point_in l a ≡ Some (Start x) → IsSome (read (word_at p.texts) x) → StartRow (plain p l) a x → start_test p l a x ≡ true
  unfolding start_test start_over start_by
  start_full a x e s r = by_read (read (word_at p.texts) x) refl s
    where
      by_read : (i : Option Instr) → read (word_at p.texts) x ≡ i → is_some i ≡ true → start_over p l a x (word_at p.texts x) ≡ true
      by_read None k h = absurd (cc)
      by_read (Some i) k h =
          let w = read_back (word_at p.texts) x i k in
          let v = word_there a (Start x) e in
          rw (w.1, w.2, v.1) (row_full p l is_kept laid within a (Start x) e x w.0 v.0 (apart a x w.0 (Start x) e w.1) w.1 (here_word_is p l laid within a (Start x) e ∙ v.1) i w.2 r)

  hop_full : (a x : ℕ) → point_in l a ≡ Some (Hop x) → HopRow (plain p l) a x → hop_test p l a x ≡ true
  unfolding hop_test hop_by
  hop_full a x e r =
      rw (sym (read_same (plain p l).word (item_at l.base l.words) a (here_word_is p l laid within a (Hop x) e)) ∙ r.word) (starts_full p l (target a r.aim) x r.start)

  mid_full : (m x : ℕ) → point_in l m ≡ Some (Mid x) → MidRow (plain p l) m x → mid_test p l m x ≡ true
  unfolding mid_test
  mid_full m x e r =
      let le : 4 ≤ m = (let t = r.after in omega (arith, t)) in
      let first : m - 4 ≡ r.first = (let t = r.after in omega (arith, t)) in
      let home : IsSome ((plain p l).home r.first) = ap is_some (sym r.moved.home ∙ ap (plain p l).home (sym r.after) ∙ here_home_is p l laid within m (Mid x) e) in
      let at : point_in l (m - 4) ≡ Some (Start x) = rw first (point_back p l r.first (Start x) (home_back p l r.first home) r.start) in
      and_from (nat_le 4 m && starts_as (point_in l (m - 4)) x) (makes_address (read (word_at p.texts) x))
      (and_from (nat_le 4 m) (starts_as (point_in l (m - 4)) x) (le-leb 4 m le) (rw at (eq-eqb x x refl))) (rw r.moved.text (written r.rd r.moved.is_written))
    where
      written : (rd : ℕ) → rd ≢ 0 → not (rd == 0) ≡ true
      written rd n = by_test (rd == 0) refl
        where
          by_test : (b : Bool) → rd == 0 ≡ b → not b ≡ true
          by_test true e = absurd (n (eqb-true rd 0 e))
          by_test false e = refl

  module _ (r : Renders (plain p l)) (calls : NamesCalls p l) where
    point_full : (a : ℕ) (q : Point) → point_in l a ≡ Some q → point_test p l a (Some q) ≡ true
    unfolding point_test
    point_full a (Start x) e =
        let at = here_point_is p l laid within a (Start x) e in
        start_full a x e (r.reads a x (ap is_some (here_home_is p l laid within a (Start x) e)) at) (r.starts a x at)
    point_full a (Hop x) e = hop_full a x e (r.hops a x (here_point_is p l laid within a (Hop x) e))
    point_full a (Mid x) e = mid_full a x e (r.mids a x (here_point_is p l laid within a (Mid x) e))

    by_point : (a : ℕ) (o : Option Point) → point_in l a ≡ o → point_test p l a o ≡ true
    unfolding point_test
    by_point a None e = refl
    by_point a (Some q) e = point_full a q e

    words_full : (k : ℕ) → k < length l.words → word_test p l (l.base + 4 * k) ≡ true
    unfolding word_test
    words_full k lt =
        let a : ℕ = l.base + 4 * k in
        and_from (point_test p l a (point_in l a) && listed (called_at (site_of p) (point_in l a)) l.sites a) (listed (called_at (second_of p) (point_in l a)) l.pairs a)
        (and_from (point_test p l a (point_in l a)) (listed (called_at (site_of p) (point_in l a)) l.sites a) (by_point a (point_in l a) refl) (calls_listed (site_of p) l l.sites calls.sites a))
        (calls_listed (second_of p) l l.pairs calls.pairs a)

-- what renders passes each test
pub full_words : (p : Picture) (l : Laid) → IsKept p → IsLaid l → RendersAlone p l → (k : ℕ) → k < length l.words → word_test p l (l.base + 4 * k) ≡ true
full_words p l is_kept laid r = words_full p l is_kept laid r.within (subst Renders (alone_plain p l laid) r.renders) r.calls

pub full_sites : (p : Picture) (l : Laid) → RendersAlone p l → All (λ s. site_test p l s ≡ true) l.sites
unfolding site_test
full_sites p l r = calls_each (site_of p) l l.sites r.calls.sites

pub full_pairs : (p : Picture) (l : Laid) → RendersAlone p l → All (λ s. pair_test p l s ≡ true) l.pairs
unfolding pair_test
full_pairs p l r = calls_each (second_of p) l l.pairs r.calls.pairs
