-- A world after a retirement: what its code keeps, and what it stands for.
use Rattle.std.proofs.Common.{◌≡◌, ℕ, ◌+◌, ◌-◌, ◌*◌, ◌^◌, ◌<◌, ◌≤◌, Bool, true, false, List, ◌++◌, length, get_or, refl, sym, ◌∙◌, subst, inl, inr, arith}
use Rattle.std.specs.Prelude.{◌⊎◌, nat_le, nat_lt, All, Contains, Some, Result, Ok, Err}
use Rattle.std.proofs.lemmas.Bool.{and_parts, leb-true, ltb-true}
use Rattle.std.proofs.lemmas.List.Elements.{Contains-append_left, Contains-append_right}
use Rattle.oc_base.specs.declared.fault.NoMemory.{NoMemory}
use Rattle.oc_base.specs.declared.range.Range.{Range}
use Rattle.image.specs.declared.ranges.TextRange.{TextRange}
use Rattle.image.specs.Targets.{target}
use Rattle.image.specs.Picture.{Picture, IsKept}
use Rattle.layout.specs.declared.point.Point.TheVariants.{Start}
use Rattle.layout.specs.Laid.{Laid, IsLaid}
use Rattle.layout.specs.Points.{in_range}
use Rattle.layout.specs.Rows.{GoesTo}
use Rattle.layout.proofs.TextRows.{read_same}
use Rattle.layout.specs.Alone.{InRegion, NamesCalls}
use Rattle.machine.specs.States.{State}
use Rattle.retire.specs.References.{AreUnreferenced}
use Rattle.sim_laws.specs.Codes.{GoesToWord}
use Rattle.sim_laws.specs.Changes.{GivesUp, StaysClear, LeavesCalls, LeavesPointers}
use Rattle.sim_laws.proofs.GivingUp.{renders_on, pointers_on}
use Rattle.sim_laws.proofs.Change.{kept_by_change}
use Rattle.world.specs.Worlds.{Replaced, code_in, code_of, IsSound, IsWorld, Related}
use Rattle.world.specs.Retiring.{text_aims, pcs_of, links_held, held_by, without, freed, AreSpread, IsRetired, RetiresAs, Retires, over, done, LeadsToCode}
use Rattle.world.proofs.LeftOver.{climbs, all_without, lengths_without, at_most}
use Rattle.world.proofs.Spread.{few}
use Rattle.world.proofs.OneByOne.{spread_left}
use Rattle.world.proofs.GivenUp.{gone_at, gives_up}
use Rattle.world.proofs.Held.{pointer_held}
use Rattle.world.proofs.Referring.{within_all, held_clear, leaves_calls}
use Rattle.world.proofs.Leading.{leads_to_code}

-- ---- layouts in their region
-- whole words in a region of whole pages end in it
lies_whole : (p : Picture) (l : Laid) → IsKept p → IsLaid l → 0 < length l.words → InRegion p l.base (length l.words) → (p.region.from ≤ l.base) × (l.base + 4 * length l.words ≤ p.region.to)
lies_whole p l k laid some within =
    let first = bounds l.base (subst (λ a. in_range p.region a ≡ true) (zero_more l.base) (within 0 some)) in
    let last = bounds (l.base + 4 * (length l.words - 1)) (within (length l.words - 1) (omega (arith, some))) in
    let whole = laid.whole in
    let page = k.region.pages.last in
    (first.0, omega (arith, whole, page, last.1, some))
  where
    zero_more : (b : ℕ) → b + 4 * 0 ≡ b
    zero_more b = omega arith

    bounds : (a : ℕ) → in_range p.region a ≡ true → (p.region.from ≤ a) × (a < p.region.to)
    bounds a e = let q = and_parts (nat_le p.region.from a) (nat_lt a p.region.to) e in (leb-true p.region.from a q.0, ltb-true a p.region.to q.1)

pub spread_of : (p : Picture) (text : List TextRange) (lives : List Laid) (numbers : List ℕ) (free : List Range) → IsSound p text lives numbers free → AreSpread p.region lives free
spread_of p text lives numbers free s = record {
  laid = s.placed.laid;
  some = s.some;
  within = λ i d lt. lies_whole p (get_or lives i d) s.kept (s.placed.laid i d lt) (s.some i d lt) (s.within i d lt);
  apart = s.apart;
  rises = s.rises;
  whole = s.whole;
  rest = s.rest;
}

-- ---- what the code keeps
module _ (p : Picture) (text : List TextRange) (lives : List Laid) (numbers : List ℕ) (free : List Range) (held gone : List ℕ)
    (s : IsSound p text lives numbers free) (u : AreUnreferenced lives held gone) (aims : (t : ℕ) → Contains (text_aims p text) t → Contains held t) where
  abbrev pub gone_now : ℕ → Bool
  gone_now = gone_at p text lives gone (climbs gone u.ascending) (within_all lives held gone u) s.some s.apart

  pub given_up : GivesUp gone_now (code_in p text lives) (code_in p text (without gone lives))
  given_up = gives_up p text lives gone (climbs gone u.ascending) (within_all lives held gone u) s.some s.apart

  calls_left : LeavesCalls gone_now (code_in p text lives)
  calls_left = leaves_calls p text lives gone held u s.some s.apart s.placed.calls aims

  -- what has a point afterwards isn't gone
  left_at : (a x : ℕ) → (code_in p text (without gone lives)).point a ≡ Some (Start x) → gone_now a ≡ false
  left_at a x e = by_test (gone_now a) refl
    where
      by_test : (b : Bool) → gone_now a ≡ b → gone_now a ≡ false
      by_test true t = absurd (let l = given_up.lost a t in cc)
      by_test false t = t

  goes_left : (a to : ℕ) → gone_now a ≡ false → StaysClear gone_now (code_in p text lives) a → GoesTo (code_in p text lives) a to → GoesTo (code_in p text (without gone lives)) a to
  goes_left a to n clear g = record {
    rd = g.rd;
    aim = g.aim;
    word = read_same (code_in p text (without gone lives)).word (code_in p text lives).word a (given_up.word a n) ∙ g.word;
    start = given_up.point (target a g.aim) (clear g.rd g.aim g.word) ∙ g.start;
  }

  sites_left : (a x to : ℕ) → (code_in p text (without gone lives)).point a ≡ Some (Start x) → (code_in p text lives).site x ≡ Some to
      → ((code_in p text (without gone lives)).word a ≡ (code_in p text lives).text x) ⊎ GoesTo (code_in p text (without gone lives)) a to
  sites_left a x to e f =
      let n = left_at a x e in
      let at = sym (given_up.point a n) ∙ e in
      elim (s.aims.sites a x to at f) [
        | inl same ↦ inl (given_up.word a n ∙ same)
        | inr g ↦ inr (goes_left a to n (calls_left.sites a x to n at f) g)
      ]

  seconds_left : (a x to : ℕ) → (code_in p text (without gone lives)).point a ≡ Some (Start x) → (code_in p text lives).second x ≡ Some to
      → ((code_in p text (without gone lives)).word a ≡ (code_in p text lives).text x) ⊎ GoesTo (code_in p text (without gone lives)) a to
  seconds_left a x to e f =
      let n = left_at a x e in
      let at = sym (given_up.point a n) ∙ e in
      elim (s.aims.seconds a x to at f) [
        | inl same ↦ inl (given_up.word a n ∙ same)
        | inr g ↦ inr (goes_left a to n (calls_left.seconds a x to n at f) g)
      ]

  pub sound_left : IsSound p text (without gone lives) (without gone numbers) (freed gone lives free)
  sound_left =
      let c = climbs gone u.ascending in
      let w = within_all lives held gone u in
      let spread = spread_left p.region lives free gone c w (spread_of p text lives numbers free s) in
      record {
        kept = s.kept;
        placed = record {
          text = s.placed.text;
          laid = spread.laid;
          calls = all_without (NamesCalls p) gone lives s.placed.calls;
          renders = renders_on gone_now (code_in p text lives) (code_in p text (without gone lives)) given_up calls_left s.placed.renders;
        };
        hops = all_without (λ (l : Laid). All GoesToWord l.points) gone lives s.hops;
        aims = record { sites = sites_left; seconds = seconds_left };
        some = spread.some;
        within = all_without (λ (l : Laid). InRegion p l.base (length l.words)) gone lives s.within;
        apart = spread.apart;
        numbered = sym (lengths_without gone lives numbers c w (sym s.numbered));
        rises = spread.rises;
        whole = spread.whole;
        rest = spread.rest;
      }

-- ---- a world
aims_held : (w : Replaced) (t : ℕ) → Contains (text_aims w.image w.text) t → Contains (held_by w) t
aims_held w t c = Contains-append_right (pcs_of w.machine.harts ++ links_held w.machine) (text_aims w.image w.text) t c

-- as the code has it: v, the view of the fields, is w
pub gone_sound : (w v : Replaced) (gone : List ℕ) → v ≡ w → AreUnreferenced w.lives (held_by w) gone → IsWorld v → IsSound v.image v.text (without gone v.lives) (without gone v.numbers) (freed gone v.lives v.free)
gone_sound w v gone e u s =
    sound_left v.image v.text v.lives v.numbers v.free (held_by v) gone s (subst (λ (x : Replaced). AreUnreferenced x.lives (held_by x) gone) (sym e) u) (aims_held v)

pub few_gone : (w : Replaced) (gone : List ℕ) → AreUnreferenced w.lives (held_by w) gone → IsWorld w → length gone < 2 ^ 32
few_gone w gone u s =
    let all = few w.image.region w.lives w.free (spread_of w.image w.text w.lives w.numbers w.free s) in
    let most = at_most (length w.lives) gone (climbs gone u.ascending) (within_all w.lives (held_by w) gone u) in
    omega (arith, all, most)

pub same_unreferenced : (lives ls : List Laid) (held hs gone : List ℕ) → ls ≡ lives → hs ≡ held → AreUnreferenced ls hs gone → AreUnreferenced lives held gone
same_unreferenced lives ls held hs gone e f u = subst (λ (x : List Laid). AreUnreferenced x held gone) e (subst (λ (x : List ℕ). AreUnreferenced ls x gone) f u)

pub retired_sound : (w v : Replaced) (n : ℕ) → IsRetired w v n → IsWorld w → IsWorld v
retired_sound w v n h s = subst IsWorld (sym h.is) (sound_left w.image w.text w.lives w.numbers w.free (held_by w) h.gone s h.are (aims_held w))

pub retired_related : (w v : Replaced) (n : ℕ) → IsRetired w v n → (o : State) → Related w o → Related v o
retired_related w v n h o r =
    let s = r.sound in
    let now = gone_now w.image w.text w.lives w.numbers w.free (held_by w) h.gone s h.are (aims_held w) in
    let given = given_up w.image w.text w.lives w.numbers w.free (held_by w) h.gone s h.are (aims_held w) in
    subst (λ (x : Replaced). Related x o) (sym h.is) (record {
      states = kept_by_change w.image (code_of w) (code_in w.image w.text (without h.gone w.lives)) w.machine o
          (pointers_on now (code_of w) (code_in w.image w.text (without h.gone w.lives)) given w.machine (pointers_clear w h s)) r.states;
      sound = sound_left w.image w.text w.lives w.numbers w.free (held_by w) h.gone s h.are (aims_held w);
    })
  where
    pointers_clear : (w : Replaced) (h : IsRetired w v n) (s : IsWorld w)
        → LeavesPointers (gone_now w.image w.text w.lives w.numbers w.free (held_by w) h.gone s h.are (aims_held w)) w.machine
    pointers_clear w h s a q =
        held_clear w.image w.text w.lives h.gone (held_by w) h.are s.some s.apart a
        (Contains-append_left (pcs_of w.machine.harts ++ links_held w.machine) (text_aims w.image w.text) a (pointer_held w.machine a q))

pub retires_sound : (w v : Replaced) → Retires w v → IsWorld w → IsWorld v
retires_sound w v (over b e) s = subst IsWorld (sym e) s
retires_sound w v (done n b h) s = retired_sound w v n h s

pub retires_related : (w v : Replaced) (o : State) → Retires w v → Related w o → Related v o
retires_related w v o (over b e) r = subst (λ (x : Replaced). Related x o) (sym e) r
retires_related w v o (done n b h) r = retired_related w v n h o r

-- ---- a retirement's answer
pub answer_related : (w v : Replaced) (b : Bool) (answer : Result ℕ NoMemory) → RetiresAs w b answer v → (o : State) → Related w o → Related v o
answer_related w v true (Ok n) h o r = subst (λ (x : Replaced). Related x o) (sym h.1) r
answer_related w v true (Err e) h o r = absurd h
answer_related w v false (Ok n) h o r = retired_related w v n h o r
answer_related w v false (Err e) h o r = subst (λ (x : Replaced). Related x o) (sym h) r

pub related_leads : (v : Replaced) (o : State) → Related v o → LeadsToCode (code_of v) v.machine
related_leads v o r = leads_to_code (code_of v) v.image v.machine o r.states r.sound.placed.renders
