-- Before the first step the machine stands for itself, and text without layouts renders itself.
use Rattle.std.proofs.Common.{◌≡◌, ℕ, zero, suc, ◌+◌, ◌-◌, ◌*◌, ◌/◌, ◌%◌, ◌<◌, ◌≤◌, ◌==◌, Bool, true, false, cond, List, [], ◌∷◌, get_or, drop, replicate, refl, sym, ap, ◌∙◌, subst, arith}
use Rattle.std.specs.Prelude.{Option, Some, None, nat_le, IsSome, is_some, find, slice_get, slice_set, AllPairs, option_and_then, if◌then◌else◌}
use Rattle.std.specs.Option.{option_map}
use Rattle.std.proofs.lemmas.Bool.{eqb-true, leb-true, and_parts, false≢true}
use Rattle.std.proofs.lemmas.Bool.Decides.{nat_tests}
use Rattle.std.proofs.lemmas.List.{length-set, get_or-drop}
use Rattle.std.proofs.lemmas.List.Elements.{All-contains}
use Rattle.std.proofs.lemmas.Option.{option_and_then_some}
use Rattle.byteorder.specs.Endian.{little_number}
use Rattle.finite.specs.Maps.{contains}
use Rattle.finite.proofs.Searching.{tail_pairs}
use Rattle.finite.proofs.Finding.{any_find}
use Rattle.image.specs.declared.ranges.Part.{Part}
use Rattle.image.specs.declared.ranges.Aim.{Aim}
use Rattle.image.specs.Texts.{word_at}
use Rattle.image.specs.Aims.{func_from, holds, covers_part, stored_in, stored_at, slot_at}
use Rattle.image.specs.Picture.{Picture, IsPart, IsKept}
use Rattle.link_tags.specs.declared.value.Tag.TheVariants.{Plain}
use Rattle.link_tags.specs.declared.value.Value.{Value}
use Rattle.link_tags.specs.Values.{plain}
use Rattle.guest_mem.specs.Memory.{byte_at, number_of, bytes_from, number_at}
use Rattle.guest_mem.proofs.Reading.{same_number, get_or-bytes_from}
use Rattle.hart.specs.Harts.{reg}
use Rattle.layout.specs.declared.point.Point.{Point}
use Rattle.layout.specs.declared.point.Point.TheVariants.{Start, Hop, Mid}
use Rattle.layout.specs.Points.{Code, at_start, in_range, code_of, live_at}
use Rattle.layout.specs.Rows.{StartRow, Renders}
use Rattle.layout.proofs.TextWords.{found, text_high, text_whole, text_outside}
use Rattle.layout.proofs.TextRows.{IsOutside, text_row}
use Rattle.machine.specs.Stack.{stack_start, stack_pointer}
use Rattle.machine.specs.Start.{start_memory, start_hart, start_of}
use Rattle.machine.specs.Loaded.{is_stack}
use Rattle.machine.proofs.LoadedStack.{loaded}
use Rattle.sim_laws.specs.Codes.{IsCodeOf, AreLive}
use Rattle.sim_laws.specs.Related.{Both, neither, found as both_found, Lands, both_plain, RegsRelated, MemoriesRelated, HartsRelated, StatesRelated}
use Rattle.sim_laws.proofs.ImageFacts.{entry_word, entry_unpaired, start_unpaired, start_whole, start_covered}
use Rattle.sim_laws.proofs.CodeFacts.{code_is}
use Rattle.sim_laws.proofs.GoingOn.{covered_fits, covered_outside, lands_alike}
use Rattle.sim_laws.proofs.Woken.{none_waits}

-- ---- stored numbers
little_is : (xs : List ℕ) → little_number 8 xs ≡ number_of xs
unfolding number_of
little_is xs = omega arith

-- a part that holds 8 bytes is the first that covers each of them
covering : (ps : List Part) (a b : ℕ) (q : Part) → AllPairs (λ s t. s.range.to ≤ t.range.from) ps → find (holds a 8) ps ≡ Some q → a ≤ b → b < a + 8 → find (covers_part b) ps ≡ Some q
covering [] a b q up f low high = absurd (cc)
covering (s ∷ ps) a b q up f low high = by_test (holds a 8 s) refl f (λ g. covering ps a b q (tail_pairs (λ s t. s.range.to ≤ t.range.from) s ps up) g low high)
  where
    before : find (holds a 8) ps ≡ Some q → covers_part b s ≡ false
    before g =
        let h = found (holds a 8) ps q g in
        let in_list = h.0 in
        let rise : s.range.to ≤ (get_or ps in_list.0 q).range.from = up 0 (suc in_list.0) q (omega arith) (let lt = in_list.1 in omega (arith, lt)) in
        let is : (get_or ps in_list.0 q).range.from ≡ q.range.from = ap (λ (x : Part). x.range.from) in_list.2 in
        let from = leb-true q.range.from a (and_parts (nat_le q.range.from a) (nat_le (a + 8) q.range.to) h.1).0 in
        let past : s.range.to ≤ b = omega (arith, rise, is, from, low) in
        grind (arith, nat_tests)

    here : holds a 8 s ≡ true → covers_part b s ≡ true
    here e =
        let t = and_parts (nat_le s.range.from a) (nat_le (a + 8) s.range.to) e in
        let from = leb-true s.range.from a t.0 in
        let to = leb-true (a + 8) s.range.to t.1 in
        let low_b : s.range.from ≤ b = omega (arith, from, low) in
        let high_b : b < s.range.to = omega (arith, to, high) in
        grind (arith, nat_tests)

    by_test : (c : Bool) → holds a 8 s ≡ c → (if c then Some s else find (holds a 8) ps) ≡ Some q → (find (holds a 8) ps ≡ Some q → find (covers_part b) ps ≡ Some q)
        → (if covers_part b s then Some s else find (covers_part b) ps) ≡ Some q
    by_test true k g more = rw (here k) g
    by_test false k g more = rw (before g) (more g)

-- what stands in a word of a data part before the first step
record IsStored (p : Picture) (a n : ℕ) : Type 0 where
  part : Part
  at : find (holds a 8) p.parts ≡ Some part
  is : stored_in a part ≡ n

stored_by : (p : Picture) (a n : ℕ) (o : Option Part) → find (holds a 8) p.parts ≡ o → option_map (stored_in a) o ≡ Some n → IsStored p a n
stored_by p a n None e f = absurd (cc)
stored_by p a n (Some q) e f = record { part = q; at = e; is = cc }

-- ---- plain registers
abbrev AllPlain : List Value → Type 0
AllPlain [] = Unit {0}
AllPlain (v ∷ vs) = (v.tag ≡ Plain) × AllPlain vs

plain_replicate : (k : ℕ) → AllPlain (replicate k (plain 0))
plain_replicate zero = tt
plain_replicate (suc k) = (refl, plain_replicate k)

plain_set : (vs : List Value) (i n : ℕ) → AllPlain vs → AllPlain (slice_set vs i (plain n))
plain_set [] i n a = tt
plain_set (v ∷ vs) zero n a = (refl, a.1)
plain_set (v ∷ vs) (suc i) n a = (a.0, plain_set vs i n a.1)

plain_get : (vs : List Value) (k : ℕ) → AllPlain vs → (get_or vs k (plain 0)).tag ≡ Plain
plain_get [] k a = refl
plain_get (v ∷ vs) zero a = a.0
plain_get (v ∷ vs) (suc k) a = plain_get vs k a.1

plain_reg : (vs : List Value) (k : ℕ) → AllPlain vs → (reg vs k).tag ≡ Plain
plain_reg vs k a = by_test (k == 0)
  where
    by_test : (b : Bool) → (cond b (plain 0) (get_or vs k (plain 0))).tag ≡ Plain
    by_test true = refl
    by_test false = plain_get vs k a

module _ (p : Picture) (kept : IsKept p) where
  byte_is : (a j : ℕ) (q : Part) → find (holds a 8) p.parts ≡ Some q → j < 8 → byte_at (start_memory p) (a + j) ≡ get_or (drop (a - q.range.from) q.bytes) j 0
  byte_is a j q e lt =
      let h = found (holds a 8) p.parts q e in
      let fit = All-contains IsPart p.parts q kept.parts_fit h.0 in
      let t = and_parts (nat_le q.range.from a) (nat_le (a + 8) q.range.to) h.1 in
      let from = leb-true q.range.from a t.0 in
      let to = leb-true (a + 8) q.range.to t.1 in
      let top = fit.high in
      let below : a + j < stack_start = omega (arith, to, top, lt) in
      let stack : is_stack (a + j) ≡ false = grind (arith, nat_tests) in
      let covers = covering p.parts a (a + j) q kept.parts_rise e (omega arith) (omega (arith, lt)) in
      let place : a + j - q.range.from ≡ a - q.range.from + j = omega (arith, from) in
      (loaded p kept).bytes (a + j) ∙ rw (stack, covers) (ap (λ n. get_or q.bytes n 0) place ∙ sym (get_or-drop (a - q.range.from) q.bytes j 0))

  number_is : (a n : ℕ) → IsStored p a n → number_at (start_memory p) a ≡ n
  unfolding stored_in
  number_is a n s =
      let bytes = drop (a - s.part.range.from) s.part.bytes in
      same_number (bytes_from (byte_at (start_memory p)) a 8) bytes (λ j lt. get_or-bytes_from (byte_at (start_memory p)) a 8 j lt ∙ byte_is a j s.part s.at lt)
      ∙ sym (little_is bytes) ∙ s.is

  -- ---- slots
  whole_slot : (a n : ℕ) (b : Bool) → (a % 8 == 0) ≡ b → (if b then option_and_then (func_from p.funcs) (stored_at p.parts a) else None) ≡ Some n
      → (a % 8 ≡ 0) × (option_and_then (func_from p.funcs) (stored_at p.parts a) ≡ Some n)
  whole_slot a n true e f = (eqb-true (a % 8) 0 e, f)
  whole_slot a n false e f = absurd (cc)

  slot_starts : (s : Aim) → slot_at p.parts p.funcs s.at ≡ Some s.func → (s.at % 8 ≡ 0) × (func_from p.funcs (number_at (start_memory p) s.at) ≡ Some s.func)
  unfolding slot_at stored_at
  slot_starts s e =
      let t = whole_slot s.at s.func (s.at % 8 == 0) refl e in (
        t.0,
        option_and_then_some (func_from p.funcs) (stored_at p.parts s.at) s.func t.1
            (λ n is starts. ap (func_from p.funcs) (number_is s.at n (stored_by p s.at n (find (holds s.at 8) p.parts) refl is)) ∙ starts),
      )

  -- each link names the start of a function
  link_starts : (w : ℕ) → contains (start_memory p).links w ≡ true → (g : ℕ) × (func_from p.funcs (number_at (start_memory p) (8 * w)) ≡ Some g)
  link_starts w e = by_slot (find (λ s. w == s.at / 8) p.slots) refl (sym (any_find (λ s. w == s.at / 8) p.slots) ∙ sym ((loaded p kept).links w) ∙ e)
    where
      by_slot : (o : Option Aim) → find (λ s. w == s.at / 8) p.slots ≡ o → is_some o ≡ true → (g : ℕ) × (func_from p.funcs (number_at (start_memory p) (8 * w)) ≡ Some g)
      by_slot None f t = absurd (cc)
      by_slot (Some s) f t =
          let h = found (λ s. w == s.at / 8) p.slots s f in
          let at = eqb-true w (s.at / 8) h.1 in
          let k = slot_starts s (All-contains (λ s. slot_at p.parts p.funcs s.at ≡ Some s.func) p.slots s kept.slots_name h.0) in
          let whole = k.0 in
          let same : 8 * w ≡ s.at = omega (arith, at, whole) in
          (s.func, ap (λ a. func_from p.funcs (number_at (start_memory p) a)) same ∙ k.1)

  module _ (c : Code) (code : IsCodeOf p c) where
    start_lands : (y g : ℕ) → func_from p.funcs y ≡ Some g → Lands p c y y
    start_lands y g e =
        let covered = start_covered p kept y g e in
        let out = covered_outside p c kept y covered in
        record {
          stands = at_start (code.point y out);
          whole = start_whole p kept y g e;
          fits = covered_fits p c kept y covered;
          outside = out;
          unpaired = start_unpaired p kept y g e;
        }

    entry_lands : Lands p c p.entry p.entry
    entry_lands =
        let e = entry_word p kept in
        let high = text_high p kept p.entry e.0 e.1 in
        let out = text_outside p kept p.entry e.0 e.1 p.entry (omega arith) (omega arith) in
        record {
          stands = at_start (code.point p.entry out);
          whole = text_whole p kept p.entry e.0 e.1;
          fits = omega (arith, high);
          outside = out;
          unpaired = entry_unpaired p kept;
        }

    memory_itself : MemoriesRelated p c (start_memory p) (start_memory p)
    memory_itself = record {
      readable = refl;
      writable = refl;
      links = refl;
      bytes = λ a e. refl;
      numbers = λ w e. (let k = link_starts w e in start_lands (number_at (start_memory p) (8 * w)) k.0 k.1);
    }

    hart_itself : HartsRelated p c (start_hart p) (start_hart p)
    hart_itself = record {
      replaced_length = length-set (replicate 32 (plain 0)) 2 (plain stack_pointer);
      original_length = length-set (replicate 32 (plain 0)) 2 (plain stack_pointer);
      status = refl;
      reservation = refl;
      clear = refl;
      alike = λ e. lands_alike p c entry_lands (plain_regs (start_hart p).regs (plain_set (replicate 32 (plain 0)) 2 stack_pointer (plain_replicate 32)));
    }
      where
        plain_regs : (rs : List Value) → AllPlain rs → RegsRelated p c rs rs
        plain_regs rs a k = both_plain (plain_reg rs k a) (plain_reg rs k a) refl

    -- before the first step the machine stands for itself
    pub start_itself : (input : List ℕ) → StatesRelated p c (start_of p input) (start_of p input)
    unfolding start_of
    start_itself input = record {
      outcome = refl;
      system = refl;
      memory = memory_itself;
      harts = harts_itself;
      waiting = none_waits (start_hart p) refl;
    }
      where
        harts_itself : (h : ℕ) → Both (HartsRelated p c) (slice_get (start_hart p ∷ []) h) (slice_get (start_hart p ∷ []) h)
        harts_itself zero = both_found hart_itself
        harts_itself (suc h) = neither

-- ---- text without layouts
pub no_lives : AreLive []
no_lives = record { laid = λ i d lt. absurd (omega (arith, lt)); hops = λ i d lt. absurd (omega (arith, lt)) }

module _ (p : Picture) (kept : IsKept p) where
  outside : IsOutside p (code_of p (word_at p.texts) [])
  outside = let k = code_is p (word_at p.texts) [] no_lives in record { text = k.text; point = k.point; home = k.home }

  -- a point is a Start of itself, outside the region
  point_by : (a : ℕ) (q : Point) (b : Bool) → in_range p.region a ≡ b → (if b then None else Some (Start a)) ≡ Some q → (in_range p.region a ≡ false) × (q ≡ Start a)
  point_by a q true e f = absurd (cc)
  point_by a q false e f = (e, cc)

  point_is : (a : ℕ) (q : Point) → (code_of p (word_at p.texts) []).point a ≡ Some q → (in_range p.region a ≡ false) × (q ≡ Start a)
  unfolding live_at
  point_is a q f = point_by a q (in_range p.region a) refl f

  no_home : (b : Bool) (o : Option ℕ) → o ≡ None → IsSome (if b then o else None) → ⊥
  no_home true o e s = absurd (false≢true (sym (ap is_some e) ∙ s))
  no_home false o e s = absurd (cc)

  word_is : (a : ℕ) → in_range p.region a ≡ false → (code_of p (word_at p.texts) []).word a ≡ word_at p.texts a
  word_is a e = rw e refl

  pub renders_itself : Renders (code_of p (word_at p.texts) [])
  unfolding live_at
  renders_itself = record {
    starts = λ a x f. (let k = point_is a (Start x) f in let same : a ≡ x = cc in subst (λ y. StartRow (code_of p (word_at p.texts) []) a y) same (text_row p kept (code_of p (word_at p.texts) []) outside a (word_is a k.0)));
    hops = λ a x f. (let k = point_is a (Hop x) f in absurd (cc));
    mids = λ a x f. (let k = point_is a (Mid x) f in absurd (cc));
    reads = λ a x s f. absurd (no_home (in_range p.region a) None refl s);
  }
