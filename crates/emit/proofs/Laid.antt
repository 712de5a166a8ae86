-- A layout at its base renders the image, word by word, and its calls go to their functions.
use Rattle.std.proofs.Common.{◌≡◌, ◌≢◌, ℕ, suc, ◌+◌, ◌-◌, ◌*◌, ◌^◌, ◌≤◌, ◌<◌, Bool, true, false, List, [], ◌∷◌, length, map, refl, sym, ◌∙◌, subst, ap, inl, inr, arith}
use Rattle.std.specs.Prelude.{◌⊎◌, Option, Some, None, pos, ◌-ℤ◌, slice_get, is_some, IsSome}
use Rattle.std.specs.Option.{option_map}
use Rattle.std.proofs.lemmas.Option.{slice_get_within, slice_get-map, slice_get-get_or}
use Rattle.std.proofs.lemmas.Bool.{false≢true}
use Rattle.std.proofs.lemmas.List.{append-nil}
use Rattle.rv_isa.specs.Decoded.{decoded}
use Rattle.rv_isa.specs.declared.instr.Instr.{Instr}
use Rattle.rv_isa.specs.declared.instr.Instr.TheVariants as instr
use Rattle.image.specs.Targets.{target, made_by}
use Rattle.image.specs.Texts.{word_at}
use Rattle.image.specs.Picture.{Picture, IsKept}
use Rattle.layout.specs.declared.point.Point.{Point}
use Rattle.layout.specs.declared.point.Point.TheVariants.{Start, Hop, Mid}
use Rattle.layout.specs.Laid.{Laid, IsLaid, point_in}
use Rattle.layout.specs.Points.{StandsFor, at_start, at_hop, in_range, read}
use Rattle.layout.specs.Rows.{Near, Next, AimsAt, MovedRow, StartRow, HopRow, MidRow, Renders, GoesTo, CallsAim}
use Rattle.layout.specs.Rows as rows
use Rattle.layout.specs.Alone.{InRegion}
use Rattle.layout.proofs.Places.{item_here, item_place}
use Rattle.layout.proofs.Plain.{plain, plain_outside, plain_word, here_point_is, here_home_is, here_word_is, near_all, point_back, point_outside, home_back}
use Rattle.layout.proofs.TextRows.{read_is, text_row}
use Rattle.emit.specs.declared.entry.To.{To}
use Rattle.emit.specs.declared.entry.To.TheVariants.{Here, There, Over}
use Rattle.emit.specs.declared.entry.Made.{Made}
use Rattle.emit.specs.declared.entry.Made.TheVariants.{Same, Jump, High, Low}
use Rattle.emit.specs.declared.entry.Entry.{Entry}
use Rattle.emit.specs.Entries.{place, start, mid}
use Rattle.emit.specs.Placed.{aim, IsMade, ArePlaced, InReach, IsOut, high_of, low_of, point_of}
use Rattle.emit.proofs.Leading.{IsOutside}
use Rattle.emit.proofs.Reach.{target_back, value_back, made_small, out_or_in}
use Rattle.emit.proofs.Places.{Occurs, place_found, row_at}
use Rattle.emit.proofs.Halves.{Halves, first_half}
use Rattle.emit.proofs.CallKinds.{CallsBy, IsCallOf, site_is_call, second_is_call}
use Rattle.emit.proofs.EntryRows.{Ahead, AheadTwo, StandsAs, LeadsTo, LeadsToStart, start_leads, EntryRow, kept, address, middle, jump, jump_register, call_second, branch, branch_inverted, hops, Rows}

abbrev is_high : Made → Bool
is_high (High rd v) = true
is_high _ = false

module _ (p : Picture) (is_kept : IsKept p) (l : Laid) (laid : IsLaid l) (within : InRegion p l.base (length l.words)) (es : List Entry) (points : l.points ≡ map point_of es) (placed : ArePlaced l.base es l.words)
    (known : ℕ → Type 0) (occurs : (y : ℕ) → known y → Occurs y es) where
  abbrev pub text : ℕ → Option ℕ
  text = word_at p.texts

  abbrev pub second : ℕ → Option ℕ
  second = (plain p l).second

  abbrev pub outside : ℕ → Type 0
  outside = IsOutside p

  -- the end of the layout
  low_here : (k : ℕ) (e : Entry) → slice_get es k ≡ Some e → l.base + 4 * k + 4 ≤ 0x08000000
  low_here k e s =
      let lt = slice_get_within es k e s in
      let size = placed.size in
      let high = laid.high in
      omega (arith, lt, size, high)

  point_at : (k : ℕ) (e : Entry) → slice_get es k ≡ Some e → point_in l (l.base + 4 * k) ≡ Some e.point
  point_at k e s = item_here l.base l.points k ∙ ap (λ x. slice_get x k) points ∙ slice_get-map point_of es k ∙ ap (option_map point_of) s

  point_here : (k : ℕ) (e : Entry) → slice_get es k ≡ Some e → (plain p l).point (l.base + 4 * k) ≡ Some e.point
  point_here k e s = here_point_is p l laid within (l.base + 4 * k) e.point (point_at k e s)

  home_here : (k : ℕ) (e : Entry) → slice_get es k ≡ Some e → (plain p l).home (l.base + 4 * k) ≡ Some l.base
  home_here k e s = here_home_is p l laid within (l.base + 4 * k) e.point (point_at k e s)

  word_is : (k : ℕ) (e : Entry) → slice_get es k ≡ Some e → (w : ℕ) × ((plain p l).word (l.base + 4 * k) ≡ Some w) × IsMade l.base es (l.base + 4 * k) e.made w
  word_is k e s =
      let lt = slice_get_within es k e s in
      let size = placed.size in
      let in_words : k < length l.words = omega (arith, size, lt) in
      let t = slice_get-get_or l.words k 0 in_words in
      (_, here_word_is p l laid within (l.base + 4 * k) e.point (point_at k e s) ∙ item_here l.base l.words k ∙ t, placed.made.words k _ e s t)

  outside_stands : (y : ℕ) → outside y → (plain p l).point y ≡ Some (Start y)
  outside_stands y f = (plain_outside p l).point y f.free

  -- the word in place k stands for y
  stands_as : (k : ℕ) (e : Entry) (y : ℕ) → slice_get es k ≡ Some e → StandsAs e.point y → StandsFor (plain p l) (l.base + 4 * k) y
  stands_as k e y s q = by_point e.point q (point_here k e s)
    where
      by_point : (r : Point) → StandsAs r y → (plain p l).point (l.base + 4 * k) ≡ Some r → StandsFor (plain p l) (l.base + 4 * k) y
      by_point (Start x) q r = at_start (r ∙ ap (λ (n : ℕ). Some (Start n)) q)
      by_point (Hop x) q r = at_hop (r ∙ ap (λ (n : ℕ). Some (Hop n)) q)
      by_point (Mid x) q r = absurd q

  near : (k : ℕ) (e : Entry) → slice_get es k ≡ Some e → (t : ℕ) → Near (plain p l) (l.base + 4 * k) t
  near k e s t = near_all p l laid within (l.base + 4 * k) e.point (point_at k e s) t

  -- the words after place k
  module _ (k : ℕ) (e : Entry) (s : slice_get es k ≡ Some e) (after : List Entry) (rest : (j i : ℕ) → i ≡ k + 1 + j → slice_get after j ≡ slice_get es i) where
    ahead_stands : (y j i t : ℕ) (d : Entry) → slice_get after j ≡ Some d → StandsAs d.point y → i ≡ k + 1 + j → t ≡ l.base + 4 * i → StandsFor (plain p l) t y
    ahead_stands y j i t d q h e f =
        let r : slice_get es i ≡ Some d = sym (rest j i e) ∙ q in
        rw f (stands_as i d y r h)

    next : (y : ℕ) → Ahead after y → Next (plain p l) (l.base + 4 * k) y
    next y h = by_list after refl h
      where
        by_list : (xs : List Entry) → xs ≡ after → Ahead xs y → Next (plain p l) (l.base + 4 * k) y
        by_list [] q h = absurd h
        by_list (d ∷ ds) q h =
            record {
              stands = ahead_stands y 0 (k + 1) (l.base + 4 * k + 4) d (subst (λ (x : List Entry). slice_get x 0 ≡ Some d) q refl) h (omega arith) (omega arith);
              near = near k e s (l.base + 4 * k + 4);
            }

    over : (y : ℕ) → AheadTwo after y → StandsFor (plain p l) (l.base + 4 * k + 8) y
    over y h = by_list after refl h
      where
        by_list : (xs : List Entry) → xs ≡ after → AheadTwo xs y → StandsFor (plain p l) (l.base + 4 * k + 8) y
        by_list [] q h = absurd h
        by_list (d ∷ []) q h = absurd h
        by_list (d ∷ c ∷ ds) q h = ahead_stands y 1 (k + 2) (l.base + 4 * k + 8) c (subst (λ (x : List Entry). slice_get x 1 ≡ Some c) q refl) h (omega arith) (omega arith)

  aims_at : (a t y : ℕ) → t < 2 ^ 64 → StandsFor (plain p l) t y → Near (plain p l) a t → AimsAt (plain p l) a (pos t -ℤ pos a) y
  aims_at a t y b h n = record { stands = rw (target_back a t b) h; near = rw (target_back a t b) n }

  tail_rest : (k : ℕ) (d : Entry) (after more : List Entry) → after ≡ d ∷ more → ((j i : ℕ) → i ≡ k + 1 + j → slice_get after j ≡ slice_get es i)
      → (slice_get es (k + 1) ≡ Some d) × ((j i : ℕ) → i ≡ k + 1 + 1 + j → slice_get more j ≡ slice_get es i)
  tail_rest k d after more q r = (
    sym (r 0 (k + 1) (omega arith)) ∙ ap (λ (x : List Entry). slice_get x 0) q,
    λ j i p. ap (λ (x : List Entry). slice_get x (suc j)) (sym q) ∙ r (suc j) i (omega arith),
  )

  reads_here : (k w : ℕ) (i : Instr) → (plain p l).word (l.base + 4 * k) ≡ Some w → decoded w ≡ Some i → read (plain p l).word (l.base + 4 * k) ≡ Some i
  reads_here k w i e d = read_is (plain p l).word (l.base + 4 * k) w (Some i) e d

  made : (k : ℕ) (e d : Entry) → slice_get es k ≡ Some e → e ≡ d → (w : ℕ) × ((plain p l).word (l.base + 4 * k) ≡ Some w) × IsMade l.base es (l.base + 4 * k) d.made w
  made k e d s q = let w = word_is k e s in (w.0, w.1, subst (λ (f : Entry). IsMade l.base es (l.base + 4 * k) f.made w.0) q w.2)

  -- an address that is made in two words
  address_row : (k x rd imm : ℕ) (e : Entry) (after more : List Entry) → slice_get es k ≡ Some e → ((j i : ℕ) → i ≡ k + 1 + j → slice_get after j ≡ slice_get es i)
      → e ≡ start x (High rd (made_by x imm)) → after ≡ mid x (Low rd (made_by x imm)) ∷ more → read text x ≡ Some (instr.Auipc rd imm) → rd ≢ 0
      → Ahead more (x + 4) → MovedRow (plain p l) (l.base + 4 * k) x rd (high_of (l.base + 4 * k) (made_by x imm))
  address_row k x rd imm e after more s rest q m t r n =
      let u = tail_rest k (mid x (Low rd (made_by x imm))) after more m rest in
      let v = made k e _ s q in
      let low = low_here k e s in
      let j : l.base + 4 * (k + 1) ≡ l.base + 4 * k + 4 = omega arith in
      let i : l.base + 4 * (k + 1) - 4 ≡ l.base + 4 * k = omega arith in
      let w = word_is (k + 1) _ u.0 in
      let reach : InReach (l.base + 4 * k) (made_by x imm) = out_or_in (l.base + 4 * k) (made_by x imm) (λ o. placed.reach.reach k e (slice_get_within es k e s) s (subst (λ (d : Entry). IsOut l.base es (l.base + 4 * k) d.made) (sym q) o)) in
      record {
        imm = imm;
        low = low_of (l.base + 4 * k) (made_by x imm);
        text = t;
        is_written = r;
        first = reads_here k v.0 _ v.1 v.2;
        mid = rw j at (point_here (k + 1) _ u.0);
        home = (rw j at (home_here (k + 1) _ u.0)) ∙ sym (home_here k e s);
        second = rw j at (reads_here (k + 1) w.0 _ w.1 (rw i at w.2));
        value = value_back (l.base + 4 * k) (made_by x imm) (omega (arith, low)) (made_small x imm) reach;
        next = rw j at (next (k + 1) _ u.0 more u.1 (x + 4) n);
      }

  module _ (k : ℕ) (e : Entry) (s : slice_get es k ≡ Some e) (after : List Entry) (rest : (j i : ℕ) → i ≡ k + 1 + j → slice_get after j ≡ slice_get es i) where
    here_low : (y : ℕ) → known y → l.base + 4 * place y es < 2 ^ 64
    here_low y h =
        let f = place_found y es (occurs y h) in
        let low = low_here (place y es) f.0 f.1 in
        omega (arith, low)

    here_point : (y : ℕ) → known y → (plain p l).point (l.base + 4 * place y es) ≡ Some (Start y)
    here_point y h = let f = place_found y es (occurs y h) in point_here (place y es) f.0 f.1 ∙ ap (λ (q : Point). Some q) f.2

    aims : (to : To) (y : ℕ) → LeadsTo text second known outside after to y → AimsAt (plain p l) (l.base + 4 * k) (pos (aim l.base es (l.base + 4 * k) to) -ℤ pos (l.base + 4 * k)) y
    aims (Here z) y (q, h) = rw q (aims_at (l.base + 4 * k) (l.base + 4 * place y es) y (here_low y h) (at_start (here_point y h)) (near k e s _))
    aims (There z) y (q, h) = rw q (aims_at (l.base + 4 * k) y y h.below (at_start (outside_stands y h)) (near k e s y))
    aims Over y h =
        let low = low_here k e s in
        aims_at (l.base + 4 * k) (l.base + 4 * k + 8) y (omega (arith, low)) (over k e s after rest y h) (near k e s _)

    -- the jump of this word goes to a Start of y
    aims_start : (to : To) (y : ℕ) → LeadsToStart text second known outside to y → (plain p l).point (target (l.base + 4 * k) (pos (aim l.base es (l.base + 4 * k) to) -ℤ pos (l.base + 4 * k))) ≡ Some (Start y)
    aims_start (Here z) y (q, h) = rw q (rw (target_back (l.base + 4 * k) (l.base + 4 * place y es) (here_low y h)) (here_point y h))
    aims_start (There z) y (q, h) = rw q (rw (target_back (l.base + 4 * k) y h.below) (outside_stands y h))
    aims_start Over y h = absurd h

    jump_reads : (rd : ℕ) (to : To) → e.made ≡ Jump rd to → read (plain p l).word (l.base + 4 * k) ≡ Some (instr.Jal rd (pos (aim l.base es (l.base + 4 * k) to) -ℤ pos (l.base + 4 * k)))
    jump_reads rd to m = let w = word_is k e s in reads_here k w.0 _ w.1 (subst (λ (d : Made). IsMade l.base es (l.base + 4 * k) d w.0) m w.2)

    hop_row : (x : ℕ) (to : To) → e.made ≡ Jump 0 to → LeadsToStart text second known outside to x → HopRow (plain p l) (l.base + 4 * k) x
    hop_row x to m h = record { aim = _; word = jump_reads 0 to m; start = aims_start to x h; near = near k e s _ }

    goes_to : (rd : ℕ) (to : To) (y : ℕ) → e.made ≡ Jump rd to → LeadsToStart text second known outside to y → GoesTo (plain p l) (l.base + 4 * k) y
    goes_to rd to y m h = record { rd = rd; aim = _; word = jump_reads rd to m; start = aims_start to y h }

    start_row : (x : ℕ) → e.point ≡ Start x → EntryRow text second known outside e after → StartRow (plain p l) (l.base + 4 * k) x × IsSome (read text x)
    start_row x h (kept y w i q t r u n) =
        let z : y ≡ x = cc in
        let v = made k e _ s q in
        subst (λ (m : ℕ). StartRow (plain p l) (l.base + 4 * k) m × IsSome (read text m)) z
        (rows.kept w i t r u (v.1 ∙ ap (λ (m : ℕ). Some m) v.2) (next k e s after rest (y + 4) n), ap is_some (read_is text y w (Some i) t r))
    start_row x h (address y rd imm more q m t r n) =
        let z : y ≡ x = cc in
        subst (λ (m : ℕ). StartRow (plain p l) (l.base + 4 * k) m × IsSome (read text m)) z (rows.address_moved rd _ (address_row k y rd imm e after more s rest q m t r n), ap is_some t)
    start_row x h (middle y rd v q) = absurd (cc)
    start_row x h (jump y rd off to q t u n) =
        let z : y ≡ x = cc in
        let v = made k e _ s q in
        subst (λ (m : ℕ). StartRow (plain p l) (l.base + 4 * k) m × IsSome (read text m)) z
        (rows.jump rd off _ t (reads_here k v.0 _ v.1 v.2) (aims to (target y off) (start_leads text second known outside after to (target y off) u)) (λ r. next k e s after rest (y + 4) (n r)), ap is_some t)
    start_row x h (jump_register y w rd rs off q t r n) =
        let z : y ≡ x = cc in
        let v = made k e _ s q in
        subst (λ (m : ℕ). StartRow (plain p l) (l.base + 4 * k) m × IsSome (read text m)) z
        (rows.jump_register w rd rs off t r (v.1 ∙ ap (λ (m : ℕ). Some m) v.2) (λ r. next k e s after rest (y + 4) (n r)), ap is_some (read_is text y w (Some (instr.Jalr rd rs off)) t r))
    start_row x h (call_second y rd rs g off q t m b n) =
        let z : y ≡ x = cc in
        let v = made k e _ s q in
        subst (λ (m : ℕ). StartRow (plain p l) (l.base + 4 * k) m × IsSome (read text m)) z (
          rows.call_second rd rs g off _ t m (reads_here k v.0 _ v.1 v.2)
              (rw (target_back (l.base + 4 * k) (l.base + 4 * place g es) (here_low g b)) (here_point g b))
              (λ r. next k e s after rest (y + 4) (n r)),
          ap is_some t,
        )
    start_row x h (branch y c rs1 rs2 off to q t u n) =
        let z : y ≡ x = cc in
        let v = made k e _ s q in
        subst (λ (m : ℕ). StartRow (plain p l) (l.base + 4 * k) m × IsSome (read text m)) z
        (rows.branch c rs1 rs2 off _ t (reads_here k v.0 _ v.1 v.2) (aims to (target y off) u) (next k e s after rest (y + 4) n), ap is_some t)
    start_row x h (branch_inverted y c rs1 rs2 off to q t u n) =
        let z : y ≡ x = cc in
        let v = made k e _ s q in
        subst (λ (m : ℕ). StartRow (plain p l) (l.base + 4 * k) m × IsSome (read text m)) z
        (rows.branch_inverted c rs1 rs2 off _ t (reads_here k v.0 _ v.1 v.2) (aims to (y + 4) u) (next k e s after rest (target y off) n), ap is_some t)
    start_row x h (hops y to q u) = absurd (cc)

    hop_case : (x : ℕ) → e.point ≡ Hop x → EntryRow text second known outside e after → HopRow (plain p l) (l.base + 4 * k) x
    hop_case x h (kept y w i q t r u n) = absurd (cc)
    hop_case x h (address y rd imm more q m t r n) = absurd (cc)
    hop_case x h (middle y rd v q) = absurd (cc)
    hop_case x h (jump y rd off to q t u n) = absurd (cc)
    hop_case x h (jump_register y w rd rs off q t r n) = absurd (cc)
    hop_case x h (call_second y rd rs g off q t m b n) = absurd (cc)
    hop_case x h (branch y c rs1 rs2 off to q t u n) = absurd (cc)
    hop_case x h (branch_inverted y c rs1 rs2 off to q t u n) = absurd (cc)
    hop_case x h (hops y to q u) =
        let z : y ≡ x = cc in
        subst (λ (m : ℕ). HopRow (plain p l) (l.base + 4 * k) m) z (hop_row y to (ap (λ (d : Entry). d.made) q) u)

    same_word : (x y w : ℕ) → y ≡ x → e ≡ start y (Same w) → text y ≡ Some w → (plain p l).word (l.base + 4 * k) ≡ text x
    same_word x y w z q t = let v = made k e _ s q in v.1 ∙ ap (λ (m : ℕ). Some m) v.2 ∙ sym t ∙ ap text z

    called_by : (x y g : ℕ) (i : Instr) → y ≡ x → IsCallOf p x g → read text y ≡ Some i → CallsBy p y g i
    called_by x y g i z c t = subst (λ (m : ℕ). IsCallOf p m g) (sym z) c i t

    -- the word of a call is the original one, or goes to a Start of its function
    call_case : (x g : ℕ) → e.point ≡ Start x → IsCallOf p x g → EntryRow text second known outside e after → ((plain p l).word (l.base + 4 * k) ≡ text x) ⊎ GoesTo (plain p l) (l.base + 4 * k) g
    call_case x g h c (kept y w i q t r u n) = inl (same_word x y w (cc) q t)
    call_case x g h c (address y rd imm more q m t r n) = absurd (called_by x y g (instr.Auipc rd imm) (cc) c t)
    call_case x g h c (middle y rd v q) = absurd (cc)
    call_case x g h c (jump y rd off to q t u n) =
        let aim : target y off ≡ g = called_by x y g (instr.Jal rd off) (cc) c t in
        inr (goes_to rd to g (ap (λ (d : Entry). d.made) q) (subst (λ (m : ℕ). LeadsToStart text second known outside to m) aim u))
    call_case x g h c (jump_register y w rd rs off q t r n) = inl (same_word x y w (cc) q t)
    call_case x g h c (call_second y rd rs f off q t m b n) =
        let called : second y ≡ Some g = called_by x y g (instr.Jalr rd rs off) (cc) c t in
        let same : f ≡ g = cc in
        inr (goes_to rd (Here f) g (ap (λ (d : Entry). d.made) q) (same, subst known same b))
    call_case x g h c (branch y o rs1 rs2 off to q t u n) = absurd (called_by x y g (instr.Branch o rs1 rs2 off) (cc) c t)
    call_case x g h c (branch_inverted y o rs1 rs2 off to q t u n) = absurd (called_by x y g (instr.Branch o rs1 rs2 off) (cc) c t)
    call_case x g h c (hops y to q u) = absurd (cc)

    not_high : (x rd v : ℕ) (m : Made) → e ≡ start x (High rd v) → e.made ≡ m → is_high m ≡ false → ⊥
    not_high x rd v m h q n = false≢true (sym n ∙ ap is_high (sym q ∙ ap (λ (d : Entry). d.made) h))

    -- the first of two words
    half_case : (x rd v : ℕ) → e ≡ start x (High rd v) → EntryRow text second known outside e after → (r : ℕ) × (high : ℕ) × MovedRow (plain p l) (l.base + 4 * k) x r high
    half_case x rd v h (kept y w i q t r u n) = absurd (not_high x rd v _ h (ap (λ (d : Entry). d.made) q) refl)
    half_case x rd v h (address y r imm more q m t n u) =
        let f : Start y ≡ Start x = sym (ap (λ (d : Entry). d.point) q) ∙ ap (λ (d : Entry). d.point) h in
        let z : y ≡ x = cc in
        subst (λ (o : ℕ). (r : ℕ) × (high : ℕ) × MovedRow (plain p l) (l.base + 4 * k) o r high) z (r, _, address_row k y r imm e after more s rest q m t n u)
    half_case x rd v h (middle y r u q) = absurd (not_high x rd v _ h (ap (λ (d : Entry). d.made) q) refl)
    half_case x rd v h (jump y r off to q t u n) = absurd (not_high x rd v _ h (ap (λ (d : Entry). d.made) q) refl)
    half_case x rd v h (jump_register y w r rs off q t u n) = absurd (not_high x rd v _ h (ap (λ (d : Entry). d.made) q) refl)
    half_case x rd v h (call_second y r rs g off q t m b n) = absurd (not_high x rd v _ h (ap (λ (d : Entry). d.made) q) refl)
    half_case x rd v h (branch y c rs1 rs2 off to q t u n) = absurd (not_high x rd v _ h (ap (λ (d : Entry). d.made) q) refl)
    half_case x rd v h (branch_inverted y c rs1 rs2 off to q t u n) = absurd (not_high x rd v _ h (ap (λ (d : Entry). d.made) q) refl)
    half_case x rd v h (hops y to q u) = absurd (not_high x rd v _ h (ap (λ (d : Entry). d.made) q) refl)

  mapped : (r : Option Entry) (q : Point) → option_map point_of r ≡ Some q → (e : Entry) × (r ≡ Some e) × (e.point ≡ q)
  mapped None q h = absurd (cc)
  mapped (Some e) q h = (e, refl, (cc))

  find_place : (a : ℕ) (q : Point) → point_in l a ≡ Some q → (k : ℕ) × (a ≡ l.base + 4 * k) × ((e : Entry) × (slice_get es k ≡ Some e) × (e.point ≡ q))
  find_place a q h =
      let t = item_place l.base l.points a q h in
      let u = mapped (slice_get es t.0) q (sym (slice_get-map point_of es t.0) ∙ ap (λ x. slice_get x t.0) (sym points) ∙ t.2) in
      (t.0, t.1, (u.0, u.1, u.2))

  module _ (r : Rows text second known outside es []) (halves : Halves None es) where
    row : (k : ℕ) (e : Entry) → slice_get es k ≡ Some e → (after : List Entry) × EntryRow text second known outside e after × ((j i : ℕ) → i ≡ k + 1 + j → slice_get after j ≡ slice_get es i)
    row k e s = let t = row_at text second known outside es [] k e r s in (t.0, t.1, λ j i q. t.2 j i q ∙ ap (λ (x : List Entry). slice_get x i) (append-nil es))

    start_here : (a x : ℕ) → point_in l a ≡ Some (Start x) → StartRow (plain p l) a x × IsSome (read text x)
    start_here a x h =
        let f = find_place a (Start x) h in
        let t = row f.0 f.2.0 f.2.1 in
        rw f.1 (start_row f.0 f.2.0 f.2.1 t.0 t.2 x f.2.2 t.1)

    by_region : {A : Type 0} (a : ℕ) (q : Point) → (plain p l).point a ≡ Some q → (point_in l a ≡ Some q → A) → (in_range p.region a ≡ false → q ≡ Start a → A) → A
    by_region {A = A} a q e inside out = by_test (in_range p.region a) refl
      where
        by_test : (b : Bool) → in_range p.region a ≡ b → A
        by_test true r = inside (point_back p l a q r e)
        by_test false r = out r (point_outside p l a q r e)

    starts : (a x : ℕ) → (plain p l).point a ≡ Some (Start x) → StartRow (plain p l) a x
    starts a x h =
        by_region a (Start x) h (λ k. (start_here a x k).0)
        (λ r k. let same : a ≡ x = cc in subst (λ (n : ℕ). StartRow (plain p l) a n) same (text_row p is_kept (plain p l) (plain_outside p l) a (plain_word p l a r)))

    hops_of : (a x : ℕ) → (plain p l).point a ≡ Some (Hop x) → HopRow (plain p l) a x
    hops_of a x h =
        by_region a (Hop x) h (λ q. let f = find_place a (Hop x) q in let t = row f.0 f.2.0 f.2.1 in rw f.1 (hop_case f.0 f.2.0 f.2.1 t.0 t.2 x f.2.2 t.1)) (λ r k. absurd (cc))

    mid_here : (a x : ℕ) → point_in l a ≡ Some (Mid x) → MidRow (plain p l) a x
    mid_here a x h =
        let f = find_place a (Mid x) h in
        let g = first_half es f.0 x f.2.0 halves f.2.1 f.2.2 in
        let t = row g.0 (start x (High g.1 g.2)) g.4 in
        let m = half_case g.0 (start x (High g.1 g.2)) g.4 t.0 t.2 x g.1 g.2 refl t.1 in
        record {
          first = l.base + 4 * g.0;
          rd = m.0;
          high = m.1;
          after = (let at = f.1 in let is = g.3 in omega (arith, at, is));
          start = point_here g.0 (start x (High g.1 g.2)) g.4;
          moved = m.2;
        }

    mids : (a x : ℕ) → (plain p l).point a ≡ Some (Mid x) → MidRow (plain p l) a x
    mids a x h = by_region a (Mid x) h (mid_here a x) (λ r k. absurd (cc))

    -- each word of the layout renders the word that it stands for
    pub renders : Renders (plain p l)
    renders = record {
      starts = starts;
      hops = hops_of;
      mids = mids;
      reads = λ a x h e. (start_here a x (point_back p l a (Start x) (home_back p l a h) e)).1;
    }

    call_aims : (a x g : ℕ) → (plain p l).point a ≡ Some (Start x) → IsCallOf p x g → ((plain p l).word a ≡ text x) ⊎ GoesTo (plain p l) a g
    call_aims a x g h c = by_region a (Start x) h inside outside_text
      where
        inside : point_in l a ≡ Some (Start x) → ((plain p l).word a ≡ text x) ⊎ GoesTo (plain p l) a g
        inside q = let f = find_place a (Start x) q in let t = row f.0 f.2.0 f.2.1 in rw f.1 (call_case f.0 f.2.0 f.2.1 t.0 t.2 x g f.2.2 c t.1)

        outside_text : in_range p.region a ≡ false → Start x ≡ Start a → ((plain p l).word a ≡ text x) ⊎ GoesTo (plain p l) a g
        outside_text r q = let same : a ≡ x = cc in inl (plain_word p l a r ∙ ap text same)

    -- each call is the original word, or goes to a Start of its function
    pub calls_aim : CallsAim (plain p l)
    calls_aim = record {
      sites = λ a x g h e. call_aims a x g h (site_is_call p is_kept x g e);
      seconds = λ a x g h e. call_aims a x g h (second_is_call p is_kept x g e);
    }
