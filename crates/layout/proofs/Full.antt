-- A word that renders what it stands for passes its test.
use Rattle.std.proofs.Common.{◌≡◌, ◌≢◌, ℕ, ◌+◌, ◌==◌, Bool, true, false, refl, sym, ◌∙◌, ap, subst, inl, inr, arith}
use Rattle.std.specs.Prelude.{Option, Some, None, ℤ, ◌⊎◌, ◌&&◌, ◌||◌, length, find, is_some, option_and_then, if◌then◌else◌}
use Rattle.std.specs.Option.{option_map}
use Rattle.std.proofs.lemmas.Bool.{eqb-true, eq-eqb, and_from, or_left, false≢true}
use Rattle.std.proofs.lemmas.Option.{slice_get-get_or}
use Rattle.std.proofs.lemmas.List.Elements.{All-contains}
use Rattle.std.proofs.lemmas.List.Quantifiers.{position-Some}
use Rattle.rv_isa.specs.Conditions.{opposite}
use Rattle.rv_isa.specs.Decoded.{decoded}
use Rattle.rv_isa.specs.declared.instr.Cond.{Cond}
use Rattle.rv_isa.specs.declared.instr.Cond.TheVariants.{Eq, Ne, Lt, Ge, Ltu, Geu}
use Rattle.rv_isa.specs.declared.instr.ImmOp.TheVariants as ops
use Rattle.rv_isa.specs.declared.instr.Instr.{Instr}
use Rattle.rv_isa.specs.declared.instr.Instr.TheVariants as instr
use Rattle.image.specs.declared.ranges.Func.{Func}
use Rattle.image.specs.declared.ranges.Aim.{Aim}
use Rattle.image.specs.Jumps.{jal_target}
use Rattle.image.specs.Aims.{func_start, func_from, aim_place, site_at}
use Rattle.image.specs.Targets.{target, made_by}
use Rattle.image.specs.Texts.{word_at}
use Rattle.image.specs.Picture.{Picture, IsKept}
use Rattle.layout.specs.declared.point.Point.{Point}
use Rattle.layout.specs.declared.point.Point.TheVariants.{Start, Mid}
use Rattle.layout.specs.Laid.{Laid, IsLaid, item_at, point_in}
use Rattle.layout.specs.Points.{StandsFor, at_start, at_hop, read, aim_func, site_of, start_of}
use Rattle.layout.specs.Rows.{Next, MovedRow, StartRow, no_word, unread, kept, address_in_place, address_moved, jump, site, jump_register, call_second, branch, branch_inverted}
use Rattle.layout.specs.Rows as rows
use Rattle.layout.specs.Alone.{InRegion}
use Rattle.layout.specs.Tests.{same_cond, is_mid, stands, starts, returns, kept_test, sum_test, moved_test, jump_test, starts_at, second_test, branch_test, row_test}
use Rattle.layout.proofs.TextWords.{found}
use Rattle.layout.proofs.TextRows.{read_is, read_same}
use Rattle.layout.proofs.Plain.{plain, here_home_is, here_word_is, point_back, home_back}

or_right : (a b : Bool) → b ≡ true → a || b ≡ true
or_right true b p = refl
or_right false b p = p

pub same_full : (c : Cond) → same_cond c c ≡ true
same_full Eq = refl
same_full Ne = refl
same_full Lt = refl
same_full Ge = refl
same_full Ltu = refl
same_full Geu = refl

-- ---- a site calls the function at its target
starts_there : (p : Picture) (t g : ℕ) → func_from p.funcs t ≡ Some g → start_of p g ≡ Some t
unfolding func_from start_of
starts_there p t g e =
    let d : Func = record { from = 0; to = 0 } in
    let h = position-Some (λ (f : Func). func_start f == t) p.funcs g d e in
    ap (option_map func_start) (slice_get-get_or p.funcs g d h.0) ∙ ap Some (eqb-true _ t h.1)

site_calls : (p : Picture) → IsKept p → (x g w rd : ℕ) (off : ℤ) → site_of p x ≡ Some g → word_at p.texts x ≡ Some w → decoded w ≡ Some (instr.Jal rd off) → func_from p.funcs (target x off) ≡ Some g
unfolding site_of site_at jal_target
site_calls p k x g w rd off e is r = by_find (find (λ s. aim_place s == x) p.sites) refl e
  where
    by_find : (o : Option Aim) → find (λ s. aim_place s == x) p.sites ≡ o → option_map aim_func o ≡ Some g → func_from p.funcs (target x off) ≡ Some g
    by_find None f e = absurd (cc)
    by_find (Some s) f e =
        let h = found (λ s. aim_place s == x) p.sites s f in
        let at = eqb-true s.at x h.1 in
        let calls = All-contains (λ s. site_at p.texts p.funcs s.at ≡ Some s.func) p.sites s k.sites_call h.0 in
        let same : s.func ≡ g = cc in
        (rw (at, is, r) at calls) ∙ ap Some same

pub site_target : (p : Picture) → IsKept p → (x w rd to : ℕ) (off : ℤ) → option_and_then (start_of p) (site_of p x) ≡ Some to → word_at p.texts x ≡ Some w → decoded w ≡ Some (instr.Jal rd off) → target x off ≡ to
site_target p k x w rd to off e is r = by_site (site_of p x) refl e
  where
    by_site : (o : Option ℕ) → site_of p x ≡ o → option_and_then (start_of p) o ≡ Some to → target x off ≡ to
    by_site None f e = absurd (cc)
    by_site (Some g) f e =
        let s = starts_there p (target x off) g (site_calls p k x g w rd off f is r) in
        let t : Some (target x off) ≡ Some to = sym s ∙ e in
        cc

module _ (p : Picture) (l : Laid) where
  pub stands_full : (t y : ℕ) → StandsFor (plain p l) t y → stands p l t y ≡ true
  unfolding stands
  stands_full t y (at_start e) = rw e (eq-eqb y y refl)
  stands_full t y (at_hop e) = rw e (eq-eqb y y refl)

  pub starts_full : (t y : ℕ) → (plain p l).point t ≡ Some (Start y) → starts p l t y ≡ true
  unfolding starts
  starts_full t y e = rw e (eq-eqb y y refl)

  module _ (is_kept : IsKept p) (laid : IsLaid l) (within : InRegion p l.base (length l.words)) (a : ℕ) (q : Point) (at : point_in l a ≡ Some q) where
    next_full : (y : ℕ) → Next (plain p l) a y → stands p l (a + 4) y ≡ true
    next_full y n = stands_full (a + 4) y n.stands

    returns_full : (rd y : ℕ) → (rd ≢ 0 → Next (plain p l) a y) → returns p l a rd y ≡ true
    unfolding returns
    returns_full rd y n = by_test (rd == 0) refl
      where
        by_test : (b : Bool) → rd == 0 ≡ b → b || stands p l (a + 4) y ≡ true
        by_test true e = refl
        by_test false e = next_full y (n (λ z. false≢true (sym e ∙ eq-eqb rd 0 z)))

    module _ (x w v : ℕ) (apart : a ≢ x) (text : (plain p l).text x ≡ Some w) (word : (plain p l).word a ≡ Some v) where
      -- what a row says of the word v, where the original word reads as this
      abbrev pub RowOf : Instr → Type 0
      RowOf (instr.Auipc rd imm) = ((rd ≡ 0) × (v ≡ w) × Next (plain p l) a (x + 4)) ⊎ ((high : ℕ) × MovedRow (plain p l) a x rd high)
      RowOf (instr.Jal rd off) = (aim : ℤ) × (decoded v ≡ Some (instr.Jal rd aim)) × StandsFor (plain p l) (target a aim) (target x off) × (rd ≢ 0 → Next (plain p l) a (x + 4))
      RowOf (instr.Jalr rd rs off) =
          ((v ≡ w) ⊎ ((aim : ℤ) × (to : ℕ) × (decoded v ≡ Some (instr.Jal rd aim)) × ((plain p l).second x ≡ Some to) × ((plain p l).point (target a aim) ≡ Some (Start to))))
          × (rd ≢ 0 → Next (plain p l) a (x + 4))
      RowOf (instr.Branch k rs1 rs2 off) =
          (aim : ℤ) × (((decoded v ≡ Some (instr.Branch k rs1 rs2 aim)) × StandsFor (plain p l) (target a aim) (target x off) × StandsFor (plain p l) (a + 4) (x + 4))
          ⊎ ((decoded v ≡ Some (instr.Branch (opposite k) rs1 rs2 aim)) × StandsFor (plain p l) (target a aim) (x + 4) × StandsFor (plain p l) (a + 4) (target x off)))
      RowOf _ = (v ≡ w) × Next (plain p l) a (x + 4)

      word_same : (u : ℕ) → (plain p l).text x ≡ Some u → (plain p l).word a ≡ Some u → v ≡ w
      word_same u t m = let e : Some v ≡ Some u = sym word ∙ m in let f : Some w ≡ Some u = sym text ∙ t in cc

      word_reads : (i : Instr) → read (plain p l).word a ≡ Some i → decoded v ≡ Some i
      word_reads i e = sym (read_is (plain p l).word a v (decoded v) word refl) ∙ e

      text_reads : (i : Instr) → read (plain p l).text x ≡ Some i → decoded w ≡ Some i
      text_reads i e = sym (read_is (plain p l).text x w (decoded w) text refl) ∙ e

      text_as : (u : ℕ) (i : Instr) → (plain p l).text x ≡ Some u → decoded u ≡ Some i → decoded w ≡ Some i
      text_as u i t d = text_reads i (read_is (plain p l).text x u (Some i) t d)

      kept_row : (i : Instr) → rows.IsKept i → v ≡ w → Next (plain p l) a (x + 4) → RowOf i
      kept_row (instr.Auipc rd imm) k e n = inl (k, e, n)
      kept_row (instr.Jal rd off) k e n = absurd k
      kept_row (instr.Jalr rd rs off) k e n = absurd k
      kept_row (instr.Branch b rs1 rs2 off) k e n = absurd k
      kept_row (instr.Alu op rd rs1 rs2) k e n = (e, n)
      kept_row _ k e n = (e, n)

      as_read : (i j : Instr) → decoded w ≡ Some i → decoded w ≡ Some j → RowOf i → RowOf j
      as_read i j d e r = let same : i ≡ j = (let f : Some i ≡ Some j = sym d ∙ e in cc) in subst RowOf same r

      pub row_of : (i : Instr) → decoded w ≡ Some i → StartRow (plain p l) a x → RowOf i
      row_of i d (no_word t m) = let f : Some w ≡ None = sym text ∙ t in absurd (cc)
      row_of i d (unread u t n m) = let f : Some w ≡ Some u = sym text ∙ t in absurd (none_some (sym d ∙ same f ∙ n))
        where
          same : Some w ≡ Some u → decoded w ≡ decoded u
          same e = let f : w ≡ u = cc in ap decoded f

          none_some : Some i ≡ None → ⊥
          none_some e = cc
      row_of i d (kept u j t r k m n) = as_read j i (text_as u j t r) d (kept_row j k (word_same u t m) n)
      row_of i d (address_in_place rd imm e t m n) = absurd (apart e)
      row_of i d (address_moved rd high m) = as_read (instr.Auipc rd m.imm) i (text_reads _ m.text) d (inr (high, m))
      row_of i d (jump rd off aim t m s n) = as_read (instr.Jal rd off) i (text_reads _ t) d (aim, word_reads _ m, s.stands, n)
      row_of i d (site rd to off aim t c m s n) =
          let e = site_target p is_kept x w rd to off c text (text_reads _ t) in
          as_read (instr.Jal rd off) i (text_reads _ t) d (aim, word_reads _ m, at_start (s ∙ ap (λ n. Some (Start n)) (sym e)), n)
      row_of i d (jump_register u rd rs off t r m n) = as_read (instr.Jalr rd rs off) i (text_as u _ t r) d (inl (word_same u t m), n)
      row_of i d (call_second rd rs to off aim t c m s n) = as_read (instr.Jalr rd rs off) i (text_reads _ t) d (inr (aim, to, word_reads _ m, c, s), n)
      row_of i d (branch k rs1 rs2 off aim t m s n) = as_read (instr.Branch k rs1 rs2 off) i (text_reads _ t) d (aim, inl (word_reads _ m, s.stands, n.stands))
      row_of i d (branch_inverted k rs1 rs2 off aim t m s n) = as_read (instr.Branch k rs1 rs2 off) i (text_reads _ t) d (aim, inr (word_reads _ m, s.stands, n.stands))

      kept_full : v ≡ w → Next (plain p l) a (x + 4) → kept_test p l a x w v ≡ true
      unfolding kept_test
      kept_full e n = and_from (v == w) (stands p l (a + 4) (x + 4)) (eq-eqb v w e) (next_full (x + 4) n)

      sum_full : (rd high value : ℕ) (low : ℤ) (j : Option Instr) → j ≡ Some (instr.AluImm ops.Addi rd rd low) → target (made_by a high) low ≡ value → sum_test p l a rd high value j ≡ true
      unfolding sum_test
      sum_full rd high value low j e h =
          rw e (and_from ((rd == rd) && (rd == rd)) (target (made_by a high) low == value) (and_from (rd == rd) (rd == rd) (eq-eqb rd rd refl) (eq-eqb rd rd refl)) (eq-eqb _ value h))

      moved_full : (rd imm high : ℕ) → decoded w ≡ Some (instr.Auipc rd imm) → MovedRow (plain p l) a x rd high → moved_test p l a x rd imm (decoded v) ≡ true
      unfolding moved_test
      moved_full rd imm high d m = rw (word_reads _ m.first) (and_from _ _ (and_from _ _ (and_from _ _ (eq-eqb rd rd refl) is_mid_here) (sum_full rd high (made_by x imm) m.low _ second_reads value_is)) last)
        where
          mid_at : point_in l (a + 4) ≡ Some (Mid x)
          mid_at = point_back p l (a + 4) (Mid x) (home_back p l (a + 4) (ap is_some (m.home ∙ here_home_is p l laid within a q at))) m.mid

          is_mid_here : is_mid (point_in l (a + 4)) x ≡ true
          is_mid_here = rw mid_at (eq-eqb x x refl)

          second_reads : read (item_at l.base l.words) (a + 4) ≡ Some (instr.AluImm ops.Addi rd rd m.low)
          second_reads = sym (read_same (plain p l).word (item_at l.base l.words) (a + 4) (here_word_is p l laid within (a + 4) (Mid x) mid_at)) ∙ m.second

          same_imm : m.imm ≡ imm
          same_imm = let e : Some (instr.Auipc rd m.imm) ≡ Some (instr.Auipc rd imm) = sym (text_reads _ m.text) ∙ d in cc

          value_is : target (made_by a high) m.low ≡ made_by x imm
          value_is = m.value ∙ ap (made_by x) same_imm

          last : stands p l (a + 8) (x + 4) ≡ true
          last = let e : a + 4 + 4 ≡ a + 8 = omega arith in subst (λ (n : ℕ). stands p l n (x + 4) ≡ true) e (stands_full (a + 4 + 4) (x + 4) m.next.stands)

      second_full : (rd to : ℕ) (aim : ℤ) (j : Option Instr) → j ≡ Some (instr.Jal rd aim) → (plain p l).second x ≡ Some to → (plain p l).point (target a aim) ≡ Some (Start to) → second_test p l a x rd j ≡ true
      unfolding second_test starts_at
      second_full rd to aim j e c s = rw (e, c) (and_from (rd == rd) (starts p l (target a aim) to) (eq-eqb rd rd refl) (starts_full (target a aim) to s))

      branch_full : (k : Cond) (rs1 rs2 : ℕ) (off aim : ℤ) (j : Option Instr)
          → ((j ≡ Some (instr.Branch k rs1 rs2 aim)) × StandsFor (plain p l) (target a aim) (target x off) × StandsFor (plain p l) (a + 4) (x + 4))
          ⊎ ((j ≡ Some (instr.Branch (opposite k) rs1 rs2 aim)) × StandsFor (plain p l) (target a aim) (x + 4) × StandsFor (plain p l) (a + 4) (target x off))
          → branch_test p l a x k rs1 rs2 off j ≡ true
      unfolding branch_test
      branch_full k rs1 rs2 off aim j (inl h) =
          rw h.0 (and_from ((rs1 == rs1) && (rs2 == rs2)) _ (and_from (rs1 == rs1) (rs2 == rs2) (eq-eqb rs1 rs1 refl) (eq-eqb rs2 rs2 refl))
          (or_left _ _ (and_from _ _ (and_from _ _ (same_full k) (stands_full _ _ h.1)) (stands_full _ _ h.2))))
      branch_full k rs1 rs2 off aim j (inr h) =
          rw h.0 (and_from ((rs1 == rs1) && (rs2 == rs2)) _ (and_from (rs1 == rs1) (rs2 == rs2) (eq-eqb rs1 rs1 refl) (eq-eqb rs2 rs2 refl))
          (or_right _ _ (and_from _ _ (and_from _ _ (same_full (opposite k)) (stands_full _ _ h.1)) (stands_full _ _ h.2))))

      address_full : (rd imm : ℕ) → decoded w ≡ Some (instr.Auipc rd imm) → RowOf (instr.Auipc rd imm) → (if rd == 0 then kept_test p l a x w v else moved_test p l a x rd imm (decoded v)) ≡ true
      address_full rd imm d (inl h) = rw (eq-eqb rd 0 h.0) (kept_full h.1 h.2)
      address_full rd imm d (inr h) = by_test (rd == 0) refl
        where
          by_test : (b : Bool) → rd == 0 ≡ b → (if b then kept_test p l a x w v else moved_test p l a x rd imm (decoded v)) ≡ true
          by_test true e = absurd (h.1.is_written (eqb-true rd 0 e))
          by_test false e = moved_full rd imm h.0 d h.1

      jump_full : (rd : ℕ) (off aim : ℤ) (j : Option Instr) → j ≡ Some (instr.Jal rd aim) → StandsFor (plain p l) (target a aim) (target x off) → (rd ≢ 0 → Next (plain p l) a (x + 4)) → jump_test p l a x rd off j ≡ true
      unfolding jump_test
      jump_full rd off aim j e s n =
          rw e (and_from ((rd == rd) && stands p l (target a aim) (target x off)) (returns p l a rd (x + 4))
          (and_from (rd == rd) (stands p l (target a aim) (target x off)) (eq-eqb rd rd refl) (stands_full (target a aim) (target x off) s)) (returns_full rd (x + 4) n))

      register_full : (rd : ℕ) → (v ≡ w) ⊎ (second_test p l a x rd (decoded v) ≡ true) → (rd ≢ 0 → Next (plain p l) a (x + 4)) → ((v == w) || second_test p l a x rd (decoded v)) && returns p l a rd (x + 4) ≡ true
      register_full rd (inl e) n = and_from _ _ (or_left (v == w) (second_test p l a x rd (decoded v)) (eq-eqb v w e)) (returns_full rd (x + 4) n)
      register_full rd (inr e) n = and_from _ _ (or_right (v == w) (second_test p l a x rd (decoded v)) e) (returns_full rd (x + 4) n)

      by_row : (i : Instr) → decoded w ≡ Some i → RowOf i → row_test p l a x w i v ≡ true
      unfolding row_test
      by_row (instr.Auipc rd imm) d r = address_full rd imm d r
      by_row (instr.Jal rd off) d r = jump_full rd off r.0 (decoded v) r.1 r.2 r.3
      by_row (instr.Jalr rd rs off) d (inl e, n) = register_full rd (inl e) n
      by_row (instr.Jalr rd rs off) d (inr h, n) = register_full rd (inr (second_full rd h.1 h.0 (decoded v) h.2 h.3 h.4)) n
      by_row (instr.Branch k rs1 rs2 off) d r = branch_full k rs1 rs2 off r.0 (decoded v) r.1
      by_row (instr.Alu op rd rs1 rs2) d r = kept_full r.0 r.1
      by_row i d r = kept_full r.0 r.1

      pub row_full : (i : Instr) → decoded w ≡ Some i → StartRow (plain p l) a x → row_test p l a x w i v ≡ true
      row_full i d r = by_row i d (row_of i d r)

      -- an AUIPC whose register isn't x0 is made in two words
      pub moved_of : (rd imm : ℕ) → decoded w ≡ Some (instr.Auipc rd imm) → rd ≢ 0 → StartRow (plain p l) a x → (high : ℕ) × MovedRow (plain p l) a x rd high
      moved_of rd imm d n r = by_row (row_of (instr.Auipc rd imm) d r)
        where
          by_row : RowOf (instr.Auipc rd imm) → (high : ℕ) × MovedRow (plain p l) a x rd high
          by_row (inl h) = absurd (n h.0)
          by_row (inr h) = h
