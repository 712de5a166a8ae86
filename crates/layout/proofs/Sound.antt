-- A word that passes its test renders what it stands for.
use Rattle.std.proofs.Common.{◌≡◌, ◌≢◌, ℕ, ◌+◌, ◌==◌, Bool, true, false, refl, sym, ◌∙◌, ap, subst, inl, inr, arith}
use Rattle.std.specs.Prelude.{Option, Some, None, ℤ, ◌&&◌, ◌||◌, length, option_and_then, if◌then◌else◌}
use Rattle.std.proofs.lemmas.Bool.{eqb-true, and_parts, or_cases}
use Rattle.rv_isa.specs.Conditions.{opposite}
use Rattle.rv_isa.specs.Decoded.{decoded}
use Rattle.rv_isa.specs.declared.instr.Cond.{Cond}
use Rattle.rv_isa.specs.declared.instr.Cond.TheVariants.{Eq, Ne, Lt, Ge, Ltu, Geu}
use Rattle.rv_isa.specs.declared.instr.ImmOp.TheVariants as imm
use Rattle.rv_isa.specs.declared.instr.Instr.{Instr}
use Rattle.rv_isa.specs.declared.instr.Instr.TheVariants as instr
use Rattle.image.specs.Targets.{target, made_by}
use Rattle.image.specs.Picture.{Picture}
use Rattle.layout.specs.declared.point.Point.{Point}
use Rattle.layout.specs.declared.point.Point.TheVariants.{Start, Hop, Mid}
use Rattle.layout.specs.Laid.{Laid, IsLaid, item_at, point_in}
use Rattle.layout.specs.Points.{StandsFor, at_start, at_hop, read, second_of, start_of}
use Rattle.layout.specs.Rows.{Near, Next, AimsAt, MovedRow, StartRow}
use Rattle.layout.specs.Rows as rows
use Rattle.layout.specs.Alone.{InRegion}
use Rattle.layout.specs.Tests.{same_cond, stands_as, starts_as, is_mid, point_alone, stands, starts, returns, kept_test, sum_test, moved_test, jump_test, starts_at, second_test, branch_test, row_test}
use Rattle.layout.proofs.TextRows.{read_is, read_same}
use Rattle.layout.proofs.Plain.{plain, here_point_is, here_home_is, here_word_is, near_all}

or_true : (r : ℕ) → r == 0 ≡ true → r ≢ 0 → ⊥
or_true r e n = n (eqb-true r 0 e)

same_sound : (c d : Cond) → same_cond c d ≡ true → c ≡ d
same_sound Eq Eq e = refl
same_sound Ne Ne e = refl
same_sound Lt Lt e = refl
same_sound Ge Ge e = refl
same_sound Ltu Ltu e = refl
same_sound Geu Geu e = refl
same_sound _ _ e = absurd (cc)

module _ (p : Picture) (l : Laid) where
  pub stands_sound : (t y : ℕ) → stands p l t y ≡ true → StandsFor (plain p l) t y
  unfolding stands
  stands_sound t y e = by_point (point_alone p l t) refl e
    where
      by_point : (q : Option Point) → point_alone p l t ≡ q → stands_as q y ≡ true → StandsFor (plain p l) t y
      by_point None k e = absurd (cc)
      by_point (Some (Start z)) k e = at_start (k ∙ ap (λ n. Some (Start n)) (eqb-true z y e))
      by_point (Some (Hop z)) k e = at_hop (k ∙ ap (λ n. Some (Hop n)) (eqb-true z y e))
      by_point (Some (Mid z)) k e = absurd (cc)

  pub as_start : (q : Option Point) (y : ℕ) → starts_as q y ≡ true → q ≡ Some (Start y)
  as_start None y e = absurd (cc)
  as_start (Some (Start z)) y e = ap (λ n. Some (Start n)) (eqb-true z y e)
  as_start (Some (Hop z)) y e = absurd (cc)
  as_start (Some (Mid z)) y e = absurd (cc)

  pub starts_sound : (t y : ℕ) → starts p l t y ≡ true → (plain p l).point t ≡ Some (Start y)
  unfolding starts
  starts_sound t y e = as_start (point_alone p l t) y e

  as_mid : (q : Option Point) (y : ℕ) → is_mid q y ≡ true → q ≡ Some (Mid y)
  as_mid None y e = absurd (cc)
  as_mid (Some (Start z)) y e = absurd (cc)
  as_mid (Some (Hop z)) y e = absurd (cc)
  as_mid (Some (Mid z)) y e = ap (λ n. Some (Mid n)) (eqb-true z y e)

  to_start : (t : ℕ) (o : Option ℕ) → starts_at p l t o ≡ true → (to : ℕ) × (o ≡ Some to) × ((plain p l).point t ≡ Some (Start to))
  unfolding starts_at
  to_start t None e = absurd (cc)
  to_start t (Some to) e = (to, refl, starts_sound t to e)

  module _ (laid : IsLaid l) (within : InRegion p l.base (length l.words)) (a : ℕ) (q : Point) (at : point_in l a ≡ Some q) where
    near : (t : ℕ) → Near (plain p l) a t
    near t = near_all p l laid within a q at t

    next : (y : ℕ) → stands p l (a + 4) y ≡ true → Next (plain p l) a y
    next y e = record { stands = stands_sound (a + 4) y e; near = near (a + 4) }

    aims : (off : ℤ) (y : ℕ) → stands p l (target a off) y ≡ true → AimsAt (plain p l) a off y
    aims off y e = record { stands = stands_sound (target a off) y e; near = near (target a off) }

    goes_on : (rd y : ℕ) → returns p l a rd y ≡ true → rd ≢ 0 → Next (plain p l) a y
    unfolding returns
    goes_on rd y e n = elim (or_cases (rd == 0) (stands p l (a + 4) y) e) [ inl z ↦ absurd (or_true rd z n) | inr s ↦ next y s ]

    module _ (x w v : ℕ) (text : (plain p l).text x ≡ Some w) (word : (plain p l).word a ≡ Some v) where
      text_reads : (i : Instr) → decoded w ≡ Some i → read (plain p l).text x ≡ Some i
      text_reads i r = read_is (plain p l).text x w (Some i) text r

      word_reads : (i : Instr) → decoded v ≡ Some i → read (plain p l).word a ≡ Some i
      word_reads i r = read_is (plain p l).word a v (Some i) word r

      kept_sound : (i : Instr) → decoded w ≡ Some i → rows.IsKept i → kept_test p l a x w v ≡ true → StartRow (plain p l) a x
      unfolding kept_test
      kept_sound i r k e =
          let t = and_parts (v == w) (stands p l (a + 4) (x + 4)) e in
          rows.kept w i text r k (word ∙ ap Some (eqb-true v w t.0)) (next (x + 4) t.1)

      jump_sound : (rd : ℕ) (off : ℤ) (j : Option Instr) → decoded w ≡ Some (instr.Jal rd off) → decoded v ≡ j → jump_test p l a x rd off j ≡ true → StartRow (plain p l) a x
      unfolding jump_test
      jump_sound rd off (Some (instr.Jal r aim)) t u e =
          let f = and_parts ((r == rd) && stands p l (target a aim) (target x off)) (returns p l a rd (x + 4)) e in
          let g = and_parts (r == rd) (stands p l (target a aim) (target x off)) f.0 in
          rows.jump rd off aim (text_reads _ t) (word_reads _ (u ∙ ap (λ n. Some (instr.Jal n aim)) (eqb-true r rd g.0))) (aims aim (target x off) g.1) (goes_on rd (x + 4) f.1)
      jump_sound rd off _ t u e = absurd (cc)

      register_sound : (rd rs : ℕ) (off : ℤ) (j : Option Instr) → decoded w ≡ Some (instr.Jalr rd rs off) → decoded v ≡ j
          → ((v == w) || second_test p l a x rd j) && returns p l a rd (x + 4) ≡ true → StartRow (plain p l) a x
      unfolding second_test
      register_sound rd rs off j t u e =
          let f = and_parts ((v == w) || second_test p l a x rd j) (returns p l a rd (x + 4)) e in
          elim (or_cases (v == w) (second_test p l a x rd j) f.0) [
            | inl s ↦ rows.jump_register w rd rs off text t (word ∙ ap Some (eqb-true v w s)) (goes_on rd (x + 4) f.1)
            | inr s ↦ by_jump j u s (goes_on rd (x + 4) f.1)
          ]
        where
          by_jump : (j : Option Instr) → decoded v ≡ j → second_test p l a x rd j ≡ true → (rd ≢ 0 → Next (plain p l) a (x + 4)) → StartRow (plain p l) a x
          by_jump (Some (instr.Jal r aim)) u s n =
              let g = and_parts (r == rd) (starts_at p l (target a aim) (option_and_then (start_of p) (second_of p x))) s in
              let h = to_start (target a aim) (option_and_then (start_of p) (second_of p x)) g.1 in
              rows.call_second rd rs h.0 off aim (text_reads _ t) h.1 (word_reads _ (u ∙ ap (λ n. Some (instr.Jal n aim)) (eqb-true r rd g.0))) h.2 n
          by_jump _ u s n = absurd (cc)

      branch_sound : (k : Cond) (rs1 rs2 : ℕ) (off : ℤ) (j : Option Instr) → decoded w ≡ Some (instr.Branch k rs1 rs2 off) → decoded v ≡ j
          → branch_test p l a x k rs1 rs2 off j ≡ true → StartRow (plain p l) a x
      unfolding branch_test
      branch_sound k rs1 rs2 off (Some (instr.Branch d r1 r2 aim)) t u e =
          let f = and_parts ((r1 == rs1) && (r2 == rs2)) (straight || crossed) e in
          let g = and_parts (r1 == rs1) (r2 == rs2) f.0 in
          let s = eqb-true r1 rs1 g.0 in
          let m = eqb-true r2 rs2 g.1 in
          elim (or_cases straight crossed f.1) [ inl h ↦ same h s m | inr h ↦ other h s m ]
        where
          straight : Bool
          straight = same_cond d k && stands p l (target a aim) (target x off) && stands p l (a + 4) (x + 4)

          crossed : Bool
          crossed = same_cond d (opposite k) && stands p l (target a aim) (x + 4) && stands p l (a + 4) (target x off)

          reads_as : (b : Cond) → d ≡ b → r1 ≡ rs1 → r2 ≡ rs2 → decoded v ≡ Some (instr.Branch b rs1 rs2 aim)
          reads_as b q s m = u ∙ (λ i. Some (instr.Branch (q i) (s i) (m i) aim))

          same : straight ≡ true → r1 ≡ rs1 → r2 ≡ rs2 → StartRow (plain p l) a x
          same h s m =
              let f = and_parts (same_cond d k && stands p l (target a aim) (target x off)) (stands p l (a + 4) (x + 4)) h in
              let g = and_parts (same_cond d k) (stands p l (target a aim) (target x off)) f.0 in
              rows.branch k rs1 rs2 off aim (text_reads _ t) (word_reads _ (reads_as k (same_sound d k g.0) s m)) (aims aim (target x off) g.1) (next (x + 4) f.1)

          other : crossed ≡ true → r1 ≡ rs1 → r2 ≡ rs2 → StartRow (plain p l) a x
          other h s m =
              let f = and_parts (same_cond d (opposite k) && stands p l (target a aim) (x + 4)) (stands p l (a + 4) (target x off)) h in
              let g = and_parts (same_cond d (opposite k)) (stands p l (target a aim) (x + 4)) f.0 in
              rows.branch_inverted k rs1 rs2 off aim (text_reads _ t) (word_reads _ (reads_as (opposite k) (same_sound d (opposite k) g.0) s m)) (aims aim (x + 4) g.1) (next (target x off) f.1)
      branch_sound k rs1 rs2 off _ t u e = absurd (cc)

      sum_sound : (rd high value : ℕ) (j : Option Instr) → sum_test p l a rd high value j ≡ true
          → (low : ℤ) × (j ≡ Some (instr.AluImm imm.Addi rd rd low)) × (target (made_by a high) low ≡ value)
      unfolding sum_test
      sum_sound rd high value (Some (instr.AluImm imm.Addi d s low)) e =
          let f = and_parts ((d == rd) && (s == rd)) (target (made_by a high) low == value) e in
          let g = and_parts (d == rd) (s == rd) f.0 in
          let h = eqb-true d rd g.0 in
          let k = eqb-true s rd g.1 in
          (low, (λ i. Some (instr.AluImm imm.Addi (h i) (k i) low)), eqb-true _ value f.1)
      sum_sound rd high value _ e = absurd (cc)

      moved_sound : (rd imm : ℕ) (j : Option Instr) → decoded w ≡ Some (instr.Auipc rd imm) → rd ≢ 0 → decoded v ≡ j → moved_test p l a x rd imm j ≡ true
          → (high : ℕ) × MovedRow (plain p l) a x rd high
      unfolding moved_test
      moved_sound rd imm (Some (instr.Auipc r high)) t n u e =
          let f = and_parts ((r == rd) && is_mid (point_in l (a + 4)) x && sum_test p l a rd high (made_by x imm) (read (item_at l.base l.words) (a + 4))) (stands p l (a + 8) (x + 4)) e in
          let g = and_parts ((r == rd) && is_mid (point_in l (a + 4)) x) (sum_test p l a rd high (made_by x imm) (read (item_at l.base l.words) (a + 4))) f.0 in
          let h = and_parts (r == rd) (is_mid (point_in l (a + 4)) x) g.0 in
          let m = as_mid (point_in l (a + 4)) x h.1 in
          let s = sum_sound rd high (made_by x imm) (read (item_at l.base l.words) (a + 4)) g.1 in (
            high,
            record {
              imm = imm;
              low = s.0;
              text = text_reads _ t;
              is_written = n;
              first = word_reads _ (u ∙ ap (λ n. Some (instr.Auipc n high)) (eqb-true r rd h.0));
              mid = here_point_is p l laid within (a + 4) (Mid x) m;
              home = here_home_is p l laid within (a + 4) (Mid x) m ∙ sym (here_home_is p l laid within a q at);
              second = read_same (plain p l).word (item_at l.base l.words) (a + 4) (here_word_is p l laid within (a + 4) (Mid x) m) ∙ s.1;
              value = s.2;
              next = after m (stands_sound (a + 8) (x + 4) f.1);
            },
          )
        where
          after : point_in l (a + 4) ≡ Some (Mid x) → StandsFor (plain p l) (a + 8) (x + 4) → Next (plain p l) (a + 4) (x + 4)
          after m s = let e : a + 8 ≡ a + 4 + 4 = omega arith in record { stands = subst (λ (n : ℕ). StandsFor (plain p l) n (x + 4)) e s; near = near_all p l laid within (a + 4) (Mid x) m (a + 4 + 4) }
      moved_sound rd imm _ t n u e = absurd (cc)

      address_sound : (rd imm : ℕ) → decoded w ≡ Some (instr.Auipc rd imm) → (if rd == 0 then kept_test p l a x w v else moved_test p l a x rd imm (decoded v)) ≡ true → StartRow (plain p l) a x
      address_sound rd imm t e = by_test (rd == 0) refl e
        where
          by_test : (b : Bool) → rd == 0 ≡ b → (if b then kept_test p l a x w v else moved_test p l a x rd imm (decoded v)) ≡ true → StartRow (plain p l) a x
          by_test true z e = kept_sound (instr.Auipc rd imm) t (eqb-true rd 0 z) e
          by_test false z e = let m = moved_sound rd imm (decoded v) t (λ n. not_zero z n) refl e in rows.address_moved rd m.0 m.1
            where
              not_zero : rd == 0 ≡ false → rd ≡ 0 → ⊥
              not_zero z n = let k = rw n at z in cc

      pub row_sound : (i : Instr) → decoded w ≡ Some i → row_test p l a x w i v ≡ true → StartRow (plain p l) a x
      unfolding row_test
      row_sound (instr.Auipc rd imm) t e = address_sound rd imm t e
      row_sound (instr.Jal rd off) t e = jump_sound rd off (decoded v) t refl e
      row_sound (instr.Jalr rd rs off) t e = register_sound rd rs off (decoded v) t refl e
      row_sound (instr.Branch k rs1 rs2 off) t e = branch_sound k rs1 rs2 off (decoded v) t refl e
      row_sound (instr.Alu op rd rs1 rs2) t e = kept_sound _ t tt e
      row_sound i t e = kept_sound i t tt e
