-- The word and the point at an address tell whether a step there is one of layouts alone.
use Rattle.std.proofs.Common.{◌≡◌, ℕ, Bool, true, false, refl, sym, ap, ◌∙◌}
use Rattle.std.specs.Prelude.{Option, Some, None}
use Rattle.rv_isa.specs.Decoded.{decoded}
use Rattle.rv_isa.specs.declared.instr.Instr.{Instr}
use Rattle.layout.specs.declared.point.Point.{Point}
use Rattle.layout.specs.declared.point.Point.TheVariants.{Start, Hop, Mid}
use Rattle.layout.specs.Points.{Code, read}
use Rattle.layout.specs.Rows as rows
use Rattle.layout.specs.Rows.{StartRow, no_word, unread, kept, address_in_place, address_moved, jump_register, call_second, branch, branch_inverted, Renders}
use Rattle.layout.proofs.TextRows.{read_is}
use Rattle.sim_laws.specs.Origins.{is_moved_address, is_layout_point, is_layout_step}
use Rattle.sim_laws.proofs.OneWord.{none_read}
use Rattle.ahead.specs.Making.{is_layout_at}

module _ (c : Code) (a : ℕ) where
  by_reads : (x : ℕ) (i j : Option Instr) → read c.text x ≡ i → read c.word a ≡ j → is_moved_address a x i ≡ is_moved_address a x j
      → is_moved_address a x (read c.text x) ≡ is_moved_address a x (read c.word a)
  by_reads x i j t w e = ap (is_moved_address a x) t ∙ e ∙ sym (ap (is_moved_address a x) w)

  -- the original word and the word now tell the same
  pub row_tells : (x : ℕ) → StartRow c a x → is_moved_address a x (read c.text x) ≡ is_moved_address a x (read c.word a)
  row_tells x (no_word t w) = by_reads x None None (none_read c.text x t) (none_read c.word a w) refl
  row_tells x (unread w t d u) = by_reads x None None (read_is c.text x w None t d) (read_is c.word a w None u d) refl
  row_tells x (kept w i t d k u n) = by_reads x (Some i) (Some i) (read_is c.text x w (Some i) t d) (read_is c.word a w (Some i) u d) refl
  row_tells x (address_in_place rd imm e t w n) = by_reads x _ _ t w refl
  row_tells x (address_moved rd high m) = by_reads x _ _ m.text m.first refl
  row_tells x (rows.jump rd off aim t w m n) = by_reads x _ _ t w refl
  row_tells x (rows.site rd to off aim t e w m n) = by_reads x _ _ t w refl
  row_tells x (jump_register w rd rs off t d u n) = by_reads x _ _ (read_is c.text x w _ t d) (read_is c.word a w _ u d) refl
  row_tells x (call_second rd rs to off aim t e w m n) = by_reads x _ _ t w refl
  row_tells x (branch k rs1 rs2 off aim t w m n) = by_reads x _ _ t w refl
  row_tells x (branch_inverted k rs1 rs2 off aim t w m n) = by_reads x _ _ t w refl

  point_tells : Renders c → (word : ℕ) (q : Point) → c.word a ≡ Some word → c.point a ≡ Some q → is_layout_point c a (Some q) ≡ is_layout_at a word q
  point_tells r word (Start x) w e = row_tells x (r.starts a x e) ∙ ap (is_moved_address a x) (read_is c.word a word (decoded word) w refl)
  point_tells r word (Hop x) w e = refl
  point_tells r word (Mid x) w e = refl

  pub layout_told : Renders c → (word : ℕ) (q : Point) → c.word a ≡ Some word → c.point a ≡ Some q → is_layout_step c a ≡ is_layout_at a word q
  unfolding is_layout_step
  layout_told r word q w e = ap (is_layout_point c a) e ∙ point_tells r word q w e
