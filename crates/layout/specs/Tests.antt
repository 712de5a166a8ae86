-- Tests of one word of a layout that stands alone over the original text. That they tell the rows exactly is what `renders` ensures.
use Rattle.std.specs.Prelude.{ℕ, ℤ, ◌+◌, ◌-◌, Bool, true, false, not, ◌==◌, ◌&&◌, ◌||◌, nat_le, List, Option, Some, None, is_some, position, if◌then◌else◌}
use Rattle.std.specs.Option.{option_and_then}
use Rattle.rv_isa.specs.Conditions.{opposite}
use Rattle.rv_isa.specs.Decoded.{decoded}
use Rattle.rv_isa.specs.declared.instr.Cond.{Cond}
use Rattle.rv_isa.specs.declared.instr.Cond.TheVariants.{Eq, Ne, Lt, Ge, Ltu, Geu}
use Rattle.rv_isa.specs.declared.instr.ImmOp.TheVariants.{Addi}
use Rattle.rv_isa.specs.declared.instr.Instr.{Instr}
use Rattle.rv_isa.specs.declared.instr.Instr.TheVariants.{AluImm, Auipc, Jal, Jalr, Branch}
use Rattle.image.specs.declared.ranges.Aim.{Aim}
use Rattle.image.specs.Aims.{aim_place}
use Rattle.image.specs.Targets.{target, made_by}
use Rattle.image.specs.Texts.{word_at}
use Rattle.image.specs.Picture.{Picture}
use Rattle.layout.specs.declared.point.Point.{Point}
use Rattle.layout.specs.declared.point.Point.TheVariants.{Start, Hop, Mid}
use Rattle.layout.specs.Laid.{Laid, item_at, point_in}
use Rattle.layout.specs.Points.{site_of, second_of, start_of, in_range, read}
use Rattle.layout.specs.Alone.{called_at}

abbrev pub same_cond : Cond → Cond → Bool
same_cond Eq Eq = true
same_cond Ne Ne = true
same_cond Lt Lt = true
same_cond Ge Ge = true
same_cond Ltu Ltu = true
same_cond Geu Geu = true
same_cond _ _ = false

abbrev pub is_number : Option ℕ → ℕ → Bool
is_number None n = false
is_number (Some m) n = m == n

abbrev pub stands_as : Option Point → ℕ → Bool
stands_as (Some (Start y)) x = y == x
stands_as (Some (Hop y)) x = y == x
stands_as _ x = false

abbrev pub starts_as : Option Point → ℕ → Bool
starts_as (Some (Start y)) x = y == x
starts_as _ x = false

abbrev pub is_mid : Option Point → ℕ → Bool
is_mid (Some (Mid y)) x = y == x
is_mid _ x = false

-- an AUIPC of a register other than x0
abbrev pub makes_address : Option Instr → Bool
makes_address (Some (Auipc rd imm)) = not (rd == 0)
makes_address _ = false

-- the word at an address is listed, if it is a call
abbrev pub listed : Option ℕ → List Aim → ℕ → Bool
listed None list a = true
listed (Some g) list a = is_some (position (λ s. aim_place s == a) list)

module _ (p : Picture) (l : Laid) where
  unfoldable pub point_alone : ℕ → Option Point
  point_alone t = if in_range p.region t then point_in l t else Some (Start t)

  unfoldable pub stands : (t y : ℕ) → Bool
  stands t y = stands_as (point_alone t) y

  unfoldable pub starts : (t y : ℕ) → Bool
  starts t y = starts_as (point_alone t) y

  -- the word after a jump that keeps a link in rd goes on at y
  unfoldable pub returns : (a rd y : ℕ) → Bool
  returns a rd y = (rd == 0) || stands (a + 4) y

  unfoldable pub kept_test : (a x w v : ℕ) → Bool
  kept_test a x w v = (v == w) && stands (a + 4) (x + 4)

  -- an ADDI of rd after an AUIPC at a makes the value
  unfoldable pub sum_test : (a rd high value : ℕ) → Option Instr → Bool
  sum_test a rd high value (Some (AluImm Addi d s low)) = (d == rd) && (s == rd) && (target (made_by a high) low == value)
  sum_test a rd high value _ = false

  unfoldable pub moved_test : (a x rd imm : ℕ) → Option Instr → Bool
  moved_test a x rd imm (Some (Auipc r high)) =
      (r == rd) && is_mid (point_in l (a + 4)) x && sum_test a rd high (made_by x imm) (read (item_at l.base l.words) (a + 4)) && stands (a + 8) (x + 4)
  moved_test a x rd imm _ = false

  unfoldable pub jump_test : (a x rd : ℕ) (off : ℤ) → Option Instr → Bool
  jump_test a x rd off (Some (Jal r aim)) = (r == rd) && stands (target a aim) (target x off) && returns a rd (x + 4)
  jump_test a x rd off _ = false

  unfoldable pub starts_at : ℕ → Option ℕ → Bool
  starts_at t None = false
  starts_at t (Some y) = starts t y

  unfoldable pub second_test : (a x rd : ℕ) → Option Instr → Bool
  second_test a x rd (Some (Jal r aim)) = (r == rd) && starts_at (target a aim) (option_and_then (start_of p) (second_of p x))
  second_test a x rd _ = false

  unfoldable pub branch_test : (a x : ℕ) → Cond → (rs1 rs2 : ℕ) (off : ℤ) → Option Instr → Bool
  branch_test a x k rs1 rs2 off (Some (Branch d r1 r2 aim)) =
      (r1 == rs1) && (r2 == rs2)
      && ((same_cond d k && stands (target a aim) (target x off) && stands (a + 4) (x + 4))
      || (same_cond d (opposite k) && stands (target a aim) (x + 4) && stands (a + 4) (target x off)))
  branch_test a x k rs1 rs2 off _ = false

  -- the word at x is w and reads as an instruction, the word at a is v
  unfoldable pub row_test : (a x w : ℕ) → Instr → (v : ℕ) → Bool
  row_test a x w (Auipc rd imm) v = if rd == 0 then kept_test a x w v else moved_test a x rd imm (decoded v)
  row_test a x w (Jal rd off) v = jump_test a x rd off (decoded v)
  row_test a x w (Jalr rd rs off) v = ((v == w) || second_test a x rd (decoded v)) && returns a rd (x + 4)
  row_test a x w (Branch k rs1 rs2 off) v = branch_test a x k rs1 rs2 off (decoded v)
  row_test a x w _ v = kept_test a x w v

  unfoldable pub start_by : (a x w : ℕ) → Option Instr → Option ℕ → Bool
  start_by a x w (Some i) (Some v) = row_test a x w i v
  start_by a x w _ _ = false

  unfoldable pub start_over : (a x : ℕ) → Option ℕ → Bool
  start_over a x None = false
  start_over a x (Some w) = start_by a x w (decoded w) (item_at l.base l.words a)

  unfoldable pub start_test : (a x : ℕ) → Bool
  start_test a x = start_over a x (word_at p.texts x)

  unfoldable pub hop_by : (a x : ℕ) → Option Instr → Bool
  hop_by a x (Some (Jal r aim)) = (r == 0) && starts (target a aim) x
  hop_by a x _ = false

  unfoldable pub hop_test : (a x : ℕ) → Bool
  hop_test a x = hop_by a x (read (item_at l.base l.words) a)

  unfoldable pub mid_test : (m x : ℕ) → Bool
  mid_test m x = nat_le 4 m && starts_as (point_in l (m - 4)) x && makes_address (read (word_at p.texts) x)

  unfoldable pub point_test : ℕ → Option Point → Bool
  point_test a None = true
  point_test a (Some (Start x)) = start_test a x
  point_test a (Some (Hop x)) = hop_test a x
  point_test a (Some (Mid x)) = mid_test a x

  unfoldable pub word_test : ℕ → Bool
  word_test a =
      point_test a (point_in l a)
      && listed (called_at (site_of p) (point_in l a)) l.sites a
      && listed (called_at (second_of p) (point_in l a)) l.pairs a

  unfoldable pub site_test : Aim → Bool
  site_test s = is_number (called_at (site_of p) (point_in l s.at)) s.func

  unfoldable pub pair_test : Aim → Bool
  pair_test s = is_number (called_at (second_of p) (point_in l s.at)) s.func
