-- Each address outside the region renders itself.
use Rattle.std.proofs.Common.{◌≡◌, ℕ, ◌+◌, false, refl, ◌∙◌, ap, inl, arith}
use Rattle.std.specs.Prelude.{Option, Some, None, ℤ, option_and_then}
use Rattle.rv_isa.specs.Decoded.{decoded}
use Rattle.rv_isa.specs.declared.instr.Instr.{Instr}
use Rattle.rv_isa.specs.declared.instr.Instr.TheVariants as instr
use Rattle.image.specs.Targets.{target}
use Rattle.image.specs.Texts.{word_at}
use Rattle.image.specs.Picture.{Picture, IsKept}
use Rattle.layout.specs.declared.point.Point.TheVariants.{Start}
use Rattle.layout.specs.Points.{Code, StandsFor, at_start, in_range, read}
use Rattle.layout.specs.Rows.{Next, AimsAt, StartRow, no_word, unread, kept, address_in_place, jump, jump_register, branch}
use Rattle.layout.proofs.TextWords.{text_outside, aimed_outside}

-- what a word reads as
pub read_is : (words : ℕ → Option ℕ) (a w : ℕ) (o : Option Instr) → words a ≡ Some w → decoded w ≡ o → read words a ≡ o
unfolding read
read_is words a w o e r = rw e r

pub read_same : (f g : ℕ → Option ℕ) (a : ℕ) → f a ≡ g a → read f a ≡ read g a
unfolding read
read_same f g a e = ap (option_and_then decoded) e

pub read_back : (words : ℕ → Option ℕ) (a : ℕ) (i : Instr) → read words a ≡ Some i → (w : ℕ) × (words a ≡ Some w) × (decoded w ≡ Some i)
unfolding read
read_back words a i e = by_word (words a) refl e
  where
    by_word : (o : Option ℕ) → words a ≡ o → option_and_then decoded o ≡ Some i → (w : ℕ) × (words a ≡ Some w) × (decoded w ≡ Some i)
    by_word None k e = absurd (cc)
    by_word (Some w) k e = (w, k, e)

-- outside the region code is the image's own
pub record IsOutside (p : Picture) (c : Code) : Type 0 where
  pub text : (x : ℕ) → c.text x ≡ word_at p.texts x
  pub point : (y : ℕ) → in_range p.region y ≡ false → c.point y ≡ Some (Start y)
  pub home : (y : ℕ) → in_range p.region y ≡ false → c.home y ≡ None

module _ (p : Picture) (is_kept : IsKept p) (c : Code) (out : IsOutside p c) (x : ℕ) (same : c.word x ≡ word_at p.texts x) where
  stands : (y : ℕ) → in_range p.region y ≡ false → StandsFor c y y
  stands y e = at_start (out.point y e)

  module _ (w : ℕ) (is : word_at p.texts x ≡ Some w) where
    next : Next c x (x + 4)
    next =
        let e = text_outside p is_kept x w is (x + 4) (omega arith) (omega arith) in
        record { stands = stands (x + 4) e; near = inl (out.home (x + 4) e) }

    text_is : c.text x ≡ Some w
    text_is = out.text x ∙ is

    word_is : c.word x ≡ Some w
    word_is = same ∙ is

    aims : (off : ℤ) → in_range p.region (target x off) ≡ false → AimsAt c x off (target x off)
    aims off e = record { stands = stands (target x off) e; near = inl (out.home (target x off) e) }

    by_instr : (i : Instr) → decoded w ≡ Some i → StartRow c x x
    by_instr (instr.Auipc rd imm) r = address_in_place rd imm refl (read_is c.text x w _ text_is r) (read_is c.word x w _ word_is r) next
    by_instr (instr.Jal rd off) r =
        jump rd off off (read_is c.text x w _ text_is r) (read_is c.word x w _ word_is r) (aims off (aimed_outside p is_kept x w (instr.Jal rd off) (target x off) is r refl)) (λ n. next)
    by_instr (instr.Jalr rd rs off) r = jump_register w rd rs off text_is r word_is (λ n. next)
    by_instr (instr.Branch k rs1 rs2 off) r =
        branch k rs1 rs2 off off (read_is c.text x w _ text_is r) (read_is c.word x w _ word_is r)
        (aims off (aimed_outside p is_kept x w (instr.Branch k rs1 rs2 off) (target x off) is r refl)) next
    by_instr (instr.Alu op rd rs1 rs2) r = kept w _ text_is r tt word_is next
    by_instr i r = kept w i text_is r tt word_is next

    by_read : (o : Option Instr) → decoded w ≡ o → StartRow c x x
    by_read None r = unread w text_is r word_is
    by_read (Some i) r = by_instr i r

  by_word : (o : Option ℕ) → word_at p.texts x ≡ o → StartRow c x x
  by_word None e = no_word (out.text x ∙ e) (same ∙ e)
  by_word (Some w) e = by_read w e (decoded w) refl

  -- an address outside the region is a Start of itself and renders itself
  pub text_row : StartRow c x x
  text_row = by_word (word_at p.texts x) refl
