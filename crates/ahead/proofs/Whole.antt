-- The original place of an address is a whole word's exactly where the address is.
use Rattle.std.proofs.Common.{◌≡◌, ℕ, ◌%◌, ◌==◌, Bool, true, false, refl, sym, ap, ◌∙◌}
use Rattle.std.specs.Prelude.{Option, Some, None, IsSome}
use Rattle.std.proofs.lemmas.Bool.{eq-eqb, false≢true}
use Rattle.rv_isa.specs.declared.instr.Instr.{Instr}
use Rattle.image.specs.Picture.{Picture}
use Rattle.image.specs.Picture as image
use Rattle.layout.specs.declared.point.Point.{Point}
use Rattle.layout.specs.declared.point.Point.TheVariants.{Start, Hop, Mid}
use Rattle.layout.specs.Points.{Code, in_range, read}
use Rattle.layout.specs.Rows.{Renders}
use Rattle.layout.proofs.TextRows.{read_back}
use Rattle.layout.proofs.TextWords.{text_whole}
use Rattle.sim_laws.specs.Origins.{origin, origin_of}
use Rattle.sim_laws.specs.Codes.{IsCodeOf}

module _ (p : Picture) (c : Code) (kept : image.IsKept p) (code : IsCodeOf p c) (r : Renders c) where
  read_whole : (x : ℕ) (o : Option Instr) → read c.text x ≡ o → IsSome o → x % 4 ≡ 0
  read_whole x None e s = absurd (false≢true s)
  read_whole x (Some i) e s = let b = read_back c.text x i e in text_whole p kept x b.0 (sym (code.text x) ∙ b.1)

  some_point : (a : ℕ) (q : Point) → c.point a ≡ Some q → IsSome (c.point a)
  some_point a q e = rw e refl

  point_whole : (a : ℕ) (q : Point) → in_range p.region a ≡ true → c.point a ≡ Some q → origin_of a (Some q) % 4 ≡ 0
  point_whole a (Start x) inside e = read_whole x (read c.text x) refl (r.reads a x (code.lives a inside (some_point a (Start x) e)) e)
  point_whole a (Hop x) inside e = code.hops a x e
  point_whole a (Mid x) inside e = let m = r.mids a x e in read_whole x (Some _) m.moved.text refl

  both_whole : (a x : ℕ) → a % 4 ≡ 0 → x % 4 ≡ 0 → (x % 4 == 0) ≡ (a % 4 == 0)
  both_whole a x e f = eq-eqb (x % 4) 0 f ∙ sym (eq-eqb (a % 4) 0 e)

  whole_in : (a : ℕ) (o : Option Point) → in_range p.region a ≡ true → c.point a ≡ o → (origin_of a o % 4 == 0) ≡ (a % 4 == 0)
  whole_in a None inside e = refl
  whole_in a (Some q) inside e = both_whole a (origin_of a (Some q)) (code.whole a inside (some_point a q e)) (point_whole a q inside e)

  whole_at : (a : ℕ) (b : Bool) → in_range p.region a ≡ b → (origin_of a (c.point a) % 4 == 0) ≡ (a % 4 == 0)
  whole_at a true inside = whole_in a (c.point a) inside refl
  whole_at a false out = ap (λ (o : Option Point). origin_of a o % 4 == 0) (code.point a out)

  pub origin_whole : (a : ℕ) → (origin c a % 4 == 0) ≡ (a % 4 == 0)
  unfolding origin
  origin_whole a = whole_at a (in_range p.region a) refl
