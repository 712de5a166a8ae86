-- What an indirect jump rests on is what stands.
use Rattle.std.proofs.Common.{◌≡◌, ℕ, ◌%◌, ◌==◌, Bool, true, false, cond, refl, sym, ap, ◌∙◌}
use Rattle.std.specs.Prelude.{Option, Some, None}
use Rattle.rv_isa.specs.declared.instr.Instr.{Instr}
use Rattle.image.specs.Picture.{Picture}
use Rattle.link_tags.specs.declared.value.Tag.{Tag}
use Rattle.guest_mem.specs.Memory.{blank}
use Rattle.hart.specs.declared.hart.Hart.{Hart}
use Rattle.hart.specs.Harts.{jumped}
use Rattle.hart.specs.Effects.{Effect, next, write, jump, call, trap, link_use, effect_of, hart_after, is_private}
use Rattle.layout.specs.Points.{Code}
use Rattle.machine.specs.Steps.{is_indirect}
use Rattle.sim_laws.specs.Origins.{origin}
use Rattle.ahead.specs.declared.note.Aimed.{Aimed}
use Rattle.ahead.specs.Notes.{first_apart, compared_aim}
use Rattle.ahead.specs.Making.{aimed, lands, jump_gone, gone_by, gone}
use Rattle.ahead.proofs.Agreeing.{aim_seen}
use Rattle.ahead.proofs.Alike.{given, some_pair}

module _ (p : Picture) (c : Code) (k new : Hart) (aim : Option Aimed) where
  given_seen : (t : Bool) (x : Hart) (a : Option Aimed) → first_apart (compared_aim p c a) ≡ None → given t x a ≡ given true new aim → first_apart (compared_aim p c aim) ≡ None
  given_seen false x a s e = absurd (cc)
  given_seen true x a s e = ap (λ (o : Option Aimed). first_apart (compared_aim p c o)) (sym (some_pair x new a aim e).1) ∙ s

  jump_seen : (indirect : Bool) (to : ℕ) (by : Tag) (link : Option ℕ) → jump_gone (origin c) p indirect to by link k ≡ given true new aim → first_apart (compared_aim p c aim) ≡ None
  jump_seen true to by link e = given_seen (lands (aimed (origin c) p to by)) (jumped k to link) (Some (aimed (origin c) p to by)) (aim_seen p c to by) e
  jump_seen false to by link e = given_seen (to % 4 == 0) (jumped k to link) None refl e

  seen_by : (indirect : Bool) (e : Effect) → gone_by (origin c) p indirect e k ≡ given true new aim → first_apart (compared_aim p c aim) ≡ None
  seen_by indirect (next rd value held) e = given_seen true (hart_after (next rd value held) k) None refl e
  seen_by indirect (jump to by link) e = jump_seen indirect to by link e
  seen_by indirect (write at width v rd value held) e = absurd (cc)
  seen_by indirect call e = absurd (cc)
  seen_by indirect (trap cause value) e = absurd (cc)
  seen_by indirect (link_use rule) e = absurd (cc)

pub gone_seen : (p : Picture) (c : Code) (i : Instr) (k new : Hart) (aim : Option Aimed) → gone (origin c) p i k ≡ given true new aim → first_apart (compared_aim p c aim) ≡ None
unfolding gone
gone_seen p c i k new aim e = by_test (is_private i) e
  where
    by_test : (b : Bool) → cond b (gone_by (origin c) p (is_indirect i) (effect_of (origin c) blank k i) k) None ≡ given true new aim → first_apart (compared_aim p c aim) ≡ None
    by_test false e = absurd (cc)
    by_test true e = seen_by p c k new aim (is_indirect i) (effect_of (origin c) blank k i) e
