-- When the effects of two instructions, on a hart of the moved machine and on the original one, lead to related states.
use Rattle.std.specs.Prelude.{◌≡◌, ◌≢◌, ℕ, ◌%◌, ◌^◌, ◌<◌, Bool, true, false, Option, Some, None}
use Rattle.std.specs.List.{list_any}
use Rattle.rv_isa.specs.declared.instr.Width.{Width}
use Rattle.image.specs.Texts.{covers}
use Rattle.image.specs.Picture.{Picture, is_second}
use Rattle.link_tags.specs.declared.value.Tag.{Tag}
use Rattle.link_tags.specs.declared.value.Tag.TheVariants.{Plain, Link}
use Rattle.link_tags.specs.declared.value.Value.{Value}
use Rattle.link_tags.specs.Values.{plain}
use Rattle.guest_mem.specs.Access.{size_of}
use Rattle.hart.specs.declared.hart.Hart.{Hart}
use Rattle.hart.specs.Harts.{after}
use Rattle.hart.specs.Effects.{Effect, next, write, jump, call, trap, link_use}
use Rattle.layout.specs.Points.{Code, StandsFor}
use Rattle.sim_laws.specs.Related.{Lands, ValuesRelated}

-- Two jumps, each an indirect one or not, to an address by a number or a link: the faults that end the run there are the same, and
-- past them both go on alike.
pub data JumpsRelated (p : Picture) (c : Code) : Bool → (to : ℕ) → Tag → Bool → (u : ℕ) → Tag → Type 0 where
  by_number : {u : ℕ} → JumpsRelated p c true u Plain true u Plain
  by_link : {to u : ℕ} → StandsFor c to u → u < 2 ^ 64 → JumpsRelated p c true to Link true u Link
  direct : {to u : ℕ} → StandsFor c to u → u < 2 ^ 64 → is_second p.pairs u ≡ false → JumpsRelated p c false to Link false u Link
  -- a far call that was made a near one
  by_call : {to u : ℕ} → StandsFor c to u → is_second p.pairs u ≡ false → list_any (covers u) p.texts ≡ true → JumpsRelated p c false to Link true u Plain

-- a word that stands after r's, for one that stands after o's, and where a link to it is kept
abbrev pub Follows : Picture → Code → Hart → Hart → Type 0
Follows p c r o = Lands p c (after r.pc) (after o.pc)

-- i and j: whether r's instruction and o's are indirect jumps
pub data EffectsRelated (p : Picture) (c : Code) (r o : Hart) (i j : Bool) : Effect → Effect → Type 0 where
  both_next : {rd : ℕ} {v w : Value} {held : Option ℕ} → Follows p c r o → (rd ≢ 0 → ValuesRelated p c v w)
      → EffectsRelated p c r o i j (next rd v held) (next rd w held)
  both_write : {at : ℕ} {width : Width} {a b : Value} {rd : ℕ} {v w : Value} {held : Option ℕ} → at % size_of width ≡ 0 → Follows p c r o
      → ValuesRelated p c a b → (rd ≢ 0 → ValuesRelated p c v w) → EffectsRelated p c r o i j (write at width a rd v held) (write at width b rd w held)
  both_jump : {to u : ℕ} {by kind : Tag} {linked : Option ℕ} → JumpsRelated p c i to by j u kind
      → ((rd : ℕ) → linked ≡ Some rd → rd ≢ 0 → Follows p c r o) → EffectsRelated p c r o i j (jump to by linked) (jump u kind linked)
  -- one of them branches where the other goes on
  jump_next : {to : ℕ} → Lands p c to (after o.pc) → EffectsRelated p c r o i j (jump to Link None) (next 0 (plain 0) o.reservation)
  next_jump : {u : ℕ} → Lands p c (after r.pc) u → EffectsRelated p c r o i j (next 0 (plain 0) r.reservation) (jump u Link None)
  both_call : Follows p c r o → EffectsRelated p c r o i j call call
  both_trap : {cause value : ℕ} → EffectsRelated p c r o i j (trap cause value) (trap cause value)
  both_use : {rule : ℕ} → EffectsRelated p c r o i j (link_use rule) (link_use rule)
