-- The first register with a link, from one register on.
use Rattle.std.proofs.Common.{◌≡◌, ℕ, suc, ◌+◌, ◌-◌, ◌<◌, false, List, refl, arith}
use Rattle.link_tags.specs.declared.value.Tag.{Tag}
use Rattle.link_tags.specs.declared.value.Tag.TheVariants.{Plain, Link}
use Rattle.link_tags.specs.declared.value.Value.{Value}
use Rattle.link_tags.specs.Values.{is_link}
use Rattle.guest_sys.specs.Services.{registers, held, first_link}

pub not_link : (t : Tag) → (t ≡ Link → ⊥) → is_link t ≡ false
not_link Plain h = refl
not_link Link h = absurd (h refl)

pub registers_step : (regs : List Value) (k end : ℕ) → k < end → is_link (held regs k).tag ≡ false
    → first_link regs (registers k (end - k)) ≡ first_link regs (registers (k + 1) (end - (k + 1)))
registers_step regs k end lt bare =
    let s : end - k ≡ suc (end - (k + 1)) = omega arith in
    rw (s, bare) refl
