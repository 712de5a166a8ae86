-- Values, and what a program sees of them.
use Rattle.std.specs.Prelude.{ℕ, Bool, true, false}
use Rattle.link_tags.specs.declared.value.Tag.{Tag}
use Rattle.link_tags.specs.declared.value.Tag.TheVariants.{Plain, Link}
use Rattle.link_tags.specs.declared.value.Value.{Value}

abbrev pub plain : ℕ → Value
plain n = record { number = n; tag = Plain }

abbrev pub link : ℕ → Value
link n = record { number = n; tag = Link }

abbrev pub is_link : Tag → Bool
is_link Plain = false
is_link Link = true

-- the number that a program sees in a value, where origin is the original number of each link
abbrev pub original : (ℕ → ℕ) → Value → ℕ
original origin v = elim v.tag [ Plain ↦ v.number | Link ↦ origin v.number ]
