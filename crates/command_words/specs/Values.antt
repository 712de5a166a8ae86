-- What the values of arguments write. An argument that isn't given has none.
use Rattle.std.specs.Prelude.{ℕ, Bool, false, ◌&&◌, nat_le, List, codes, Option, Some, None, option_and_then, if◌then◌else◌, bytes_eq}
use Rattle.std.specs.Option.{option_map, option_map_or}
use Rattle.oc_base.specs.declared.range.Range.{Range}
use Rattle.command_words.specs.Numbers.{number_of, region_of}

-- the region that an option's value names, or none where the option isn't given
abbrev pub region_in : Option (List ℕ) → Option (Option Range)
region_in None = Some None
region_in (Some text) = option_map (λ r. Some r) (region_of text)

-- the number that a text writes, where it is from `least` to `most`
abbrev pub between : (least most : ℕ) → ℕ → Option ℕ
between least most n = if nat_le least n && nat_le n most then Some n else None

unfoldable pub number_within : (least most : ℕ) → List ℕ → Option ℕ
number_within least most text = option_and_then (between least most) (number_of text)

-- the number of an option, from `least` to `most`, and the usual one where the option isn't given
abbrev pub number_in : (least most usual : ℕ) → Option (List ℕ) → Option ℕ
number_in least most usual None = Some usual
number_in least most usual (Some text) = number_within least most text

-- the most transfers of a hart that are kept
abbrev pub most_transfers : ℕ
most_transfers = 65536

-- how many transfers of each hart are kept
abbrev pub ring_in : Option (List ℕ) → Option ℕ
ring_in value = number_in 1 most_transfers 4096 value

-- the library gives a flag the value `true` where it was used, and `false` otherwise
abbrev pub is_used : Option (List ℕ) → Bool
is_used value = option_map_or (λ v. bytes_eq v (codes "true")) value false

-- a part that may be missing, and then the next
infixl 10 ◌>>=◌
abbrev pub ◌>>=◌ : {A B : Type 0} → Option A → (A → Option B) → Option B
(Some x) >>= f = f x
None >>= f = None
