-- How often each address was entered, while transfers are counted. For the crate's own use.
use Rattle.std.specs.Prelude.{ℕ, unwrap_or}
use Rattle.std.specs.Ordering.{nat_cmp}
use Rattle.std.specs.BTreeMap.{BTreeMap, get}

abbrev pub entered_at : BTreeMap ℕ ℕ → ℕ → ℕ
entered_at counts a = unwrap_or (get nat_cmp counts a) 0
