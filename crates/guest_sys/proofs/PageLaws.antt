-- Ranges of whole pages.
use Rattle.std.proofs.Common.{◌≡◌, ℕ, ◌%◌, arith}
use Rattle.guest_mem.specs.Memory.{Memory}
use Rattle.guest_mem.specs.Access.{HoldsWholeLinks}

-- no link lies partly in whole pages
pub holds_whole_links : (m : Memory) (from to : ℕ) → from % 4096 ≡ 0 → to % 4096 ≡ 0 → HoldsWholeLinks m from to
holds_whole_links m from to a b w link some low high = (omega arith, omega arith)
