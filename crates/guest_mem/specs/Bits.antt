-- Rows of bits, 64 in a number, the lowest first.
use Rattle.std.specs.Prelude.{ℕ, zero, suc, ◌+◌, ◌/◌, ◌%◌, Bool, true, ◌&&◌, nat_eq, List, get_or}
use Rattle.std.specs.Int.{bit_at}

-- bit i
unfoldable pub bit_in : List ℕ → ℕ → Bool
bit_in xs i = nat_eq (bit_at (get_or xs (i / 64) 0) (i % 64)) 1

-- the n bits from i are all set
unfoldable pub all_bits_in : List ℕ → ℕ → ℕ → Bool
all_bits_in xs i zero = true
all_bits_in xs i (suc n) = all_bits_in xs i n && bit_in xs (i + n)
