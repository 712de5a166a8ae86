-- Bytes where there is room for them.
use Rattle.std.specs.Prelude.{ℕ, nat_lt, List, length, Option, Some, None, if◌then◌else◌}

abbrev pub fitting : ℕ → List ℕ → Option (List ℕ)
fitting room bytes = if nat_lt room (length bytes) then None else Some bytes
