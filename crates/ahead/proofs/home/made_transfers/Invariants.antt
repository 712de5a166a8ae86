use Rattle.std.proofs.Common.{◌≡◌, ◌≤◌, ◌+◌, ◌++◌, length, drop}
use Rattle.std.specs.Prelude.{filter}
use Rattle.std.specs.Vec.{vec_capacity}
use Rattle.ahead.specs.Flown.{is_layout_note, transfers_to}
use Rattle.ahead.proofs.home.made_transfers.Given as goal

-- what is left to write makes the whole
abbrev pub invariant-loop-k : goal.invariant-loop-k
invariant-loop-k l =
    (l.layouts ≤ l.k) × (length l.transfers.items ≤ l.k) × (vec_capacity l.transfers ≡ vec_capacity l.initial.transfers)
    × (l.layouts + length (filter is_layout_note (drop l.k l.notes)) ≡ length (filter is_layout_note l.notes))
    × (l.transfers.items ++ transfers_to l.last (drop l.k l.notes) ≡ transfers_to l.last l.notes)
