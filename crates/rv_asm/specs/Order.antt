-- Which fault of a text counts first: by its line, and in a line by its kind.
use Rattle.std.specs.Prelude.{ℕ, Bool, ◌==◌, ◌&&◌, ◌||◌, nat_lt, nat_le, List, [], ◌∷◌, Option, Some, None, if◌then◌else◌}
use Rattle.rv_asm.specs.declared.fault.FaultKind.{FaultKind}
use Rattle.rv_asm.specs.declared.fault.FaultKind.TheVariants.{Unknown, Misplaced, Malformed, Unpaired, GivenAgain, Undefined, OutOfRange, TooLarge}
use Rattle.rv_asm.specs.declared.fault.LineFault.{LineFault}

-- the number by which a kind is reported
abbrev pub number_of : FaultKind → ℕ
number_of Unknown = 1
number_of Malformed = 2
number_of OutOfRange = 3
number_of Undefined = 4
number_of GivenAgain = 5
number_of Unpaired = 6
number_of Misplaced = 7
number_of TooLarge = 8

-- the order of the kinds in a line
abbrev pub rank : FaultKind → ℕ
rank Unknown = 0
rank Misplaced = 1
rank Malformed = 2
rank Unpaired = 3
rank GivenAgain = 4
rank Undefined = 5
rank OutOfRange = 6
rank TooLarge = 7

-- the pair (line, rank) is no later than another
abbrev pub is_early : (line rank other_line other_rank : ℕ) → Bool
is_early l r m s = nat_lt l m || (l == m && nat_le r s)

-- of two faults the one that counts first
abbrev pub earlier : LineFault → LineFault → LineFault
earlier f g = if is_early f.line (rank f.kind) g.line (rank g.kind) then f else g

abbrev pub first_of_two : Option LineFault → Option LineFault → Option LineFault
first_of_two None g = g
first_of_two (Some f) None = Some f
first_of_two (Some f) (Some g) = Some (earlier f g)

-- of all faults the one that counts first
abbrev pub first_fault : List LineFault → Option LineFault
first_fault [] = None
first_fault (f ∷ fs) = first_of_two (Some f) (first_fault fs)

abbrev pub one_fault : (line : ℕ) → FaultKind → List LineFault
one_fault line kind = record { line = line; kind = kind } ∷ []

abbrev pub fault_if : Bool → (line : ℕ) → FaultKind → List LineFault
fault_if b line kind = if b then one_fault line kind else []
