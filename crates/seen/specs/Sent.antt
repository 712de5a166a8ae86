-- The lines of the calls of text that go elsewhere now. This project's own.
use Rattle.std.specs.Prelude.{ℕ, ◌+◌, ◌==◌, List, [], ◌++◌, codes, flat_map, Option, Some, None, option_and_then, if◌then◌else◌}
use Rattle.std.specs.Option.{option_eq, option_map_or}
use Rattle.image.specs.declared.ranges.Aim.{Aim}
use Rattle.image.specs.Texts.{word_at}
use Rattle.image.specs.Jumps.{direct_target}
use Rattle.image.specs.Picture.{Picture}
use Rattle.layout.specs.Points.{Code}
use Rattle.looking.specs.Pieces.{address}
use Rattle.seen.specs.Refusals.{named_text}

-- the word, unless it is the original one
abbrev pub unless_same : (was : Option ℕ) → (now : ℕ) → Option ℕ
unless_same was now = if option_eq (λ m n. m == n) (Some now) was then None else Some now

-- the word at an address, where it isn't the original one
abbrev pub changed : Picture → Code → (at : ℕ) → Option ℕ
changed p c at = option_and_then (unless_same (word_at p.texts at)) (c.word at)

-- where it leads
abbrev pub leads_now : Picture → Code → (at : ℕ) → Option ℕ
leads_now p c at = option_and_then (λ w. direct_target w at) (changed p c at)

-- a call, the function that it calls, and where that is for it now
abbrev pub call_text : (names : List (List ℕ)) → (kind : List ℕ) → Aim → (to : ℕ) → List ℕ
call_text names kind call to = kind ++ codes " " ++ address call.at ++ codes ": " ++ named_text names call.func ++ codes " at " ++ address to ++ codes "\n"

-- the line of a call whose word stands this far past its place, if that leads elsewhere now
abbrev pub sent_line : Picture → Code → (names : List (List ℕ)) → (kind : List ℕ) → (past : ℕ) → Aim → List ℕ
sent_line p c names kind past call = option_map_or (call_text names kind call) (leads_now p c (call.at + past)) []

-- a pair goes where its second word leads
unfoldable pub sent_text : Picture → Code → (names : List (List ℕ)) → List ℕ
sent_text p c names = flat_map (sent_line p c names (codes "site") 0) p.sites ++ flat_map (sent_line p c names (codes "pair") 4) p.pairs
