-- One line more, for a reader that keeps of the lines before only whether an end stands there and what their counts sum to.
use Rattle.std.proofs.Common.{◌≡◌, ℕ, ◌+◌, Bool, false, List, [], ◌∷◌, ◌++◌, length, map, take, get_or, Option, Some, None, refl, ap, sym, arith, append_assoc, ◌∙◌}
use Rattle.std.specs.Prelude.{not, ◌||◌, sum_by, flat_map}
use Rattle.std.specs.List.{list_any, range_with_len}
use Rattle.std.specs.Option.{option_map, option_or}
use Rattle.std.proofs.lemmas.List.{get_or_at, length-append, append-nil}
use Rattle.std.proofs.lemmas.List.Folds.{list_any-append}
use Rattle.std.proofs.lemmas.List.Sums.{sum_by-append}
use Rattle.std.proofs.Math.Bool.{or-false}
use Rattle.std.proofs.Math.Seq.{take-append_seam, take-append-add}
use Rattle.texts.specs.Texts.{lines_of}
use Rattle.image.specs.Picture.{Picture}
use Rattle.sched_log.specs.Lines.{line_of}
use Rattle.finite.specs.First.{first_of, when}
use Rattle.sched_log.specs.Script.{is_end, count_of, event_of, kind_of, fault_at, no_end, script, fault_of, events_of}
use Rattle.sched_log.specs.Limits.{end_missing}
use Rattle.sched_log.specs.declared.line.Line.{Line}
use Rattle.sched_log.specs.declared.line.Line.TheVariants.{Passed}
use Rattle.sched_log.specs.declared.event.Event.{Event}
use Rattle.sched_log.specs.declared.fault.ScriptFault.{ScriptFault}
use Rattle.sched_log.specs.declared.fault.ScriptFault.TheVariants as fault

-- The first fault of lines that come after others: given the number of the next line, whether an end comes before it, and what
-- the counts before it sum to
abbrev pub faults_from : ℕ → Bool → (sum : ℕ) → List Line → Option ScriptFault
faults_from n ended sum [] = when (not ended) (fault.Line n end_missing)
faults_from n ended sum (l ∷ ls) = option_or
    (option_map (λ kind. fault.Line n kind) (kind_of ended (sum + count_of l) l))
    (faults_from (n + 1) (ended || is_end l) (sum + count_of l) ls)

first_one : {X : Type 0} (o : Option X) → first_of (o ∷ []) ≡ o
first_one None = refl
first_one (Some x) = refl

first_cons : {X : Type 0} (o : Option X) (os : List (Option X)) → first_of (o ∷ os) ≡ option_or o (first_of os)
first_cons None os = refl
first_cons (Some x) os = refl

-- the first fault of n lines from place i on, or the want of an end
abbrev faults_at : List Line → ℕ → ℕ → Option ScriptFault
faults_at all i n = first_of (map (fault_at all) (range_with_len i n) ++ no_end all ∷ [])

fault_here : (before rest : List Line) (l : Line) → fault_at (before ++ l ∷ rest) (length before) ≡ option_map (λ kind. fault.Line (length before + 1) kind) (kind_of (list_any is_end before) (sum_by count_of before + count_of l) l)
fault_here before rest l =
    let here : get_or (before ++ l ∷ rest) (length before) Passed ≡ l = get_or_at before l rest Passed (length before) refl in
    let past : take (length before) (before ++ l ∷ rest) ≡ before = take-append_seam before (l ∷ rest) in
    let up_to : take (length before + 1) (before ++ l ∷ rest) ≡ before ++ l ∷ [] = take-append-add before (l ∷ rest) 1 in
    let counts : sum_by count_of (before ++ l ∷ []) ≡ sum_by count_of before + count_of l = omega (arith, sum_by-append count_of before (l ∷ [])) in
    rw (here, past, up_to, counts) refl

-- the definition by places is the one by what is kept
faults_are : (before rest : List Line) → faults_at (before ++ rest) (length before) (length rest) ≡ faults_from (length before + 1) (list_any is_end before) (sum_by count_of before) rest
faults_are before [] = ap (λ all. first_of (no_end all ∷ [])) (append-nil before) ∙ first_one (no_end before)
faults_are before (l ∷ ls) =
    let next = before ++ l ∷ [] in
    let all : before ++ l ∷ ls ≡ next ++ ls = sym (append_assoc before (l ∷ []) ls) in
    let place : length next ≡ length before + 1 = length-append before (l ∷ []) in
    let ended : list_any is_end next ≡ (list_any is_end before || is_end l) = list_any-append is_end before (l ∷ []) ∙ ap (λ b. list_any is_end before || b) (or-false (is_end l)) in
    let counts : sum_by count_of next ≡ sum_by count_of before + count_of l = omega (arith, sum_by-append count_of before (l ∷ [])) in
    let more : faults_at (next ++ ls) (length next) (length ls) ≡ faults_from (length next + 1) (list_any is_end next) (sum_by count_of next) ls = faults_are next ls in
    let rest : faults_at (before ++ l ∷ ls) (length before + 1) (length ls) ≡ faults_from (length before + 1 + 1) (list_any is_end before || is_end l) (sum_by count_of before + count_of l) ls = cc in
    first_cons (fault_at (before ++ l ∷ ls) (length before)) _ ∙ ap (λ o. option_or o (faults_at (before ++ l ∷ ls) (length before + 1) (length ls))) (fault_here before ls l) ∙ ap (option_or _) rest

pub fault_start : (p : Picture) (bytes : List ℕ) → faults_from 1 false 0 (script p bytes) ≡ fault_of p bytes
unfolding fault_of
fault_start p bytes = sym (faults_are [] (script p bytes))

next_line : (p : Picture) (bytes text rest : List ℕ) (n : ℕ) (ended : Bool) (sum : ℕ) → lines_of bytes ≡ text ∷ lines_of rest → faults_from n ended sum (script p bytes) ≡ option_or (option_map (λ kind. fault.Line n kind) (kind_of ended (sum + count_of (line_of p text)) (line_of p text))) (faults_from (n + 1) (ended || is_end (line_of p text)) (sum + count_of (line_of p text)) (script p rest))
unfolding script
next_line p bytes text rest n ended sum lines = ap (λ ls. faults_from n ended sum (map (line_of p) ls)) lines

-- the next line has a fault
pub fault_found : (p : Picture) (bytes text rest : List ℕ) (line : Line) (n : ℕ) (ended : Bool) (sum kind : ℕ) → lines_of bytes ≡ text ∷ lines_of rest → line ≡ line_of p text → Some kind ≡ kind_of ended (sum + count_of line) line → faults_from n ended sum (script p bytes) ≡ Some (fault.Line n kind)
fault_found p bytes text rest line n ended sum kind lines is found =
    let here : kind_of ended (sum + count_of (line_of p text)) (line_of p text) ≡ Some kind = ap (λ l. kind_of ended (sum + count_of l) l) (sym is) ∙ sym found in
    next_line p bytes text rest n ended sum lines ∙ rw here refl

-- the next line has none
pub fault_later : (p : Picture) (bytes text rest : List ℕ) (line : Line) (n : ℕ) (ended : Bool) (sum : ℕ) → lines_of bytes ≡ text ∷ lines_of rest → line ≡ line_of p text → None ≡ kind_of ended (sum + count_of line) line → faults_from n ended sum (script p bytes) ≡ faults_from (n + 1) (ended || is_end line) (sum + count_of line) (script p rest)
fault_later p bytes text rest line n ended sum lines is fine =
    let here : kind_of ended (sum + count_of (line_of p text)) (line_of p text) ≡ None = ap (λ l. kind_of ended (sum + count_of l) l) (sym is) ∙ sym fine in
    next_line p bytes text rest n ended sum lines ∙ rw here (ap (λ l. faults_from (n + 1) (ended || is_end l) (sum + count_of l) (script p rest)) (sym is))

-- behind the last line
pub fault_done : (p : Picture) (bytes : List ℕ) (n : ℕ) (ended : Bool) (sum : ℕ) → length bytes ≡ 0 → faults_from n ended sum (script p bytes) ≡ when (not ended) (fault.Line n end_missing)
unfolding script lines_of
fault_done p [] n ended sum none = refl
fault_done p (b ∷ bs) n ended sum none = absurd (omega (arith, none))

-- the events of one line more
pub event_later : (p : Picture) (bytes text rest : List ℕ) (line : Line) (events more all : List Event) → lines_of bytes ≡ text ∷ lines_of rest → line ≡ line_of p text → events ++ events_of p bytes ≡ all → more ≡ events ++ event_of line → more ++ events_of p rest ≡ all
unfolding events_of script
event_later p bytes text rest line events more all lines is kept pushed =
    let here : events_of p bytes ≡ event_of (line_of p text) ++ events_of p rest = ap (λ ls. flat_map event_of (map (line_of p) ls)) lines in
    ap (λ es. es ++ events_of p rest) (pushed ∙ ap (λ l. events ++ event_of l) is) ∙ append_assoc events (event_of (line_of p text)) (events_of p rest) ∙ ap (λ es. events ++ es) (sym here) ∙ kept

pub event_done : (p : Picture) (bytes : List ℕ) (events : List Event) → length bytes ≡ 0 → events ++ events_of p bytes ≡ events
unfolding events_of script lines_of
event_done p [] events none = append-nil events
event_done p (b ∷ bs) events none = absurd (omega (arith, none))
