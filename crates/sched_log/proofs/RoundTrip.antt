-- What is written of events is read again.
use Rattle.std.proofs.Common.{◌≡◌, ℕ, ◌+◌, ◌^◌, ◌<◌, ◌≤◌, false, List, [], ◌∷◌, ◌++◌, length, map, Some, None, refl, ap, sym, arith, eqb, append_assoc, length-append, ◌∙◌}
use Rattle.std.specs.Prelude.{decimal, codes, sum_by, flat_map}
use Rattle.std.specs.List.{slice_split, All, AllByRecursion}
use Rattle.std.proofs.lemmas.Bool.{ne_eqb, le-leb, le-ltb}
use Rattle.std.proofs.lemmas.List.Splits.{slice_split_at, slice_split_none}
use Rattle.std.proofs.lemmas.List.Elements.{All-append, All-cons, All-from_recursion}
use Rattle.std.proofs.lemmas.List.Sums.{sum_by-cons}
use Rattle.std.proofs.lemmas.Fmt.{decimal_nonempty}
use Rattle.texts.specs.Texts.{lines_of, number_of}
use Rattle.texts.proofs.Numbers.{decimal_read, not_in_decimal}
use Rattle.texts.proofs.LinesBack.{IsOneLine, lines_back}
use Rattle.sched_log.specs.Plans.{words}
use Rattle.sched_log.specs.Lines.{line_of, plan_line, by_words, command, moves, of_hart}
use Rattle.image.specs.Picture.{Picture, IsKept}
use Rattle.plans.specs.declared.plan.Moved.{Moved}
use Rattle.sched_log.specs.Script.{count, event_of, kind_of, fault_of, events_of, script}
use Rattle.sched_log.specs.Printed.{spaced, plan_text, line_text, terminated, printed, as_read, ReadsAs}
use Rattle.sched_log.specs.Ranges.{IsInRange, AreInRange, IsShort}
use Rattle.sched_log.proofs.PlanBack.{plan_back, plan_without}
use Rattle.sched_log.proofs.Writable.{written}
use Rattle.sched_log.proofs.Steps.{faults_from, fault_start}
use Rattle.sched_log.specs.declared.line.Line.{Line}
use Rattle.sched_log.specs.declared.line.Line.TheVariants.{Does, End}
use Rattle.sched_log.specs.declared.event.Event.{Event}
use Rattle.sched_log.specs.declared.event.Event.TheVariants.{Steps, Real, Till, Snap, Replace, Given, Retire}

-- the words of a line
two_words : (name : List ℕ) (n : ℕ) → All (λ b. eqb b 32 ≡ false) name → n < 2 ^ 64 → slice_split (λ b. eqb b 32) (spaced name (decimal n)) ≡ name ∷ decimal n ∷ []
two_words name n whole small =
    let last = slice_split_none (λ b. eqb b 32) (decimal n) (not_in_decimal 32 n (omega arith) small) in
    slice_split_at (λ b. eqb b 32) name 32 (decimal n) whole refl ∙ ap (λ more. name ∷ more) last

three_words : (name : List ℕ) (h n : ℕ) → All (λ b. eqb b 32 ≡ false) name → h < 2 ^ 64 → n < 2 ^ 64 → slice_split (λ b. eqb b 32) (spaced name (spaced (decimal h) (decimal n))) ≡ name ∷ decimal h ∷ decimal n ∷ []
three_words name h n whole hs ns =
    slice_split_at (λ b. eqb b 32) name 32 (spaced (decimal h) (decimal n)) whole refl ∙ ap (λ more. name ∷ more) (two_words (decimal h) n (not_in_decimal 32 h (omega arith) hs) ns)

-- the names have neither a space nor a newline
steps_without : (c : ℕ) → c < 33 → All (λ b. eqb b c ≡ false) (codes "steps")
steps_without c low = All-from_recursion (λ b. eqb b c ≡ false) (codes "steps") (ne_eqb _ _ (λ e. omega (arith, e)), (ne_eqb _ _ (λ e. omega (arith, e)), (ne_eqb _ _ (λ e. omega (arith, e)), (ne_eqb _ _ (λ e. omega (arith, e)), (ne_eqb _ _ (λ e. omega (arith, e)), tt)))))

real_without : (c : ℕ) → c < 33 → All (λ b. eqb b c ≡ false) (codes "real")
real_without c low = All-from_recursion (λ b. eqb b c ≡ false) (codes "real") (ne_eqb _ _ (λ e. omega (arith, e)), (ne_eqb _ _ (λ e. omega (arith, e)), (ne_eqb _ _ (λ e. omega (arith, e)), (ne_eqb _ _ (λ e. omega (arith, e)), tt))))

till_without : (c : ℕ) → c < 33 → All (λ b. eqb b c ≡ false) (codes "till")
till_without c low = All-from_recursion (λ b. eqb b c ≡ false) (codes "till") (ne_eqb _ _ (λ e. omega (arith, e)), (ne_eqb _ _ (λ e. omega (arith, e)), (ne_eqb _ _ (λ e. omega (arith, e)), (ne_eqb _ _ (λ e. omega (arith, e)), tt))))

replace_one : IsOneLine (codes "replace")
replace_one = All-from_recursion (λ b. eqb b 10 ≡ false) (codes "replace") (refl, (refl, (refl, (refl, (refl, (refl, (refl, tt)))))))

snap_one : IsOneLine (codes "snap")
snap_one = All-from_recursion (λ b. eqb b 10 ≡ false) (codes "snap") (refl, (refl, (refl, (refl, tt))))

retire_one : IsOneLine (codes "retire")
retire_one = All-from_recursion (λ b. eqb b 10 ≡ false) (codes "retire") (refl, (refl, (refl, (refl, (refl, (refl, tt))))))

end_one : IsOneLine (codes "end")
end_one = All-from_recursion (λ b. eqb b 10 ≡ false) (codes "end") (refl, (refl, (refl, tt)))

-- a number is no empty word
some_digits : (n : ℕ) → n < 2 ^ 64 → eqb (length (decimal n)) 0 ≡ false
some_digits n small = ne_eqb (length (decimal n)) 0 (λ e. omega (arith, e, decimal_nonempty n small))

of_hart_read : (event : ℕ → ℕ → Event) (h n : ℕ) → h ≤ 63 → n < 2 ^ 32 → of_hart event (number_of (decimal h)) (number_of (decimal n)) ≡ Does (event h n)
of_hart_read event h n le small = rw (decimal_read h (omega (arith, le)), decimal_read n small, le-leb h 63 le) refl

steps_read : (hs ns : List ℕ) (line : Line) → eqb (length hs) 0 ≡ false → eqb (length ns) 0 ≡ false → of_hart Steps (number_of hs) (number_of ns) ≡ line → by_words (codes "steps" ∷ hs ∷ ns ∷ []) ≡ line
unfolding command
steps_read hs ns line some_h some_n is = rw (some_h, some_n) is

real_read : (hs ns : List ℕ) (line : Line) → eqb (length hs) 0 ≡ false → eqb (length ns) 0 ≡ false → of_hart Real (number_of hs) (number_of ns) ≡ line → by_words (codes "real" ∷ hs ∷ ns ∷ []) ≡ line
unfolding command
real_read hs ns line some_h some_n is = rw (some_h, some_n) is

till_read : (ns : List ℕ) (n : ℕ) → eqb (length ns) 0 ≡ false → number_of ns ≡ Some n → by_words (codes "till" ∷ ns ∷ []) ≡ Does (Till n)
unfolding command
till_read ns n some is = rw (some, is) refl

-- a line that begins with a letter, and not with the word `replace`
begun : (p : Picture) (c : ℕ) (xs : List ℕ) (ws : List (List ℕ)) (l : Line) → eqb c 35 ≡ false → moves (c ∷ xs) ≡ false → words (c ∷ xs) ≡ ws → by_words ws ≡ l → line_of p (c ∷ xs) ≡ l
unfolding line_of
begun p c xs ws l other plain split is =
    let some : eqb (length (c ∷ xs)) 0 ≡ false = ne_eqb (length (c ∷ xs)) 0 (λ e. omega (arith, e)) in
    rw (some, other, plain) (ap by_words split ∙ is)

-- the line of a plan
planned_line : (p : Picture) (ms : List Moved) → plan_line p (plan_text ms) ≡ Does (Given ms) → 0 < length ms → line_of p (codes "replace" ++ plan_text ms) ≡ Does (Given ms)
unfolding line_of
planned_line p [] is some = absurd (omega (arith, some))
planned_line p (m ∷ ms) is some =
    let long : eqb (length (codes "replace" ++ plan_text (m ∷ ms))) 0 ≡ false = ne_eqb (length (codes "replace" ++ plan_text (m ∷ ms))) 0 (λ e. omega (arith, e, length-append (codes "replace") (plan_text (m ∷ ms)))) in
    rw long is

-- a line of one word
snap_line : (p : Picture) → line_of p (codes "snap") ≡ Does Snap
unfolding line_of command
snap_line p = refl

replace_line : (p : Picture) → line_of p (codes "replace") ≡ Does Replace
unfolding line_of command
replace_line p = refl

retire_line : (p : Picture) → line_of p (codes "retire") ≡ Does Retire
unfolding line_of command
retire_line p = refl

line_back : (p : Picture) (e : Event) → IsKept p → IsShort e → IsInRange p e → line_of p (line_text e) ≡ Does e
line_back p (Steps h n) kept short w = begun p _ _ _ _ refl refl (three_words (codes "steps") h n (steps_without 32 (omega arith)) (omega (arith, w.0)) (omega (arith, w.1)))
    (steps_read (decimal h) (decimal n) _ (some_digits h (omega (arith, w.0))) (some_digits n (omega (arith, w.1))) (of_hart_read Steps h n w.0 w.1))
line_back p (Real h n) kept short w = begun p _ _ _ _ refl refl (three_words (codes "real") h n (real_without 32 (omega arith)) (omega (arith, w.0)) (omega (arith, w.1)))
    (real_read (decimal h) (decimal n) _ (some_digits h (omega (arith, w.0))) (some_digits n (omega (arith, w.1))) (of_hart_read Real h n w.0 w.1))
line_back p (Till n) kept short w = begun p _ _ _ _ refl refl (two_words (codes "till") n (till_without 32 (omega arith)) (omega (arith, w)))
    (till_read (decimal n) n (some_digits n (omega (arith, w))) (decimal_read n w))
line_back p Snap kept short w = snap_line p
line_back p Replace kept short w = replace_line p
line_back p (Given ms) kept short w = planned_line p ms (plan_back p ms w.0 (written p ms kept w.1 short) w.1) w.0
line_back p Retire kept short w = retire_line p

-- each line is one line
spaced_one : (first rest : List ℕ) → IsOneLine first → IsOneLine rest → IsOneLine (spaced first rest)
spaced_one first rest f r = All-append (λ b. eqb b 10 ≡ false) first (32 ∷ rest) f (All-cons (λ b. eqb b 10 ≡ false) 32 rest refl r)

one_line : (p : Picture) (e : Event) → IsKept p → IsShort e → IsInRange p e → IsOneLine (line_text e)
one_line p (Steps h n) kept short w = spaced_one (codes "steps") (spaced (decimal h) (decimal n)) (steps_without 10 (omega arith)) (spaced_one (decimal h) (decimal n) (not_in_decimal 10 h (omega arith) (omega (arith, w.0))) (not_in_decimal 10 n (omega arith) (omega (arith, w.1))))
one_line p (Real h n) kept short w = spaced_one (codes "real") (spaced (decimal h) (decimal n)) (real_without 10 (omega arith)) (spaced_one (decimal h) (decimal n) (not_in_decimal 10 h (omega arith) (omega (arith, w.0))) (not_in_decimal 10 n (omega arith) (omega (arith, w.1))))
one_line p (Till n) kept short w = spaced_one (codes "till") (decimal n) (till_without 10 (omega arith)) (not_in_decimal 10 n (omega arith) (omega (arith, w)))
one_line p Snap kept short w = snap_one
one_line p Replace kept short w = replace_one
one_line p (Given ms) kept short w = All-append (λ b. eqb b 10 ≡ false) (codes "replace") (plan_text ms) replace_one (plan_without 10 ms (λ r. omega (arith, r)) refl refl refl (written p ms kept w.1 short))
one_line p Retire kept short w = retire_one

lines_one : (p : Picture) (es : List Event) → IsKept p → AllByRecursion IsShort es → AllByRecursion (IsInRange p) es → AllByRecursion IsOneLine (map line_text es ++ codes "end" ∷ [])
lines_one p [] kept short h = (end_one, tt)
lines_one p (e ∷ es) kept short h = (one_line p e kept short.0 h.0, lines_one p es kept short.1 h.1)

printed_lines : (es : List Event) → printed es ≡ flat_map (λ l. l ++ 10 ∷ []) (map line_text es ++ codes "end" ∷ [])
unfolding printed
printed_lines [] = refl
printed_lines (e ∷ es) = append_assoc (terminated (line_text e)) (flat_map (λ e. terminated (line_text e)) es) (terminated (codes "end")) ∙ ap (λ more. terminated (line_text e) ++ more) (printed_lines es)

script_lines : (p : Picture) (es : List Event) → IsKept p → AllByRecursion IsShort es → AllByRecursion (IsInRange p) es → map (line_of p) (map line_text es ++ codes "end" ∷ []) ≡ map (λ e. Does e) es ++ End ∷ []
unfolding line_of command
script_lines p [] kept short h = refl
script_lines p (e ∷ es) kept short h = rw (line_back p e kept short.0 h.0, script_lines p es kept short.1 h.1) refl

script_back : (p : Picture) (es : List Event) → IsKept p → AllByRecursion IsShort es → AllByRecursion (IsInRange p) es → script p (printed es) ≡ map (λ e. Does e) es ++ End ∷ []
unfolding script
script_back p es kept short h = ap (λ t. map (line_of p) (lines_of t)) (printed_lines es) ∙ ap (map (line_of p)) (lines_back (map line_text es ++ codes "end" ∷ []) (lines_one p es kept short h)) ∙ script_lines p es kept short h

events_in : (es : List Event) → flat_map event_of (map (λ e. Does e) es ++ End ∷ []) ≡ es
events_in [] = refl
events_in (e ∷ es) = ap (λ more. e ∷ more) (events_in es)

fine_event : (sum : ℕ) (e : Event) → sum + count e ≤ 2000000000 → kind_of false (sum + count e) (Does e) ≡ None
unfolding kind_of
fine_event sum e le = rw (le-ltb 2000000000 (sum + count e) le) refl

fine_end : (sum : ℕ) → sum ≤ 2000000000 → kind_of false (sum + 0) End ≡ None
unfolding kind_of
fine_end sum le = rw (le-ltb 2000000000 (sum + 0) (omega (arith, le))) refl

none_in : (es : List Event) (n sum : ℕ) → sum + sum_by count es ≤ 2000000000 → faults_from n false sum (map (λ e. Does e) es ++ End ∷ []) ≡ None
none_in [] n sum le = rw (fine_end sum (omega (arith, le))) refl
none_in (e ∷ es) n sum le =
    let s = sum_by-cons count e es in
    rw (fine_event sum e (omega (arith, le, s))) (none_in es (n + 1) (sum + count e) (omega (arith, le, s)))

events_back : (p : Picture) (es : List Event) → IsKept p → AllByRecursion IsShort es → AllByRecursion (IsInRange p) es → events_of p (printed es) ≡ es
unfolding events_of
events_back p es kept short h = ap (flat_map event_of) (script_back p es kept short h) ∙ events_in es

-- what is written of events in range asks for them
pub reads_back : (p : Picture) (es : List Event) (text : List ℕ) → text ≡ printed es → IsKept p → AllByRecursion IsShort es → AreInRange p es → ReadsAs p es text
reads_back p es text is kept short w =
    let lines : faults_from 1 false 0 (script p (printed es)) ≡ None = ap (faults_from 1 false 0) (script_back p es kept short w.each) ∙ none_in es 1 0 (omega (arith, w.sum)) in
    record {
      fine = ap (fault_of p) is ∙ sym (fault_start p (printed es)) ∙ lines;
      same = ap (events_of p) is ∙ events_back p es kept short w.each;
    }

-- a plan that moves nothing is written as the word alone
same_line : (e : Event) → line_text (as_read e) ≡ line_text e
same_line (Steps h n) = refl
same_line (Real h n) = refl
same_line (Till n) = refl
same_line Snap = refl
same_line Replace = refl
same_line (Given []) = refl
same_line (Given (m ∷ ms)) = refl
same_line Retire = refl

same_lines : (es : List Event) → flat_map (λ e. terminated (line_text e)) (map as_read es) ≡ flat_map (λ e. terminated (line_text e)) es
same_lines [] = refl
same_lines (e ∷ es) = rw (same_line e, same_lines es) refl

same_text : (es : List Event) → printed (map as_read es) ≡ printed es
unfolding printed
same_text es = ap (λ lines. lines ++ terminated (codes "end")) (same_lines es)

short_as_read : (e : Event) → IsShort e → IsShort (as_read e)
short_as_read (Steps h n) short = tt
short_as_read (Real h n) short = tt
short_as_read (Till n) short = tt
short_as_read Snap short = tt
short_as_read Replace short = tt
short_as_read (Given []) short = tt
short_as_read (Given (m ∷ ms)) short = short
short_as_read Retire short = tt

all_short : (es : List Event) → AllByRecursion IsShort es → AllByRecursion IsShort (map as_read es)
all_short [] short = tt
all_short (e ∷ es) short = (short_as_read e short.0, all_short es short.1)

pub reads_as_read : (p : Picture) (es : List Event) (text : List ℕ) → text ≡ printed es → IsKept p → AllByRecursion IsShort es → AreInRange p (map as_read es) → ReadsAs p (map as_read es) text
reads_as_read p es text is kept short w = reads_back p (map as_read es) text (is ∙ sym (same_text es)) kept (all_short es short) w
