-- Words, files and input ask for one thing.
use Rattle.std.proofs.Common.{◌≡◌, ◌⊎◌, inl, inr, ℕ, ◌-◌, ◌<◌, ◌≤◌, Bool, true, false, ◌↔◌, List, Option, Some, None, Result, Ok, Err, ap, sym, subst, ◌∙◌, refl, arith}
use Rattle.oc_base.specs.Outside.{Disk}
use Rattle.oc_base.specs.declared.range.Range.{Range}
use Rattle.top_call.specs.Call.{DecidesBy}
use Rattle.top_call.specs.Reading.{given_by}
use Rattle.image.specs.declared.ranges.TextRange.{TextRange}
use Rattle.image.specs.declared.ranges.Part.{Part}
use Rattle.image.specs.Picture.{Picture, IsKept}
use Rattle.machine.specs.Start.{start_of}
use Rattle.near_region.specs.Regions.{IsBest}
use Rattle.looking.specs.Overview.{overview, IsOverview}
use Rattle.looking.specs.Listing.{listing}
use Rattle.look_words.specs.declared.words.ScriptedRun.{ScriptedRun}
use Rattle.sched_log.specs.Script.{fault_of, events_of}
use Rattle.sched_log.specs.declared.fault.ScriptFault.{ScriptFault}
use Rattle.world.specs.Worlds.{Replaced, started}
use Rattle.play.specs.Decision.{IsPlayed}
use Rattle.delivered.proofs.OneImage.{one_fault, no_fault, one_built}
use Rattle.delivered.proofs.OneRun.{one_end}
use Rattle.delivered.proofs.Standing.{Laws, OneResult}
use Rattle.look.specs.declared.decision.Drawn.{Drawn}
use Rattle.look.specs.declared.decision.Refusal.{Refusal}
use Rattle.look.specs.declared.decision.Refusal.TheVariants.{Usage, ReadFault, TooLong, Program, Script, NoFunction, NoMemory}
use Rattle.look.specs.declared.decision.Seen.{Seen}
use Rattle.look.specs.Decision.{Wanted, the_program, a_run, Asked, names_in, chosen, ShowsProgram, seen_of, meaning_of, ShowsRun, Shows, Delivers, bad_program, shown, refusal_of, look, reading_of, Decides}

-- ---- the overview

one_test : (P : Type 0) (a b : Bool) → ((a ≡ true) ↔ P) → ((b ≡ true) ↔ P) → a ≡ b
one_test P true true x y = refl
one_test P false false x y = refl
one_test P true false x y = sym (y.1 (x.0 refl))
one_test P false true x y = x.1 (y.0 refl)

-- two ranges of which neither is the better one begin and end alike
same_from : (a b c d : ℕ) → (d - c < b - a) ⊎ ((d - c ≡ b - a) × (a ≤ c)) → (b - a < d - c) ⊎ ((b - a ≡ d - c) × (c ≤ a)) → a ≡ c
same_from a b c d (inl p) (inl q) = omega (arith, p, q)
same_from a b c d (inl p) (inr q) = let e = q.0 in omega (arith, p, e)
same_from a b c d (inr p) (inl q) = let e = p.0 in omega (arith, e, q)
same_from a b c d (inr p) (inr q) = let e = p.1 in let f = q.1 in omega (arith, e, f)

same_to : (a b c d : ℕ) → a < b → c < d → a ≡ c → (d - c < b - a) ⊎ ((d - c ≡ b - a) × (a ≤ c)) → (b - a < d - c) ⊎ ((b - a ≡ d - c) × (c ≤ a)) → b ≡ d
same_to a b c d some some' from (inl p) (inl q) = omega (arith, p, q)
same_to a b c d some some' from (inl p) (inr q) = let e = q.0 in omega (arith, p, e)
same_to a b c d some some' from (inr p) y = let e = p.0 in omega (arith, e, from, some, some')

abbrev range : ℕ → ℕ → Range
range from to = record { from = from; to = to }

same_range : (r s : Range) → r.from ≡ s.from → r.to ≡ s.to → r ≡ s
same_range r s from to = ap (λ f. range f r.to) from ∙ ap (range s.from) to

one_best : (texts : List TextRange) (parts : List Part) (a b : Option Range) → IsBest texts parts a → IsBest texts parts b → a ≡ b
one_best texts parts None None x y = refl
one_best texts parts None (Some s) x y = absurd (x s y.0)
one_best texts parts (Some r) None x y = absurd (y r x.0)
one_best texts parts (Some r) (Some s) x y =
    let better = x.1 s y.0 in
    let worse = y.1 r x.0 in
    let from = same_from r.from r.to s.from s.to better worse in
    ap Some (same_range r s from (same_to r.from r.to s.from s.to x.0.some y.0.some from better worse))

one_overview : (p : Picture) (names : List (List ℕ)) (t u : List ℕ) → IsOverview p names t → IsOverview p names u → t ≡ u
one_overview p names t u a b =
    a.is ∙ ap (λ near. overview p names near a.best) (one_test _ a.near b.near a.tells b.tells)
    ∙ ap (overview p names b.near) (one_best p.texts p.parts a.best b.best a.is_best b.is_best) ∙ sym b.is

-- ---- what is shown of a program

same_some : {X : Type 0} (n m : X) → Some n ≡ Some m → n ≡ m
same_some n m e = cc

not_both : {X : Type 0} (o : Option X) (x : X) → o ≡ None → o ≡ Some x → ⊥
not_both o x a b = let e : None ≡ Some x = sym a ∙ b in cc

abbrev seen : List ℕ → Option Drawn → Seen
seen text picture = record { text = text; picture = picture }

one_seen : (s t : Seen) → s.text ≡ t.text → s.picture ≡ t.picture → s ≡ t
one_seen s t text picture = ap (λ x. seen x s.picture) text ∙ ap (seen t.text) picture

abbrev accepted : Seen → Result Seen Refusal
accepted s = Ok s

abbrev refused : Refusal → Result Seen Refusal
refused r = Err r

-- a function that isn't there
pub no_function : (p : Picture) (names : List (List ℕ)) (word : List ℕ) (r : Refusal) → ShowsProgram p names (Some word) (Err r) → (r ≡ NoFunction word) × (chosen names word ≡ None)
no_function p names word (NoFunction name) is = (ap (λ n. NoFunction n) is.1, is.0)
no_function p names word Usage is = absurd is
no_function p names word (ReadFault name) is = absurd is
no_function p names word (TooLong name) is = absurd is
no_function p names word (Program fault) is = absurd is
no_function p names word (Script fault words) is = absurd is
no_function p names word NoMemory is = absurd is

one_shown : (p : Picture) (names : List (List ℕ)) (f : Option (List ℕ)) (d e : Result Seen Refusal) → ShowsProgram p names f d → ShowsProgram p names f e → d ≡ e
one_shown p names None (Ok s) (Ok t) a b = ap accepted (one_seen s t (one_overview p names s.text t.text a.0 b.0) (a.1 ∙ sym b.1))
one_shown p names None (Ok s) (Err r) a b = absurd b
one_shown p names None (Err r) e a b = absurd a
one_shown p names (Some word) (Ok s) (Ok t) (n, is, text, none) (m, is', text', none') =
    ap accepted (one_seen s t (text ∙ ap (listing p names) (same_some n m (sym is ∙ is')) ∙ sym text') (none ∙ sym none'))
one_shown p names (Some word) (Ok s) (Err r) (n, is, text, none) b = absurd (not_both (chosen names word) n (no_function p names word r b).1 is)
one_shown p names (Some word) (Err r) (Ok t) a (m, is, text, none) = absurd (not_both (chosen names word) m (no_function p names word r a).1 is)
one_shown p names (Some word) (Err r) (Err q) a b = ap refused ((no_function p names word r a).0 ∙ sym (no_function p names word q b).0)

-- ---- what is shown of a run

-- the first fault of a script
pub record IsFaulty (p : Picture) (names : List (List ℕ)) (script : List ℕ) (r : Refusal) : Type 0 where
  pub fault : ScriptFault
  pub words : List ℕ
  pub is : r ≡ Script fault words
  pub has : fault_of p script ≡ Some fault
  pub means : words ≡ meaning_of p names script fault

pub faulty : (p : Picture) (names : List (List ℕ)) (run : ScriptedRun) (script input : List ℕ) (r : Refusal) → ShowsRun p names run script input (Err r) → IsFaulty p names script r
faulty p names run script input (Script fault words) is = record { fault = fault; words = words; is = refl; has = is.0; means = is.1 }
faulty p names run script input Usage is = absurd is
faulty p names run script input (ReadFault name) is = absurd is
faulty p names run script input (TooLong name) is = absurd is
faulty p names run script input (Program fault) is = absurd is
faulty p names run script input (NoFunction name) is = absurd is
faulty p names run script input NoMemory is = absurd is

one_refusal : (p : Picture) (names : List (List ℕ)) (script : List ℕ) (r q : Refusal) → IsFaulty p names script r → IsFaulty p names script q → r ≡ q
one_refusal p names script r q a b =
    let same : a.fault ≡ b.fault = same_some a.fault b.fault (sym a.has ∙ b.has) in
    a.is ∙ ap (λ f. Script f a.words) same ∙ ap (Script b.fault) (a.means ∙ ap (meaning_of p names script) same ∙ sym b.means) ∙ sym b.is

module _ (laws : Laws) (one : OneResult) where
  one_world : (p : Picture) (text input : List ℕ) (ring : ℕ) (u v : Replaced) → IsKept p → IsPlayed p text input ring u → IsPlayed p text input ring v → u ≡ v
  one_world p text input ring u v kept a b =
      one_end laws one (events_of p text) a.played.0 b.played.0 (started p ring input) u v (start_of p input) (laws.start p ring input kept) a.played.1 b.played.1

  one_run : (p : Picture) (names : List (List ℕ)) (run : ScriptedRun) (script input : List ℕ) (d e : Result Seen Refusal) → IsKept p → ShowsRun p names run script input d → ShowsRun p names run script input e → d ≡ e
  one_run p names run script input (Ok s) (Ok t) kept (u, played, is) (v, played', is') =
      ap accepted (is ∙ ap (λ w. seen_of run.picture w names) (one_world p script input run.ring u v kept played played') ∙ sym is')
  one_run p names run script input (Ok s) (Err r) kept (u, played, is) b =
      let f = faulty p names run script input r b in absurd (not_both (fault_of p script) f.fault played.fine f.has)
  one_run p names run script input (Err r) (Ok t) kept a (v, played, is) =
      let f = faulty p names run script input r a in absurd (not_both (fault_of p script) f.fault played.fine f.has)
  one_run p names run script input (Err r) (Err q) kept a b =
      ap refused (one_refusal p names script r q (faulty p names run script input r a) (faulty p names run script input q b))

  one_sight : (p : Picture) (names : List (List ℕ)) (wanted : Wanted) (d e : Result Seen Refusal) → IsKept p → Shows p names wanted d → Shows p names wanted e → d ≡ e
  one_sight p names (the_program function) d e kept a b = one_shown p names function d e a b
  one_sight p names (a_run run script input) d e kept a b = one_run p names run script input d e kept a b

  -- bytes with an image have one, and no fault
  one_delivery : (asked : Asked) (d e : Result Seen Refusal) → Delivers asked d → Delivers asked e → d ≡ e
  one_delivery asked _ _ (bad_program f a) (bad_program g b) = ap (λ x. Err (Program x)) (one_fault asked.program asked.region f g a b)
  one_delivery asked _ _ (bad_program f a) (shown q e built b) = absurd (no_fault asked.program asked.region q f built a)
  one_delivery asked _ _ (shown p d built a) (bad_program g b) = absurd (no_fault asked.program asked.region p g built b)
  one_delivery asked _ _ (shown p d built a) (shown q e built' b) =
      one_sight q (names_in asked.program q) asked.wanted d e built'.kept
      (subst (λ x. Shows x (names_in asked.program x) asked.wanted d) (one_built asked.program asked.region p q built built') a) b

  from_one : (given : Result Asked Refusal) (d e : Result Seen Refusal) → DecidesBy look given d → DecidesBy look given e → d ≡ e
  from_one (Ok asked) d e a b = one_delivery asked d e a b
  from_one (Err refusal) d e a b = a ∙ sym b

  pub one_decision : (words : List (List ℕ)) (disk : Disk) (input : List ℕ) (d e : Result Seen Refusal) → Decides words disk input d → Decides words disk input e → d ≡ e
  one_decision words disk input d e a b = from_one (given_by refusal_of (reading_of words) disk input) d e a b
