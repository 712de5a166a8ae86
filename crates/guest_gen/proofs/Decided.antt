-- How a decision follows from its steps.
use Rattle.std.proofs.Common.{◌≡◌, inl, inr, ℕ, List, Option, Some, Result, Ok, Err, ap, sym, subst, refl}
use Rattle.top_call.specs.Call.{Decided, UnlessFull}
use Rattle.top_call.specs.Outside.{Outside}
use Rattle.top_call.specs.Reading.{FileRead}
use Rattle.top_call.specs.declared.reading.Unread.{Unread}
use Rattle.top_call.proofs.Called.{full_before}
use Rattle.guest_gen.specs.declared.decision.NewFile.{NewFile}
use Rattle.guest_gen.specs.declared.decision.Refusal.{Refusal}
use Rattle.guest_gen.specs.declared.decision.Refusal.TheVariants.{Usage, ReadFault, TooLong, Fault, NoMemory}
use Rattle.guest_gen.specs.declared.words.Form.{Form}
use Rattle.guest_gen.specs.declared.words.Form.TheVariants.{Assemble, Generate}
use Rattle.guest_gen.specs.Decision.{text_limit, Assembles, Generates, refusal_of, make, reading_for}
use Rattle.guest_gen.specs.Words.{SaysNothing}

abbrev refused : Refusal → Result NewFile Refusal
refused r = Err r

as_refused : (r s : Refusal) → r ≡ s → refused r ≡ refused s
as_refused r s is = ap refused is

-- the words were refused
pub words_refused : (f : Option Form) (a : Outside) (r : Refusal) → SaysNothing f r → Decided make (reading_for f) a a (Err r)
words_refused f a Usage none = subst (λ x. Decided make (reading_for x) a a (Err Usage)) (sym none) (refl, inl refl)
words_refused f a NoMemory none = full_before make (reading_for f) a
words_refused f a (ReadFault name) none = absurd none
words_refused f a (TooLong name) none = absurd none
words_refused f a (Fault line kind) none = absurd none

-- the guest that the words ask for
pub guest_decided : (f : Option Form) (n : ℕ) (o : List ℕ) (a : Outside) (d : Result NewFile Refusal) → f ≡ Some (Generate n o) → UnlessFull NoMemory (Generates n o) d → Decided make (reading_for f) a a d
guest_decided f n o a d form is = subst (λ x. Decided make (reading_for x) a a d) (sym form) (refl, is)

module _ (f : Option Form) (i o : List ℕ) (form : f ≡ Some (Assemble i o)) (a b : Outside) where
  -- the text was refused
  pub text_refused : (why : Unread) (r : Refusal) → FileRead i text_limit a b (Err why) → r ≡ refusal_of why → Decided make (reading_for f) a b (Err r)
  text_refused why r read is = subst (λ x. Decided make (reading_for x) a b (Err r)) (sym form) (inl (why, read, as_refused r (refusal_of why) is))

  -- what the text stands for
  pub text_decided : (text : List ℕ) (d : Result NewFile Refusal) → FileRead i text_limit a b (Ok text) → UnlessFull NoMemory (Assembles text o) d → Decided make (reading_for f) a b d
  text_decided text d read is = subst (λ x. Decided make (reading_for x) a b d) (sym form) (inr (text, b, read, (refl, is)))
