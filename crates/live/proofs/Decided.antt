-- How a decision follows from its steps.
use Rattle.std.proofs.Common.{◌≡◌, ◌⊎◌, inl, inr, ℕ, List, Option, Some, None, Result, Ok, Err, ap, sym, subst, refl}
use Rattle.top_call.specs.Call.{Decided, UnlessFull}
use Rattle.top_call.specs.Outside.{Outside}
use Rattle.top_call.specs.Reading.{FileRead, InputRead}
use Rattle.top_call.specs.declared.reading.Unread.{Unread}
use Rattle.top_call.proofs.Called.{full_before}
use Rattle.report.specs.Cause.{refusal_of}
use Rattle.report.specs.declared.answer.Ended.{Ended}
use Rattle.report.specs.declared.answer.Ended.TheVariants.{Ran, Usage, ReadFault, TooLong, Program, Script, WriteFault, NoMemory}
use Rattle.delivered.specs.Building.{Refuses}
use Rattle.live_words.specs.declared.words.Words.{Words}
use Rattle.live.specs.declared.life.Life.{Life}
use Rattle.live.specs.Decision.{program_limit, Asked, reading_by, reading_for, Lives, bad_program, live}

-- the words say nothing
pub words_refused : (w : Option Words) (a : Outside) → w ≡ None → Decided live (reading_for w) a a (Err Usage)
words_refused w a none = subst (λ x. Decided live (reading_for x) a a (Err Usage)) (sym none) (refl, inl refl)

-- or there is no room for them
pub words_full : (w : Option Words) (a : Outside) → Decided live (reading_for w) a a (Err NoMemory)
words_full w a = full_before live (reading_for w) a

-- the words say which reading it is
pub by_words : (w : Option Words) (said : Words) (a b : Outside) (r : Result Life Ended) → w ≡ Some said → Decided live (reading_by said) a b r → Decided live (reading_for w) a b r
by_words w said a b r form decided = subst (λ x. Decided live (reading_for x) a b r) (sym form) decided

abbrev refused : Ended → Result Life Ended
refused e = Err e

as_refused : (e : Ended) (why : Unread) → e ≡ refusal_of why → refused e ≡ refused (refusal_of why)
as_refused e why is = ap refused is

-- `name` is the program's, as the words say it
module _ (said : Words) (name : List ℕ) (is_name : name ≡ said.program) (a b : Outside) where
  named_read : (result : Result (List ℕ) Unread) → FileRead name program_limit a b result → FileRead said.program program_limit a b result
  named_read result read = subst (λ n. FileRead n program_limit a b result) is_name read

  -- the program's file was refused
  pub program_refused : (why : Unread) (e : Ended) → FileRead name program_limit a b (Err why) → e ≡ refusal_of why → Decided live (reading_by said) a b (Err e)
  program_refused why e read is = inl (why, named_read (Err why) read, as_refused e why is)

  module _ (program : List ℕ) (read : FileRead name program_limit a b (Ok program)) (c : Outside) where
    -- the input
    pub input_refused : (why : Unread) (e : Ended) → InputRead b c (Err why) → e ≡ refusal_of why → Decided live (reading_by said) a c (Err e)
    input_refused why e next is = inr (program, b, named_read (Ok program) read, inl (why, next, as_refused e why is))

    -- nothing was refused
    pub all_given : (input : List ℕ) (r : Result Life Ended) → InputRead b c (Ok input) → UnlessFull NoMemory (Lives (record { program = program; input = input; said = said })) r → Decided live (reading_by said) a c r
    all_given input r next is = inr (program, b, named_read (Ok program) read, inr (input, c, next, (refl, is)))

-- a program that is refused delivers this refusal
pub refused_program : (asked : Asked) (e : Ended) → Refuses asked.program asked.said.region e ⊎ (e ≡ NoMemory) → UnlessFull NoMemory (Lives asked) (Err e)
refused_program asked e (inr is) = inr (ap refused is)
refused_program asked (Program fault) (inl is) = inl (bad_program fault is)
refused_program asked (Ran outcome) (inl is) = absurd is
refused_program asked Usage (inl is) = absurd is
refused_program asked (ReadFault name) (inl is) = absurd is
refused_program asked (TooLong name) (inl is) = absurd is
refused_program asked (Script fault) (inl is) = absurd is
refused_program asked WriteFault (inl is) = absurd is
refused_program asked NoMemory (inl is) = absurd is
