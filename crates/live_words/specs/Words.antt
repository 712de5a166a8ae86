-- What the words of `ocolos` say.
use Rattle.std.specs.Prelude.{ℕ, ◌≤◌, List, codes, Option, Some}
use Rattle.clap.specs.Words.{App, new_app, with_rule}
use Rattle.command_words.specs.Commands.{positional, option, flag, unnamed, said_by}
use Rattle.command_words.specs.Values.{region_in, ring_in, number_in, most_transfers, is_used, ◌>>=◌}
use Rattle.live_words.specs.declared.words.Words.{Words}

-- ---- the command, as the library reads it

-- a positional, six options and a flag, none of which has to be there
abbrev pub command : App
command = with_rule (with_rule (with_rule (with_rule (with_rule (with_rule (with_rule (with_rule
    (unnamed (new_app (codes "ocolos")))
    (positional (codes "program")))
    (option (codes "workers")))
    (option (codes "every")))
    (option (codes "limit")))
    (option (codes "region")))
    (option (codes "ring")))
    (option (codes "record")))
    (flag (codes "report"))

-- ---- the words

-- the most workers
abbrev pub most_workers : ℕ
most_workers = 16

-- the most real steps that an option may name
abbrev pub most_steps : ℕ
most_steps = 100000000

-- what the values of the arguments say, where `value` gives the first value by an argument's name
unfoldable pub words_by : (value : List ℕ → Option (List ℕ)) → Option Words
words_by value = do
  program ← value (codes "program")
  workers ← number_in 1 most_workers 2 (value (codes "workers"))
  every ← number_in 1 most_steps 100000 (value (codes "every"))
  limit ← number_in 1 most_steps 20000000 (value (codes "limit"))
  region ← region_in (value (codes "region"))
  ring ← ring_in (value (codes "ring"))
  Some (record {
    program = program;
    workers = workers;
    every = every;
    limit = limit;
    region = region;
    ring = ring;
    log_name = value (codes "record");
    report = is_used (value (codes "report"));
  })

-- What the words say, or none where they say nothing: what the library refuses, help included; what has no positional; and what has
-- a value out of its range. A second positional is refused.
unfoldable pub words_of : List (List ℕ) → Option Words
words_of words = said_by command words_by words

-- the numbers are in their ranges, whether they were given or not
pub record AreInRange (words : Words) : Type 0 where
  pub workers : (1 ≤ words.workers) × (words.workers ≤ most_workers)
  pub every : (1 ≤ words.every) × (words.every ≤ most_steps)
  pub limit : (1 ≤ words.limit) × (words.limit ≤ most_steps)
  pub ring : (1 ≤ words.ring) × (words.ring ≤ most_transfers)
