-- What is told of a world. Source: this project.
use Rattle.std.specs.Prelude.{ℕ, ◌+◌, ◌-◌, Bool, not, ◌==◌, ◌&&◌, List, [], ◌∷◌, length, map}
use Rattle.std.specs.List.{count_by, list_any}
use Rattle.std.specs.Option.{option_eq}
use Rattle.image.specs.declared.ranges.Aim.{Aim}
use Rattle.oc_base.specs.declared.range.Range.{Range}
use Rattle.image.specs.declared.ranges.TextRange.{TextRange}
use Rattle.image.specs.Texts.{word_at}
use Rattle.image.specs.Picture.{Picture}
use Rattle.guest_mem.specs.Access.{links_of}
use Rattle.hart.specs.declared.hart.Hart.{Hart}
use Rattle.hart.specs.declared.hart.Status.{Status}
use Rattle.hart.specs.declared.hart.Status.TheVariants.{Live, Waiting, Ended}
use Rattle.layout.specs.Laid.{Laid}
use Rattle.layout.specs.Points.{Code, in_range}
use Rattle.sched_log.specs.declared.facts.HartFact.{HartFact}
use Rattle.sched_log.specs.declared.facts.HartFact.TheVariants as told
use Rattle.sched_log.specs.declared.facts.LayoutFact.{LayoutFact}
use Rattle.sched_log.specs.declared.facts.Facts.{Facts}
use Rattle.sim_laws.specs.Origins.{origin}
use Rattle.world.specs.Worlds.{Replaced, code_of}

-- the word of text at an address isn't the original one
abbrev pub is_changed : Picture → List TextRange → ℕ → Bool
is_changed p text x = not (option_eq (λ m n. m == n) (word_at text x) (word_at p.texts x))

-- a call whose word stands this far past its place
abbrev pub call_changed : Picture → List TextRange → ℕ → Aim → Bool
call_changed p text past s = is_changed p text (s.at + past)

-- how many sites and second words of pairs differ from the original ones
abbrev pub changed_in : Picture → List TextRange → ℕ
changed_in p text = count_by (call_changed p text 0) p.sites + count_by (call_changed p text 4) p.pairs

-- the word at a slot's place is a link into the region
abbrev pub leads_in : Range → List (ℕ × ℕ) → Aim → Bool
leads_in region links s = list_any (λ (l : ℕ × ℕ). (l.0 == s.at) && in_range region l.1) links

-- where a hart is, by what it stands for, and by its address now
abbrev pub hart_by : (original pc : ℕ) → Status → HartFact
hart_by original pc Live = told.Live original pc
hart_by original pc (Waiting at) = told.Waiting original pc
hart_by original pc Ended = told.Ended

abbrev pub hart_fact : Code → Hart → HartFact
hart_fact c h = hart_by (origin c h.pc) h.pc h.status

abbrev pub layout_facts : List ℕ → List Laid → List LayoutFact
layout_facts (n ∷ ns) (l ∷ ls) = record { number = n; base = l.base; words = length l.words } ∷ layout_facts ns ls
layout_facts _ _ = []

-- how many layouts were given up: those that were made and aren't live
abbrev pub retired_in : Replaced → ℕ
retired_in w = w.counts.placed - length w.lives

unfoldable pub facts_of : Replaced → Facts
facts_of w = record {
  real = w.counts.real;
  layout = w.counts.layout;
  snaps = w.counts.snaps;
  attempts = w.counts.attempts;
  done = w.counts.done;
  retired = retired_in w;
  refusals = w.refusals;
  sites = changed_in w.image w.text;
  slots = count_by (leads_in w.image.region (links_of w.machine.memory)) w.image.slots;
  layouts = layout_facts w.numbers w.lives;
  harts = map (hart_fact (code_of w)) w.machine.harts;
}
