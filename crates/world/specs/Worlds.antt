-- A machine whose code is moved while it runs: its state, what its code always keeps, and a step of it. Source: this project.
use Rattle.std.specs.Prelude.{◌≡◌, ℕ, ◌+◌, ◌-◌, ◌%◌, ◌^◌, ◌<◌, min, ◌&&◌, not, List, [], length, All, AllPairs, Option, Some, if◌then◌else◌}
use Rattle.std.specs.List.{list_any}
use Rattle.std.specs.Option.{option_map}
use Rattle.oc_base.specs.declared.range.Range.{Range}
use Rattle.image.specs.declared.ranges.TextRange.{TextRange}
use Rattle.image.specs.Texts.{word_at}
use Rattle.image.specs.Picture.{Picture, IsKept}
use Rattle.layout.specs.Laid.{Laid}
use Rattle.layout.specs.declared.point.Point.{Point}
use Rattle.layout.specs.declared.point.Point.TheVariants.{Start}
use Rattle.layout.specs.Points.{Code, in_range, live_at, here_point}
use Rattle.layout.specs.Points as points
use Rattle.layout.specs.Rows.{CallsAim}
use Rattle.layout.specs.Alone.{InRegion}
use Rattle.branch_ring.specs.declared.counted.Counted.{Counted}
use Rattle.branch_ring.specs.Rings.{Notes}
use Rattle.layout.specs.Apart.{LieApart, covers}
use Rattle.machine.specs.Start.{start_of}
use Rattle.machine.specs.States.{State}
use Rattle.patcher.specs.Patched.{IsPlaced}
use Rattle.region.specs.Free.{Rises, is_free, piece}
use Rattle.sched_log.specs.declared.facts.Refused.{Refused}
use Rattle.sim_laws.specs.declared.stepped.Stepped.{Stepped}
use Rattle.sim_laws.specs.declared.stepped.Stepped.TheVariants as kind
use Rattle.sim_laws.specs.Codes.{GoesToWord}
use Rattle.sim_laws.specs.Related.{StatesRelated}
use Rattle.sim_laws.specs.Steps.{replaced_step, replaced_transfer, stepped}
use Rattle.world.specs.declared.counts.Counts.{Counts}
use Rattle.world.specs.Rings.{empty_rings, with_transfer}

pub record Replaced : Type 0 where
  pub image : Picture
  -- the words of text now
  pub text : List TextRange
  -- the live layouts, in the order in which they were made, and their numbers
  pub lives : List Laid
  pub numbers : List ℕ
  -- the free ranges of the region
  pub free : List Range
  pub machine : State
  pub counts : Counts
  -- the refused attempts, in their order
  pub refusals : List Refused
  -- the last transfers of each hart, by original addresses
  pub rings : List Notes
  -- the profile of the last snapshot
  pub snapshot : List Counted

-- the code of an image with these words of text and these live layouts, as functions of an address
abbrev pub code_in : Picture → List TextRange → List Laid → Code
code_in p text lives = points.code_of p (word_at text) lives

abbrev pub code_of : Replaced → Code
code_of w = code_in w.image w.text w.lives

-- what an address stands for, by the region and the live layouts alone
abbrev pub point_at : Range → List Laid → ℕ → Option Point
point_at r lives a = if in_range r a then option_map here_point (live_at lives a) else Some (Start a)

-- ---- what its code always keeps
pub record IsSound (p : Picture) (text : List TextRange) (lives : List Laid) (numbers : List ℕ) (free : List Range) : Type 0 where
  pub kept : IsKept p
  -- text and layouts render the image, and the lists of each layout are those of its calls
  pub placed : IsPlaced p text lives
  -- each Hop goes to a whole word
  pub hops : All (λ l. All GoesToWord l.points) lives
  -- each call is the original word, or goes to a live Start of its function or to its original start
  pub aims : CallsAim (code_in p text lives)
  -- the layouts have words, and lie in the region, apart from one another
  pub some : All (λ l. 0 < length l.words) lives
  pub within : All (λ l. InRegion p l.base (length l.words)) lives
  pub apart : AllPairs LieApart lives
  pub numbered : length numbers ≡ length lives
  -- the free ranges ascend, begin at whole words, and are exactly the rest of the region
  pub rises : Rises p.region.from p.region.to free
  pub whole : All (λ r. r.from % 4 ≡ 0) free
  pub rest : (a : ℕ) → is_free free a ≡ (in_range p.region a && not (list_any (covers a) lives))

-- a world keeps what each world keeps: among the rest, its code renders the image
abbrev pub IsWorld : Replaced → Type 0
IsWorld w = IsSound w.image w.text w.lives w.numbers w.free

-- before the first step: no layout is live, all of the region is free, the text is the image's, and nothing is recorded
abbrev pub started : Picture → (ring : ℕ) → (input : List ℕ) → Replaced
started p ring input = record {
  image = p;
  text = p.texts;
  lives = [];
  numbers = [];
  free = piece p.region.from p.region.to;
  machine = start_of p input;
  counts = record { real = 0; layout = 0; snaps = 0; attempts = 0; done = 0; placed = 0 };
  refusals = [];
  rings = empty_rings ring;
  snapshot = [];
}

-- the world stands for a state of the original machine
pub record Related (w : Replaced) (o : State) : Type 0 where
  pub states : StatesRelated w.image (code_of w) w.machine o
  pub sound : IsWorld w

-- ---- one step
-- a count stays at the greatest number of 64 bits once it is there
abbrev pub more : ℕ → ℕ
more n = min (n + 1) (2 ^ 64 - 1)

-- what the step of hart h is
abbrev pub kind_of : ℕ → Replaced → Stepped
kind_of h w = stepped (code_of w) h w.machine

abbrev pub counted : Stepped → Counts → Counts
counted kind.Real c = record c { real = more c.real }
counted kind.Layout c = record c { layout = more c.layout }
counted kind.Over c = c

unfoldable pub step_of : ℕ → Replaced → Replaced
step_of h w = record w {
  machine = replaced_step w.image (code_of w) h w.machine;
  counts = counted (kind_of h w) w.counts;
  rings = with_transfer h (replaced_transfer w.image (code_of w) h w.machine) w.rings;
}
