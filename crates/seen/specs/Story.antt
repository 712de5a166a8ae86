-- What a run whose code is moved did to its program: its report, the refused replacements in words, each moved block, the calls that
-- go elsewhere now, and the profile of the last snapshot. This project's own.
use Rattle.std.specs.Prelude.{ℕ, List, ◌++◌, flat_map}
use Rattle.report.specs.Text.{report_of}
use Rattle.world.specs.Told.{facts_of}
use Rattle.world.specs.Worlds.{Replaced, code_of}
use Rattle.world.specs.Told.{layout_facts}
use Rattle.seen.specs.Spots.{spots_of}
use Rattle.seen.specs.Refusals.{refused_line}
use Rattle.seen.specs.Moved.{layout_text}
use Rattle.seen.specs.Sent.{sent_text}
use Rattle.seen.specs.Profiles.{profile_text}

-- what the report doesn't tell; names are those of all functions, in their order
unfoldable pub more_of : Replaced → (names : List (List ℕ)) → List ℕ
more_of w names =
    flat_map (refused_line names) w.refusals
    ++ flat_map (layout_text (spots_of w.image) (code_of w) names) (layout_facts w.numbers w.lives)
    ++ sent_text w.image (code_of w) names
    ++ profile_text (spots_of w.image) names w.snapshot

unfoldable pub story : Replaced → (names : List (List ℕ)) → List ℕ
story w names = report_of (facts_of w) ++ more_of w names
