-- A picture of a program's code: where each block was, how often it ran, and where it lies in each layout. This project's own.
use Rattle.std.specs.Prelude.{ℕ, ◌+◌, ◌-◌, ◌*◌, ◌/◌, ◌^◌, nat_le, min, max, List, [], ◌∷◌, ◌++◌, codes, length, flat_map, slice_get, Option, if◌then◌else◌}
use Rattle.std.specs.Option.{option_map_or}
use Rattle.std.specs.List.{fold}
use Rattle.std.specs.Fmt.{decimal}
use Rattle.drawing.specs.declared.parts.Block.{Block}
use Rattle.drawing.specs.declared.parts.Function.{Function}
use Rattle.drawing.specs.declared.parts.Place.{Place}
use Rattle.drawing.specs.declared.parts.Layout.{Layout}
use Rattle.drawing.specs.declared.parts.Drawing.{Drawing}
use Rattle.drawing.specs.declared.strip.Strip.{Strip}
use Rattle.drawing.specs.Marks.{range_text, name_text, worded, numbered, point_text, size_text, colour_of, wide, middle, rect_text, mark_text, ground_text}

abbrev pub lowest : ℕ → List Block → ℕ
lowest low blocks = fold (λ n b. min n b.from) low blocks

abbrev pub highest : ℕ → List Block → ℕ
highest high blocks = fold (λ n b. max n b.to) high blocks

-- the strip from the lowest address to the highest; where there is none, from 0 to 0
abbrev pub strip_over : (low high top : ℕ) → Strip
strip_over low high top = record { from = min low high; to = high; top = top }

-- the addresses of one function
unfoldable pub span_of : Function → Strip
span_of f = strip_over (lowest (2 ^ 64 - 1) f.blocks) (highest 0 f.blocks) 105

-- the addresses of all functions
unfoldable pub text_strip : List Function → Strip
text_strip fs = strip_over (fold (λ n f. lowest n f.blocks) (2 ^ 64 - 1) fs) (fold (λ n f. highest n f.blocks) 0 fs) 105

-- strip i of the layouts, which stand 120 apart below the text
abbrev pub layout_strip : (i : ℕ) → Layout → Strip
layout_strip i l = record { from = l.base; to = l.to; top = 230 + 120 * i }

-- ---- the head, and which colour is how often
unfoldable pub heading : List ℕ
heading = codes "Code, and where it moved"

unfoldable pub namespace : List ℕ
namespace = codes " xmlns='http://www.w3.org/2000/svg'"

unfoldable pub view_box : (height : ℕ) → List ℕ
view_box height = codes " viewBox='0 0 1240 " ++ decimal height ++ codes "'"

unfoldable pub family : List ℕ
family = codes " font-family='sans-serif'"

unfoldable pub font_text : List ℕ
font_text = family ++ numbered (codes "font-size") 11

unfoldable pub svg_tag : (height : ℕ) → List ℕ
svg_tag height = codes "<svg" ++ namespace ++ view_box height ++ size_text 1240 height ++ font_text ++ codes ">\n"

unfoldable pub title_line : List ℕ
title_line = codes "<title>" ++ heading ++ codes "</title>\n"

-- a white ground
unfoldable pub paper_text : (height : ℕ) → List ℕ
paper_text height = codes "<rect" ++ size_text 1240 height ++ worded (codes "fill") (codes "#ffffff") ++ codes "/>\n"

unfoldable pub heading_line : List ℕ
heading_line = codes "<text" ++ point_text 20 28 ++ numbered (codes "font-size") 16 ++ codes ">" ++ heading ++ codes "</text>\n"

unfoldable pub head_of : (height : ℕ) → List ℕ
head_of height = svg_tag height ++ title_line ++ paper_text height ++ heading_line

abbrev pub head_text : (layouts : ℕ) → List ℕ
head_text layouts = head_of (180 + 120 * layouts)

unfoldable pub words_text : (x y : ℕ) (words : List ℕ) → List ℕ
words_text x y words = codes "<text" ++ point_text x y ++ codes ">" ++ words ++ codes "</text>\n"

-- the colour of a count, and words for it
unfoldable pub key_text : (x count : ℕ) (words : List ℕ) → List ℕ
key_text x count words = rect_text x 42 12 12 (colour_of count) ++ codes "/>\n" ++ words_text (x + 18) 52 words

unfoldable pub few_keys : List ℕ
few_keys =
    key_text 20 0 (codes "never ran")
    ++ key_text 170 1 (codes "1 to 9 times")
    ++ key_text 320 10 (codes "10 to 99")
    ++ key_text 470 100 (codes "100 to 999")

unfoldable pub many_keys : List ℕ
many_keys =
    key_text 620 1000 (codes "1,000 to 9,999")
    ++ key_text 770 10000 (codes "10,000 to 99,999")
    ++ key_text 920 100000 (codes "100,000 to 999,999")
    ++ key_text 1070 1000000 (codes "1,000,000 or more")

-- ---- the text
unfoldable pub caption_text : Strip → List ℕ
caption_text s = codes "<text" ++ point_text 20 82 ++ codes ">text " ++ range_text s.from s.to ++ codes "</text>\n"

unfoldable pub block_text : Strip → Block → List ℕ
block_text s b = mark_text s b.from b.to (colour_of b.count) ++ codes "/>\n"

unfoldable pub title_text : Function → (a b : ℕ) → List ℕ
title_text f a b =
    codes "<g><title>" ++ name_text f.name ++ codes ", function " ++ decimal f.number ++ codes ", " ++ range_text a b ++ codes "</title>\n"

unfoldable pub centred : List ℕ
centred = codes " text-anchor='middle'"

-- a name with its middle there
unfoldable pub name_at : (x : ℕ) (name : List ℕ) → List ℕ
name_at x name = codes "<text" ++ point_text x 100 ++ centred ++ codes ">" ++ name_text name ++ codes "</text>\n"

-- the name over its function, where it has room: 7 for a byte, and 6
unfoldable pub label_text : Strip → (name : List ℕ) (a b : ℕ) → List ℕ
label_text s name a b = if nat_le (length name) ((wide s a b - 6) / 7) then name_at (middle s a b) name else []

-- a function, which has these addresses
unfoldable pub group_text : Strip → Function → (span : Strip) → List ℕ
group_text s f span =
    title_text f span.from span.to ++ flat_map (block_text s) f.blocks ++ label_text s f.name span.from span.to ++ codes "</g>\n"

unfoldable pub function_text : Strip → Function → List ℕ
function_text s f = group_text s f (span_of f)

-- ---- layouts
-- the block that lies at a place
abbrev pub block_of : List Function → Place → Option Block
block_of fs p = slice_get (option_map_or (λ f. f.blocks) (slice_get fs p.function) []) p.block

-- how often it ran; 0 for a block that there isn't
abbrev pub count_of : List Function → Place → ℕ
count_of fs p = option_map_or (λ b. b.count) (block_of fs p) 0

unfoldable pub ends_text : (x1 x2 y2 : ℕ) → List ℕ
ends_text x1 x2 y2 = numbered (codes "x1") x1 ++ numbered (codes "y1") 145 ++ numbered (codes "x2") x2 ++ numbered (codes "y2") y2

unfoldable pub stroke_text : (colour : List ℕ) → List ℕ
stroke_text colour = worded (codes "stroke") colour ++ worded (codes "stroke-opacity") (codes "0.5")

unfoldable pub thread_text : (text layout : Strip) → Place → Block → List ℕ
thread_text text layout p b =
    codes "<line" ++ ends_text (middle text b.from b.to) (middle layout p.from p.to) layout.top ++ stroke_text (colour_of b.count) ++ codes "/>\n"

-- the line from where a block was to where it lies
unfoldable pub line_text : (text layout : Strip) → List Function → Place → List ℕ
line_text text layout fs p = option_map_or (thread_text text layout p) (block_of fs p) []

unfoldable pub place_title : Place → List ℕ
place_title p = codes "<title>" ++ decimal p.function ++ codes ":" ++ decimal p.block ++ codes " " ++ range_text p.from p.to ++ codes "</title>"

unfoldable pub place_text : (layout : Strip) → List Function → Place → List ℕ
place_text layout fs p = mark_text layout p.from p.to (colour_of (count_of fs p)) ++ codes ">" ++ place_title p ++ codes "</rect>\n"

-- a layout's name below its strip
unfoldable pub layout_name : (number : ℕ) (layout : Strip) → List ℕ
layout_name number layout =
    codes "<text" ++ point_text 20 (layout.top + 54) ++ codes ">layout " ++ decimal number ++ codes " " ++ range_text layout.from layout.to ++ codes "</text>\n"

unfoldable pub strip_text : (number : ℕ) (layout : Strip) → List Function → List Place → List ℕ
strip_text number layout fs places = ground_text layout ++ flat_map (place_text layout fs) places ++ layout_name number layout

-- layouts have places in their list, from i on
abbrev pub lines_text : (text : Strip) → List Function → (i : ℕ) → List Layout → List ℕ
lines_text text fs i [] = []
lines_text text fs i (l ∷ ls) = flat_map (line_text text (layout_strip i l) fs) l.places ++ lines_text text fs (i + 1) ls

abbrev pub strips_text : List Function → (i : ℕ) → List Layout → List ℕ
strips_text fs i [] = []
strips_text fs i (l ∷ ls) = strip_text l.number (layout_strip i l) fs l.places ++ strips_text fs (i + 1) ls

-- ---- all of it: lines lie below what they join
unfoldable pub frame_text : (layouts : ℕ) (text : Strip) → List ℕ
frame_text layouts text = head_text layouts ++ few_keys ++ many_keys ++ caption_text text

unfoldable pub body_text : (text : Strip) → List Function → List Layout → List ℕ
body_text text fs ls = lines_text text fs 0 ls ++ ground_text text ++ flat_map (function_text text) fs ++ strips_text fs 0 ls

unfoldable pub picture_text : (text : Strip) → Drawing → List ℕ
picture_text text d = frame_text (length d.layouts) text ++ body_text text d.functions d.layouts ++ codes "</svg>\n"

unfoldable pub svg : Drawing → List ℕ
svg d = picture_text (text_strip d.functions) d
