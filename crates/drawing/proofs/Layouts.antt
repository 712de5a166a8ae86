-- The lines to layouts, and their strips, one on.
use Rattle.std.proofs.Common.{◌≡◌, ℕ, ◌+◌, ◌<◌, ◌≤◌, List, ◌++◌, length, drop, get_or, ap, sym, append_assoc, flat_map, ◌∙◌}
use Rattle.std.proofs.lemmas.List.{at_drop_more, at_drop_all, append-nil}
use Rattle.drawing.specs.declared.parts.Function.{Function}
use Rattle.drawing.specs.declared.parts.Layout.{Layout}
use Rattle.drawing.specs.declared.strip.Strip.{Strip}
use Rattle.drawing.specs.Picture.{layout_strip, line_text, lines_text, strip_text, strips_text}

pub lines_more : (s : Strip) (fs : List Function) (ls : List Layout) (i : ℕ) (d : Layout) (before all : List ℕ) → i < length ls → before ++ lines_text s fs i (drop i ls) ≡ all → (before ++ flat_map (line_text s (layout_strip i (get_or ls i d)) fs) (get_or ls i d).places) ++ lines_text s fs (i + 1) (drop (i + 1) ls) ≡ all
lines_more s fs ls i d before all within is =
    append_assoc before (flat_map (line_text s (layout_strip i (get_or ls i d)) fs) (get_or ls i d).places) (lines_text s fs (i + 1) (drop (i + 1) ls)) ∙ ap (λ t. before ++ t) (sym (at_drop_more (lines_text s fs i) ls i d within)) ∙ is

pub lines_done : (s : Strip) (fs : List Function) (ls : List Layout) (i : ℕ) (before all : List ℕ) → length ls ≤ i → before ++ lines_text s fs i (drop i ls) ≡ all → before ≡ all
lines_done s fs ls i before all past is = sym (append-nil before) ∙ ap (λ t. before ++ t) (sym (at_drop_all (lines_text s fs i) ls i past)) ∙ is

pub strips_more : (fs : List Function) (ls : List Layout) (i : ℕ) (d : Layout) (before all : List ℕ) → i < length ls → before ++ strips_text fs i (drop i ls) ≡ all → (before ++ strip_text (get_or ls i d).number (layout_strip i (get_or ls i d)) fs (get_or ls i d).places) ++ strips_text fs (i + 1) (drop (i + 1) ls) ≡ all
strips_more fs ls i d before all within is =
    append_assoc before (strip_text (get_or ls i d).number (layout_strip i (get_or ls i d)) fs (get_or ls i d).places) (strips_text fs (i + 1) (drop (i + 1) ls)) ∙ ap (λ t. before ++ t) (sym (at_drop_more (strips_text fs i) ls i d within)) ∙ is

pub strips_done : (fs : List Function) (ls : List Layout) (i : ℕ) (before all : List ℕ) → length ls ≤ i → before ++ strips_text fs i (drop i ls) ≡ all → before ≡ all
strips_done fs ls i before all past is = sym (append-nil before) ∙ ap (λ t. before ++ t) (sym (at_drop_all (strips_text fs i) ls i past)) ∙ is
