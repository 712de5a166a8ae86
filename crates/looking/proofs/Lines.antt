-- The lines of functions and of blocks, one on.
use Rattle.std.proofs.Common.{◌≡◌, ℕ, ◌+◌, ◌<◌, ◌≤◌, List, ◌++◌, length, drop, get_or, ap, sym, append_assoc, ◌∙◌}
use Rattle.std.proofs.lemmas.List.{at_drop_more, at_drop_all, append-nil}
use Rattle.image.specs.declared.ranges.Func.{Func}
use Rattle.image.specs.Picture.{Picture}
use Rattle.blocks.specs.declared.run.Run.{Run}
use Rattle.looking.specs.Functions.{func_line, func_lines}
use Rattle.looking.specs.Listing.{run_text, run_texts}

pub funcs_more : (p : Picture) (names : List (List ℕ)) (funcs : List Func) (n : ℕ) (d : Func) (before all : List ℕ) → n < length funcs → before ++ func_lines p names n (drop n funcs) ≡ all → (before ++ func_line p names n (get_or funcs n d)) ++ func_lines p names (n + 1) (drop (n + 1) funcs) ≡ all
funcs_more p names funcs n d before all within is =
    append_assoc before (func_line p names n (get_or funcs n d)) (func_lines p names (n + 1) (drop (n + 1) funcs)) ∙ ap (λ t. before ++ t) (sym (at_drop_more (func_lines p names n) funcs n d within)) ∙ is

pub funcs_done : (p : Picture) (names : List (List ℕ)) (funcs : List Func) (n : ℕ) (before all : List ℕ) → length funcs ≤ n → before ++ func_lines p names n (drop n funcs) ≡ all → before ≡ all
funcs_done p names funcs n before all past is = sym (append-nil before) ∙ ap (λ t. before ++ t) (sym (at_drop_all (func_lines p names n) funcs n past)) ∙ is

pub runs_more : (f : ℕ) (all_runs runs : List Run) (k : ℕ) (d : Run) (before all : List ℕ) → k < length runs → before ++ run_texts f all_runs k (drop k runs) ≡ all → (before ++ run_text f all_runs k (get_or runs k d)) ++ run_texts f all_runs (k + 1) (drop (k + 1) runs) ≡ all
runs_more f all_runs runs k d before all within is =
    append_assoc before (run_text f all_runs k (get_or runs k d)) (run_texts f all_runs (k + 1) (drop (k + 1) runs)) ∙ ap (λ t. before ++ t) (sym (at_drop_more (run_texts f all_runs k) runs k d within)) ∙ is

pub runs_done : (f : ℕ) (all_runs runs : List Run) (k : ℕ) (before all : List ℕ) → length runs ≤ k → before ++ run_texts f all_runs k (drop k runs) ≡ all → before ≡ all
runs_done f all_runs runs k before all past is = sym (append-nil before) ∙ ap (λ t. before ++ t) (sym (at_drop_all (run_texts f all_runs k) runs k past)) ∙ is
