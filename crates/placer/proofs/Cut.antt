-- The blocks of a function lie apart, ascending.
use Rattle.std.proofs.Common.{◌≡◌, ℕ, ◌+◌, ◌<◌, ◌≤◌, Bool, List, [], ◌∷◌, length, map, inl, inr, refl, subst, ◌∙◌, arith}
use Rattle.std.specs.Prelude.{All, AllPairs, is_none, slice_get, Some, None, if◌then◌else◌}
use Rattle.std.proofs.lemmas.List.{length-map}
use Rattle.std.proofs.lemmas.Option.{slice_get_cases}
use Rattle.std.proofs.lemmas.List.Elements.{All-cons, All-nil}
use Rattle.std.proofs.lemmas.List.Kept.{AllPairs-cons}
use Rattle.image.specs.declared.ranges.TextRange.{TextRange}
use Rattle.image.specs.declared.ranges.Func.{Func}
use Rattle.image.specs.Picture.{Picture, IsFunc, IsKept, IsText}
use Rattle.blocks.specs.declared.word.Word.{Word}
use Rattle.blocks.specs.declared.run.Run.{Run}
use Rattle.blocks.specs.declared.run.Block.{Block}
use Rattle.blocks.specs.Blocks.{block_of, blocks_of, runs_of}
use Rattle.blocks.specs.Faults.{fault_of}
use Rattle.blocks.specs.Sound.{IsRun, AreRuns, IsSound}
use Rattle.blocks.proofs.Reading.{func_low}
use Rattle.branch_ring.specs.declared.counted.Counted.{Counted}
use Rattle.branch_ring.specs.Profiles.{Precedes}
use Rattle.place_blocks.specs.Inputs.{AreBlocks}
use Rattle.place_blocks.specs.Orders.{IsChain}
use Rattle.placer.specs.Shares.{IsShare}
use Rattle.placer.proofs.Shared.{AreInside, share_chain}

module _ (texts : List TextRange) (f : Func) (runs : List Run) where
  run_some : (a b : ℕ) (falls : Bool) (ws : List Word) → IsRun texts f runs a ws b falls → a < b
  run_some a b falls [] h = absurd h
  run_some a b falls (w ∷ []) h = omega (arith, h.1)
  run_some a b falls (w ∷ v ∷ ws) h = let rest = run_some (a + 4) b falls (v ∷ ws) h.3 in omega arith

  above : (a b : ℕ) (rs : List Run) → AreRuns texts f runs a rs b → All (λ c. a ≤ c.range.from) (map block_of rs)
  above a b [] h = All-nil (λ (c : Block). a ≤ c.range.from)
  above a b (r ∷ rs) h =
      let some = run_some r.from r.to r.falls r.words h.1 in
      All-cons (λ (c : Block). a ≤ c.range.from) (block_of r) (map block_of rs) (omega (arith, h.0)) (λ i d l. let rest = above r.to b rs h.3 i d l in omega (arith, rest, some, h.0))

  filled : (a b : ℕ) (rs : List Run) → AreRuns texts f runs a rs b → All (λ c. c.range.from < c.range.to) (map block_of rs)
  filled a b [] h = All-nil (λ (c : Block). c.range.from < c.range.to)
  filled a b (r ∷ rs) h =
      All-cons (λ (c : Block). c.range.from < c.range.to) (block_of r) (map block_of rs) (run_some r.from r.to r.falls r.words h.1) (filled r.to b rs h.3)

  apart : (a b : ℕ) (rs : List Run) → AreRuns texts f runs a rs b → AllPairs (λ c d. c.range.to ≤ d.range.from) (map block_of rs)
  apart a b [] h = λ i j d l k. absurd (omega (arith, k))
  apart a b (r ∷ rs) h = AllPairs-cons (λ (c d : Block). c.range.to ≤ d.range.from) (block_of r) (map block_of rs) (above r.to b rs h.3) (apart r.to b rs h.3)

  few : (a b : ℕ) (rs : List Run) → AreRuns texts f runs a rs b → a + length rs ≤ b
  few a b [] h = omega (arith, h)
  few a b (r ∷ rs) h =
      let some = run_some r.from r.to r.falls r.words h.1 in
      let rest = few r.to b rs h.3 in
      omega (arith, some, rest, h.0)

  ends : (a b : ℕ) (rs : List Run) → AreRuns texts f runs a rs b → All (λ c. c.range.to ≤ b) (map block_of rs)
  ends a b [] h = All-nil (λ (c : Block). c.range.to ≤ b)
  ends a b (r ∷ rs) h = All-cons (λ (c : Block). c.range.to ≤ b) (block_of r) (map block_of rs) (let rest = few r.to b rs h.3 in omega arith) (ends r.to b rs h.3)

pub are_blocks : (texts : List TextRange) (f : Func) (runs : List Run) → All IsText texts → IsFunc texts f → IsSound texts f runs → AreBlocks (map block_of runs)
are_blocks texts f runs fit is sound =
    let most = few texts f runs f.from f.to runs sound.words in
    let low = func_low texts f fit is in
    record {
      filled = filled texts f runs f.from f.to runs sound.words;
      apart = apart texts f runs f.from f.to runs sound.words;
      few = rw length-map (omega (arith, most, low));
    }

pub readable_blocks : (p : Picture) (n : ℕ) (blocks : List Block) → IsKept p → n < length p.funcs → fault_of p n ≡ None
    → ((f : Func) → slice_get p.funcs n ≡ Some f → IsSound p.texts f (runs_of p n)) → Some blocks ≡ (if is_none (fault_of p n) then Some (blocks_of p n) else None) → AreBlocks blocks
unfolding blocks_of
readable_blocks p n blocks kept there none sound is =
    elim (slice_get_cases p.funcs n).1 [
      | inl (f, l, found, place) ↦ (
          let fits : IsFunc p.texts f = subst (IsFunc p.texts) place (kept.funcs_fit n f l) in
          let readable : Some blocks ≡ Some (map block_of (runs_of p n)) = is ∙ rw none refl in
          let same : blocks ≡ map block_of (runs_of p n) = cc in
          rw same (are_blocks p.texts f (runs_of p n) kept.texts_fit fits (sound f found)))
      | inr (past, missing) ↦ absurd (omega (arith, past, there))
    ]

lie_inside : (texts : List TextRange) (f : Func) (runs : List Run) → IsSound texts f runs → AreInside f (map block_of runs)
lie_inside texts f runs sound =
    record {
      low = above texts f runs f.from f.to runs sound.words;
      high = ends texts f runs f.from f.to runs sound.words;
      filled = filled texts f runs f.from f.to runs sound.words;
    }

-- the order of a readable function's blocks for its share of a profile is that for the profile
pub part_chain : (p : Picture) (n : ℕ) (f : Func) (blocks : List Block) (part profile : List Counted) (order : List ℕ) → fault_of p n ≡ None
    → ((g : Func) → slice_get p.funcs n ≡ Some g → IsSound p.texts g (runs_of p n)) → Some blocks ≡ (if is_none (fault_of p n) then Some (blocks_of p n) else None) → slice_get p.funcs n ≡ Some f
    → AllPairs Precedes profile → IsShare f profile part → IsChain blocks part order → IsChain (blocks_of p n) profile order
unfolding blocks_of
part_chain p n f blocks part profile order none sound is found up s h =
    let readable : Some blocks ≡ Some (map block_of (runs_of p n)) = is ∙ rw none refl in
    let same : blocks ≡ map block_of (runs_of p n) = cc in
    let inside : AreInside f (map block_of (runs_of p n)) = lie_inside p.texts f (runs_of p n) (sound f found) in
    share_chain f (map block_of (runs_of p n)) inside part profile up s order (subst (λ (bs : List Block). IsChain bs part order) same h)
