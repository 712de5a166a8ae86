-- What is noted of all calls is what was to be worked out.
use Rattle.std.proofs.Common.{◌≡◌, ℕ, List, [], ◌∷◌, subst, inl, inr, arith}
use Rattle.std.specs.Prelude.{Option, Some, None, All}
use Rattle.std.proofs.lemmas.List.Elements.{All-tail}
use Rattle.image.specs.Picture.{Picture}
use Rattle.layout.specs.Laid.{Laid}
use Rattle.layout.specs.Alone.{NamesCalls}
use Rattle.patcher.specs.declared.goal.Out.{Out}
use Rattle.patcher.specs.declared.patches.Patch.{Patch}
use Rattle.patcher.specs.Goals.{goal_of, goal_in}
use Rattle.patcher.specs.Reach.{TextOut, LivesOut, IsNone}
use Rattle.patcher.specs.Patched.{ArePatchesOf, EachPatches}
use Rattle.patcher.specs.Calls.{text_calls, layout_calls, CallsOut, EachOut, IsLeastOut, IsTally, EachTally}
use Rattle.patcher.proofs.Tallies.{least_same, outs_are, are_outs, are_patches}
use Rattle.patcher.proofs.CallLists.{text_lists, layout_lists}

module _ (p : Picture) (new : Option Laid) where
  pub text_made : (ps : List Patch) (o : Option Out) → o ≡ None → IsTally (text_calls p new) ps o → ArePatchesOf (goal_of p new) ps
  text_made ps o e t = are_patches (goal_of p new) (text_calls p new) (text_lists p new) ps (subst (IsTally (text_calls p new) ps) e t)

  pub text_least : (ps : List Patch) (o : Option Out) → IsTally (text_calls p new) ps o → IsLeastOut (TextOut p new) o
  text_least ps o t =
      least_same (CallsOut (text_calls p new)) (TextOut p new) o (outs_are (goal_of p new) (text_calls p new) (text_lists p new)) (are_outs (goal_of p new) (text_calls p new) (text_lists p new)) t.least

  each_are : (ls : List Laid) → All (NamesCalls p) ls → (a t : ℕ) → EachOut p new ls a t → LivesOut p new ls a t
  each_are [] n a t h = absurd h
  each_are (l ∷ ls) n a t (inl h) = inl (outs_are (goal_in p new l) (layout_calls p new l) (layout_lists p new l (n 0 l (omega arith))) a t h)
  each_are (l ∷ ls) n a t (inr h) = inr (each_are ls (All-tail (NamesCalls p) l ls n) a t h)

  are_each : (ls : List Laid) → All (NamesCalls p) ls → (a t : ℕ) → LivesOut p new ls a t → EachOut p new ls a t
  are_each [] n a t h = absurd h
  are_each (l ∷ ls) n a t (inl h) = inl (are_outs (goal_in p new l) (layout_calls p new l) (layout_lists p new l (n 0 l (omega arith))) a t h)
  are_each (l ∷ ls) n a t (inr h) = inr (are_each ls (All-tail (NamesCalls p) l ls n) a t h)

  pub lives_least : (ls : List Laid) (o : Option Out) → All (NamesCalls p) ls → IsLeastOut (EachOut p new ls) o → IsLeastOut (LivesOut p new ls) o
  lives_least ls o n t = least_same (EachOut p new ls) (LivesOut p new ls) o (each_are ls n) (are_each ls n) t

  settled : (l : Laid) (ps : List Patch) (o : Option Out) → IsNone (CallsOut (layout_calls p new l)) → IsTally (layout_calls p new l) ps o → IsTally (layout_calls p new l) ps None
  settled l ps None n t = t
  settled l ps (Some o) n t = absurd (n o.at o.target t.least.0)

  pub lives_made : (ls : List Laid) (ss : List (List Patch)) → All (NamesCalls p) ls → IsNone (EachOut p new ls) → EachTally p new ls ss → EachPatches p new ls ss
  lives_made [] [] n h e = tt
  lives_made [] (s ∷ ss) n h e = absurd e
  lives_made (l ∷ ls) [] n h e = absurd e
  lives_made (l ∷ ls) (s ∷ ss) n h e = (
    are_patches (goal_in p new l) (layout_calls p new l) (layout_lists p new l (n 0 l (omega arith))) s (settled l s e.0.0 (λ a t o. h a t (inl o)) e.0.1),
    lives_made ls ss (All-tail (NamesCalls p) l ls n) (λ a t o. h a t (inr o)) e.1,
  )
