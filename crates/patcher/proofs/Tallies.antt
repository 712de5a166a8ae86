-- Calls that are noted, one after another.
use Rattle.std.proofs.Common.{◌≡◌, ℕ, zero, suc, ◌≤◌, Bool, true, false, List, [], ◌∷◌, ◌++◌, get_or, refl, sym, ◌∙◌, ap, subst, inl, inr, arith}
use Rattle.std.specs.Prelude.{◌⊎◌, Option, Some, None, All, Any, Contains, nat_lt, if◌then◌else◌}
use Rattle.std.proofs.lemmas.Bool.{ltb-true, ltb-false}
use Rattle.std.proofs.lemmas.List.Elements.{All-push, All-contains, Contains-push, Contains-append_left}
use Rattle.std.proofs.lemmas.List.Quantifiers.{Any-push}
use Rattle.image.specs.Picture.{Picture}
use Rattle.layout.specs.Laid.{Laid}
use Rattle.patcher.specs.declared.goal.Goal.{Goal}
use Rattle.patcher.specs.declared.goal.Call.{Call}
use Rattle.patcher.specs.declared.goal.Out.{Out}
use Rattle.patcher.specs.declared.patches.Patch.{Patch}
use Rattle.patcher.specs.Reach.{IsOut, IsNone}
use Rattle.patcher.specs.Patched.{HasGoal, IsAt, ArePatchesOf}
use Rattle.patcher.specs.Calls.{call_at, layout_calls, CallsOut, EachOut, lower, IsLeastOut, IsMadeOf, IsNoted, IsTally, EachTally, IsOneMore, patched, past_reach}

-- ---- the least
pub least_lower : (P Q R : ℕ → ℕ → Type 0) (o m : Option Out) → ((a t : ℕ) → P a t → R a t) → ((a t : ℕ) → Q a t → R a t) → ((a t : ℕ) → R a t → P a t ⊎ Q a t)
    → IsLeastOut P o → IsLeastOut Q m → IsLeastOut R (lower o m)
least_lower P Q R None None f g h x y = λ a t r. elim (h a t r) [ inl p ↦ x a t p | inr q ↦ y a t q ]
least_lower P Q R None (Some n) f g h x y = (g n.at n.target y.0, λ a t r. elim (h a t r) [ inl p ↦ absurd (x a t p) | inr q ↦ y.1 a t q ])
least_lower P Q R (Some m) None f g h x y = (f m.at m.target x.0, λ a t r. elim (h a t r) [ inl p ↦ x.1 a t p | inr q ↦ absurd (y a t q) ])
least_lower P Q R (Some m) (Some n) f g h x y = by_test (nat_lt n.at m.at) refl
  where
    by_test : (b : Bool) → nat_lt n.at m.at ≡ b → IsLeastOut R (if b then Some n else Some m)
    by_test true e =
        let lt = ltb-true n.at m.at e in
        (g n.at n.target y.0, λ a t r. elim (h a t r) [ inl p ↦ (let le = x.1 a t p in omega (arith, lt, le)) | inr q ↦ y.1 a t q ])
    by_test false e =
        let le = ltb-false n.at m.at e in
        (f m.at m.target x.0, λ a t r. elim (h a t r) [ inl p ↦ x.1 a t p | inr q ↦ (let l = y.1 a t q in omega (arith, le, l)) ])

lower_none : (o : Option Out) → lower o None ≡ o
lower_none None = refl
lower_none (Some o) = refl

pub least_same : (P Q : ℕ → ℕ → Type 0) (o : Option Out) → ((a t : ℕ) → P a t → Q a t) → ((a t : ℕ) → Q a t → P a t) → IsLeastOut P o → IsLeastOut Q o
least_same P Q None f g h = λ a t q. h a t (g a t q)
least_same P Q (Some o) f g h = (f o.at o.target h.0, λ a t q. h.1 a t (g a t q))

-- ---- lists of calls
outs_split : (xs ys : List Call) (a t : ℕ) → CallsOut (xs ++ ys) a t → CallsOut xs a t ⊎ CallsOut ys a t
outs_split [] ys a t h = inr h
outs_split (x ∷ xs) ys a t (inl h) = inl (inl h)
outs_split (x ∷ xs) ys a t (inr h) = elim (outs_split xs ys a t h) [ inl p ↦ inl (inr p) | inr q ↦ inr q ]

outs_left : (xs ys : List Call) (a t : ℕ) → CallsOut xs a t → CallsOut (xs ++ ys) a t
outs_left [] ys a t h = absurd h
outs_left (x ∷ xs) ys a t (inl h) = inl h
outs_left (x ∷ xs) ys a t (inr h) = inr (outs_left xs ys a t h)

outs_right : (xs ys : List Call) (a t : ℕ) → CallsOut ys a t → CallsOut (xs ++ ys) a t
outs_right [] ys a t h = h
outs_right (x ∷ xs) ys a t h = inr (outs_right xs ys a t h)

any_left : {X : Type 0} (P : X → Type 0) (xs ys : List X) → Any P xs → Any P (xs ++ ys)
any_left P xs ys (k, x, lt, at, h) = let c = Contains-append_left xs ys x (k, lt, at) in (c.0, x, c.1, c.2, h)

wider : (calls : List Call) (c : Call) (s : Patch) → IsMadeOf calls s → IsMadeOf (calls ++ c ∷ []) s
wider calls c s m = (m.0, Contains-append_left calls (c ∷ []) (call_at s.at m.0) m.1, m.2)

noted_left : (ps qs : List Patch) (c : Call) → IsNoted ps c → IsNoted (ps ++ qs) c
noted_left ps qs c (inl h) = inl (any_left (IsAt c.at) ps qs h)
noted_left ps qs c (inr h) = inr h

pub one_more : (calls : List Call) (c : Call) (ps qs : List Patch) (o r : Option Out) → IsTally calls ps o → IsOneMore c ps o qs r → IsTally (calls ++ c ∷ []) qs r
one_more calls c ps qs o r t (patched w m n e f) =
    rw (e, f) (record {
      each = All-push (IsMadeOf (calls ++ c ∷ [])) ps (record { at = c.at; word = w }) (λ k d lt. wider calls c (get_or ps k d) (t.each k d lt)) (c.goal, Contains-push calls c, m);
      all = All-push (IsNoted (ps ++ (record { at = c.at; word = w }) ∷ [])) calls c (λ k d lt. noted_left ps ((record { at = c.at; word = w }) ∷ []) (get_or calls k d) (t.all k d lt))
          (inl (Any-push (IsAt c.at) ps (record { at = c.at; word = w }) refl));
      least = subst (IsLeastOut (CallsOut (calls ++ c ∷ []))) (lower_none o)
          (least_lower (CallsOut calls) (CallsOut (c ∷ [])) (CallsOut (calls ++ c ∷ [])) o None (outs_left calls (c ∷ [])) (outs_right calls (c ∷ [])) (outs_split calls (c ∷ [])) t.least none);
    })
  where
    none : IsNone (CallsOut (c ∷ []))
    none a t (inl h) = n t (subst (λ (b : ℕ). IsOut (Some c.goal) b t) h.0 h.1)
    none a t (inr h) = h
one_more calls c ps qs o r t (past_reach y n e f) =
    rw (e, f) (record {
      each = λ k d lt. wider calls c (get_or ps k d) (t.each k d lt);
      all = All-push (IsNoted ps) calls c t.all (inr (y, n));
      least = least_lower (CallsOut calls) (CallsOut (c ∷ [])) (CallsOut (calls ++ c ∷ [])) o (Some (record { at = c.at; target = y })) (outs_left calls (c ∷ [])) (outs_right calls (c ∷ []))
          (outs_split calls (c ∷ [])) t.least (inl (refl, n), least);
    })
  where
    least : (a t : ℕ) → CallsOut (c ∷ []) a t → c.at ≤ a
    least a t (inl h) = let q = h.0 in omega (arith, q)
    least a t (inr h) = absurd h

-- ---- layouts
module _ (p : Picture) (new : Option Laid) where
  each_more : (ls : List Laid) (l : Laid) (ss : List (List Patch)) (s : List Patch) (o : Option Out) → EachTally p new ls ss → IsTally (layout_calls p new l) s o
      → EachTally p new (ls ++ l ∷ []) (ss ++ s ∷ [])
  each_more [] l [] s o e t = ((o, t), tt)
  each_more [] l (z ∷ ss) s o e t = absurd e
  each_more (m ∷ ls) l [] s o e t = absurd e
  each_more (m ∷ ls) l (z ∷ ss) s o e t = (e.0, each_more ls l ss s o e.1 t)

  each_out_split : (ls : List Laid) (l : Laid) (a t : ℕ) → EachOut p new (ls ++ l ∷ []) a t → EachOut p new ls a t ⊎ CallsOut (layout_calls p new l) a t
  each_out_split [] l a t (inl h) = inr h
  each_out_split [] l a t (inr h) = absurd h
  each_out_split (m ∷ ls) l a t (inl h) = inl (inl h)
  each_out_split (m ∷ ls) l a t (inr h) = elim (each_out_split ls l a t h) [ inl q ↦ inl (inr q) | inr q ↦ inr q ]

  each_out_left : (ls : List Laid) (l : Laid) (a t : ℕ) → EachOut p new ls a t → EachOut p new (ls ++ l ∷ []) a t
  each_out_left [] l a t h = absurd h
  each_out_left (m ∷ ls) l a t (inl h) = inl h
  each_out_left (m ∷ ls) l a t (inr h) = inr (each_out_left ls l a t h)

  each_out_right : (ls : List Laid) (l : Laid) (a t : ℕ) → CallsOut (layout_calls p new l) a t → EachOut p new (ls ++ l ∷ []) a t
  each_out_right [] l a t h = inl h
  each_out_right (m ∷ ls) l a t h = inr (each_out_right ls l a t h)

  pub more_each : (ls : List Laid) (l : Laid) (ss : List (List Patch)) (s : List Patch) (o : Option Out) → EachTally p new ls ss → IsTally (layout_calls p new l) s o
      → EachTally p new (ls ++ l ∷ []) (ss ++ s ∷ [])
  more_each ls l ss s o e t = each_more ls l ss s o e t

  pub more_least : (ls : List Laid) (l : Laid) (s : List Patch) (o m : Option Out) → IsLeastOut (EachOut p new ls) o → IsTally (layout_calls p new l) s m
      → IsLeastOut (EachOut p new (ls ++ l ∷ [])) (lower o m)
  more_least ls l s o m e t =
      least_lower (EachOut p new ls) (CallsOut (layout_calls p new l)) (EachOut p new (ls ++ l ∷ [])) o m (each_out_left ls l) (each_out_right ls l) (each_out_split ls l) e t.least

-- ---- a list of all calls
-- the list has each address with something to become
pub record ListsCalls (goals : ℕ → Option Goal) (calls : List Call) : Type 0 where
  pub each : All (λ c. goals c.at ≡ Some c.goal) calls
  pub all : (a : ℕ) (g : Goal) → goals a ≡ Some g → Contains calls (call_at a g)

out_of : (calls : List Call) (c : Call) (t : ℕ) → Contains calls c → IsOut (Some c.goal) c.at t → CallsOut calls c.at t
out_of [] c t (k, lt, e) h = absurd (omega arith)
out_of (d ∷ ds) c t (zero, lt, e) h = inl (ap (λ (x : Call). x.at) (sym e), subst (λ (x : Call). IsOut (Some x.goal) c.at t) (sym e) h)
out_of (d ∷ ds) c t (suc k, lt, e) h = inr (out_of ds c t (k, omega arith, e) h)

module _ (goals : ℕ → Option Goal) (calls : List Call) (lists : ListsCalls goals calls) where
  pub outs_are : (a t : ℕ) → CallsOut calls a t → IsOut (goals a) a t
  outs_are a t h = go calls lists.each h
    where
      go : (cs : List Call) → All (λ c. goals c.at ≡ Some c.goal) cs → CallsOut cs a t → IsOut (goals a) a t
      go [] each h = absurd h
      go (c ∷ cs) each (inl h) = let g : goals a ≡ Some c.goal = ap goals h.0 ∙ each 0 c (omega arith) in rw g h.1
      go (c ∷ cs) each (inr h) = go cs (λ k d lt. each (suc k) d (omega arith)) h

  pub are_outs : (a t : ℕ) → IsOut (goals a) a t → CallsOut calls a t
  are_outs a t h = by_goal (goals a) refl h
    where
      by_goal : (o : Option Goal) → goals a ≡ o → IsOut o a t → CallsOut calls a t
      by_goal None e h = absurd h
      by_goal (Some g) e h = out_of calls (call_at a g) t (lists.all a g e) h

  pub are_patches : (ps : List Patch) → IsTally calls ps None → ArePatchesOf goals ps
  are_patches ps t = record { each = λ k d lt. has_goal (get_or ps k d) (t.each k d lt); all = all }
    where
      has_goal : (s : Patch) → IsMadeOf calls s → HasGoal goals s
      has_goal s m = (m.0, All-contains (λ (c : Call). goals c.at ≡ Some c.goal) calls (call_at s.at m.0) lists.each m.1, m.2)

      all : (a : ℕ) (g : Goal) → goals a ≡ Some g → Any (IsAt a) ps
      all a g e = by_noted (All-contains (IsNoted ps) calls (call_at a g) t.all (lists.all a g e))
        where
          by_noted : IsNoted ps (call_at a g) → Any (IsAt a) ps
          by_noted (inl h) = h
          by_noted (inr h) = absurd (t.least a h.0 (out_of calls (call_at a g) h.0 (lists.all a g e) h.1))
