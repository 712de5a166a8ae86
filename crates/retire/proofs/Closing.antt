-- Of the layouts that are marked, those that don't wait have been followed; once none waits, exactly the ones that are referred to are marked.
use Rattle.std.proofs.Common.{◌≡◌, ℕ, ◌+◌, ◌<◌, Bool, true, false, List, [], ◌∷◌, ◌++◌, length, get_or, Option, Some, None, inl, inr, refl, ap, subst, ◌∙◌, arith}
use Rattle.std.specs.Prelude.{not, Contains, count_by}
use Rattle.std.specs.List.{slice_get}
use Rattle.std.proofs.lemmas.Bool.{cases_lt, cases_order}
use Rattle.std.proofs.lemmas.List.Elements.{Contains-push, Contains-push_cases, Contains-append_left, Contains-get_or}
use Rattle.std.proofs.lemmas.List.Quantifiers.{all_pairs_push}
use Rattle.std.proofs.lemmas.List.{length_push}
use Rattle.std.proofs.lemmas.Option.{slice_get_within, get_or_from_slice_get, slice_get-get_or}
use Rattle.layout.specs.Laid.{Laid}
use Rattle.retire.specs.References.{PointInto, CallsInto, aims_of, Refers, by_pointer, by_call, AreUnreferenced}
use Rattle.retire.specs.Marks.{IsMarked, Marked, IsClosing, AreReferred, AreUnmarked, left_of}
use Rattle.retire.specs.declared.marks.Marks.{Marks}

-- a layout that a referred one calls is referred to, itself or another
pub called : (lives : List Laid) (held : List ℕ) (j k : ℕ) → Refers lives held j → CallsInto lives j k → Refers lives held k
called lives held j k r h = elim (cases_order j k) [
  | inl same ↦ subst (Refers lives held) same r
  | inr other ↦ by_call j k (λ e. elim other [ inl below ↦ omega (arith, e, below) | inr above ↦ omega (arith, e, above) ]) r h
]

-- the first that are marked
pub begins : (lives : List Laid) (held : List ℕ) (m n : Marks) → length m.marked.items ≡ length lives → ((k : ℕ) → IsMarked m.marked.items k → ⊥) → m.waiting.items ≡ []
    → Marked (PointInto lives held) m n → IsClosing lives held n
begins lives held m n size none empty marks = record {
  size = marks.size ∙ size;
  sound = λ k h. elim (marks.only k h) [ inl old ↦ absurd (none k old) | inr new ↦ by_pointer k new ];
  start = marks.each;
  known = λ k h. elim (marks.known k h) [ inl old ↦ absurd (nothing k (rw empty at old)) | inr new ↦ new ];
  followed = λ j k h calls. elim (marks.waits j h) [ inl old ↦ absurd (none j old) | inr new ↦ inl new ];
}
  where
    nothing : (k : ℕ) → Contains [] k → ⊥
    nothing k (i, lt, at) = omega (arith, lt)

-- what waits is the position of a layout
pub waits_within : (lives : List Laid) (held : List ℕ) (m : Marks) (rest : List ℕ) (k : ℕ) → IsClosing lives held m → m.waiting.items ≡ rest ++ k ∷ [] → k < length lives
waits_within lives held m rest k closing waiting =
    let within = slice_get_within m.marked.items k true (closing.known k (rw waiting (Contains-push rest k))) in
    omega (arith, within, closing.size)

-- less is left after one more is followed
pub shrinks : (P : ℕ → Type 0) (m mid n : Marks) (k : ℕ) → m.waiting.items ≡ mid.waiting.items ++ k ∷ [] → mid.marked.items ≡ m.marked.items → Marked P mid n → left_of n < left_of m
shrinks P m mid n k waiting same marks =
    let long = ap length waiting ∙ length_push mid.waiting.items k in
    let count = ap (λ (bs : List Bool). count_by not bs) same in
    omega (arith, long, count, marks.left)

followed_by : (lives : List Laid) (held : List ℕ) (m mid n : Marks) (k : ℕ) (l : Laid) → IsClosing lives held m → m.waiting.items ≡ mid.waiting.items ++ k ∷ []
    → mid.marked.items ≡ m.marked.items → slice_get lives k ≡ Some l → Marked (PointInto lives (aims_of l)) mid n → IsClosing lives held n
followed_by lives held m mid n k l closing waiting same at marks = record {
  size = marks.size ∙ ap length same ∙ closing.size;
  sound = λ i h. elim (marks.only i h) [
    | inl old ↦ closing.sound i (rw same at old)
    | inr new ↦ called lives held k i (closing.sound k mine) (rw at new)
  ];
  start = λ i h. marks.kept i (rw same (closing.start i h));
  known = λ i h. elim (marks.known i h) [
    | inl old ↦ marks.kept i (rw same (closing.known i (rw waiting (Contains-append_left mid.waiting.items (k ∷ []) i old))))
    | inr new ↦ new
  ];
  followed = λ i j h calls. elim (marks.waits i h) [
    | inl old ↦ elim (closing.followed i j (rw same at old) calls) [
      | inl wait ↦ elim (Contains-push_cases mid.waiting.items k i (rw waiting at wait)) [
        | inl still ↦ inl (marks.still i still)
        | inr here ↦ inr (marks.each j (let c : CallsInto lives k j = rw here calls in rw at at c))
      ]
      | inr done ↦ inr (marks.kept j (rw same done))
    ]
    | inr new ↦ inl new
  ];
}
  where
    mine : IsMarked m.marked.items k
    mine = closing.known k (rw waiting (Contains-push mid.waiting.items k))

-- one more is followed
pub follows : (lives : List Laid) (held : List ℕ) (m mid n : Marks) (k : ℕ) (l : Laid) (aims : List ℕ) → IsClosing lives held m → m.waiting.items ≡ mid.waiting.items ++ k ∷ []
    → mid.marked.items ≡ m.marked.items → slice_get lives k ≡ Some l → aims ≡ aims_of (get_or lives k l) → Marked (PointInto lives aims) mid n → IsClosing lives held n
follows lives held m mid n k l aims closing waiting same at is marks =
    followed_by lives held m mid n k l closing waiting same at
    (subst (λ (xs : List ℕ). Marked (PointInto lives xs) mid n) (is ∙ ap aims_of (get_or_from_slice_get lives k l l at)) marks)

-- a set that holds what pointers and calls of its members reach has each layout that is referred to
closed : (lives : List Laid) (held : List ℕ) (marks : List Bool) → ((k : ℕ) → PointInto lives held k → IsMarked marks k) → ((j k : ℕ) → IsMarked marks j → CallsInto lives j k → IsMarked marks k)
    → (k : ℕ) → Refers lives held k → IsMarked marks k
closed lives held marks start next k (by_pointer _ h) = start k h
closed lives held marks start next k (by_call j _ other r h) = next j k (closed lives held marks start next j r) h

pub ends : (lives : List Laid) (held : List ℕ) (m : Marks) → IsClosing lives held m → length m.waiting.items ≡ 0 → AreReferred lives held m.marked.items
ends lives held m closing empty = record {
  size = closing.size;
  marked = λ k. (
    closing.sound k,
    closed lives held m.marked.items closing.start
        (λ i j h calls. elim (closing.followed i j h calls) [ inl wait ↦ absurd (omega (arith, empty, wait.1)) | inr done ↦ done ]) k,
  );
}

-- the positions that aren't marked are those of layouts that aren't referred to
pub unreferenced : (lives : List Laid) (held : List ℕ) (marks : List Bool) (positions : List ℕ) → AreReferred lives held marks → AreUnmarked marks (length marks) positions
    → AreUnreferenced lives held positions
unreferenced lives held marks positions referred unmarked = record {
  ascending = unmarked.ascending;
  exact = λ k. (
    λ h. (let u = (unmarked.exact k).0 h in (omega (arith, u.0, referred.size), λ r. u.1 ((referred.marked k).1 r))),
    λ h. (unmarked.exact k).1 (omega (arith, h.0, referred.size), λ m. h.1 ((referred.marked k).0 m)),
  );
  others = λ k lt out. by_mark k lt out (slice_get marks k) refl;
}
  where
    by_mark : (k : ℕ) → k < length lives → (Contains positions k → ⊥) → (o : Option Bool) → slice_get marks k ≡ o → Refers lives held k
    by_mark k lt out None f = absurd (let at = slice_get-get_or marks k true (omega (arith, lt, referred.size)) in cc)
    by_mark k lt out (Some false) f = absurd (out ((unmarked.exact k).1 (omega (arith, lt, referred.size), λ m. absurd (cc))))
    by_mark k lt out (Some true) f = (referred.marked k).0 f

-- ---- the positions that aren't marked
pub unmarked_none : (marks : List Bool) (positions : List ℕ) → positions ≡ [] → AreUnmarked marks 0 positions
unmarked_none marks positions e = record {
  ascending = λ i j d lt within. absurd (let n = ap length e in omega (arith, n, within));
  exact = λ k. (λ h. absurd (let n = ap length e in omega (arith, n, h.1)), λ h. absurd (omega (arith, h.0)));
}

pub unmarked_passed : (marks : List Bool) (n : ℕ) (before after : List ℕ) → n < length marks → get_or marks n false ≡ true → after ≡ before → AreUnmarked marks n before → AreUnmarked marks (n + 1) after
unmarked_passed marks n before after within is e u = record {
  ascending = rw e u.ascending;
  exact = λ k. (
    λ h. (let old = (u.exact k).0 (rw e at h) in (omega (arith, old.0), old.1)),
    λ h. elim (cases_lt k n) [
      | inl below ↦ rw e ((u.exact k).1 (below, h.1))
      | inr past ↦ (let same : k ≡ n = omega (arith, past, h.0) in absurd (h.1 (rw same mark)))
    ],
  );
}
  where
    mark : IsMarked marks n
    mark = slice_get-get_or marks n false within ∙ ap (λ (b : Bool). Some b) is

pub unmarked_more : (marks : List Bool) (n : ℕ) (before after : List ℕ) → n < length marks → get_or marks n false ≡ false → after ≡ before ++ n ∷ [] → AreUnmarked marks n before → AreUnmarked marks (n + 1) after
unmarked_more marks n before after within is e u = record {
  ascending = rw e (all_pairs_push (λ (i j : ℕ). i < j) before n u.ascending (λ k d lt. ((u.exact (get_or before k d)).0 (Contains-get_or before k d lt)).0));
  exact = λ k. (
    λ h. elim (Contains-push_cases before n k (rw e at h)) [
      | inl old ↦ (let known = (u.exact k).0 old in (omega (arith, known.0), known.1))
      | inr new ↦ (omega (arith, new), rw (← new) mark)
    ],
    λ h. rw e (elim (cases_lt k n) [
      | inl below ↦ Contains-append_left before (n ∷ []) k ((u.exact k).1 (below, h.1))
      | inr past ↦ (let same : k ≡ n = omega (arith, past, h.0) in rw same (Contains-push before n))
    ]),
  );
}
  where
    mark : IsMarked marks n → ⊥
    mark h = let at = slice_get-get_or marks n false within in cc
