-- More positions marked.
use Rattle.std.proofs.Common.{◌≡◌, ℕ, zero, suc, ◌+◌, ◌<◌, Bool, true, false, cond, List, [], ◌∷◌, ◌++◌, length, get_or, set, take, Some, None, ◌⊎◌, inl, inr, refl, sym, ap, subst, ◌∙◌, arith}
use Rattle.std.specs.Prelude.{◌↔◌, not, Any, count_by}
use Rattle.std.specs.List.{slice_get}
use Rattle.std.proofs.lemmas.Bool.{cases_order}
use Rattle.std.proofs.lemmas.List.{length-set, length_push, get_or-set_same, take_more}
use Rattle.std.proofs.lemmas.List.Elements.{Contains-push, Contains-push_cases, Contains-append_left, Contains-append_right, Contains-append_cases}
use Rattle.std.proofs.lemmas.List.Sums.{sum_by-set}
use Rattle.std.proofs.lemmas.Option.{slice_get_within, slice_get-get_or}
use Rattle.layout.specs.Laid.{Laid}
use Rattle.layout.specs.Apart.{Covers, LiesIn}
use Rattle.retire.specs.References.{PointInto}
use Rattle.retire.specs.Marks.{IsMarked, Marked}
use Rattle.retire.specs.declared.marks.Marks.{Marks}
use Rattle.layout.proofs.Apart.{there}

-- nothing is marked where all were marked before
pub unchanged : (P : ℕ → Type 0) (m : Marks) → ((k : ℕ) → P k → IsMarked m.marked.items k) → Marked P m m
unchanged P m all = record {
  size = refl;
  kept = λ k h. h;
  each = all;
  only = λ k h. inl h;
  still = λ k h. h;
  waits = λ k h. inl h;
  known = λ k h. inl h;
  left = omega arith;
}

-- the same positions by another property
pub renamed : (P Q : ℕ → Type 0) (a b : Marks) → ((k : ℕ) → P k → Q k) → ((k : ℕ) → Q k → P k) → Marked P a b → Marked Q a b
renamed P Q a b to from m = record {
  size = m.size;
  kept = m.kept;
  each = λ k q. m.each k (from k q);
  only = λ k h. elim (m.only k h) [ inl old ↦ inl old | inr new ↦ inr (to k new) ];
  still = m.still;
  waits = m.waits;
  known = m.known;
  left = m.left;
}

-- one after the other
pub joined : (P Q : ℕ → Type 0) (a b c : Marks) → Marked P a b → Marked Q b c → Marked (λ k. P k ⊎ Q k) a c
joined P Q a b c m n = record {
  size = n.size ∙ m.size;
  kept = λ k h. n.kept k (m.kept k h);
  each = λ k h. elim h [ inl p ↦ n.kept k (m.each k p) | inr q ↦ n.each k q ];
  only = λ k h. elim (n.only k h) [
    | inl mid ↦ elim (m.only k mid) [ inl old ↦ inl old | inr new ↦ inr (inl new) ]
    | inr new ↦ inr (inr new)
  ];
  still = λ k h. n.still k (m.still k h);
  waits = λ k h. elim (n.waits k h) [
    | inl mid ↦ elim (m.waits k mid) [ inl old ↦ inl old | inr new ↦ inr (n.still k new) ]
    | inr new ↦ inr new
  ];
  known = λ k h. elim (n.known k h) [
    | inl mid ↦ elim (m.known k mid) [ inl old ↦ inl old | inr new ↦ inr (n.kept k new) ]
    | inr new ↦ inr new
  ];
  left = omega (arith, m.left, n.left);
}

-- ---- one position
marked_here : (marks : List Bool) (k : ℕ) → k < length marks → IsMarked (set marks k true) k
marked_here marks k lt =
    slice_get-get_or (set marks k true) k false (omega (arith, length-set marks k true)) ∙ ap (λ (b : Bool). Some b) (get_or-set_same marks k true false lt)

marked_elsewhere : (marks : List Bool) (k i : ℕ) → (i ≡ k → ⊥) → slice_get (set marks k true) i ≡ slice_get marks i
marked_elsewhere [] k i other = refl
marked_elsewhere (b ∷ bs) zero zero other = absurd (other refl)
marked_elsewhere (b ∷ bs) zero (suc i) other = refl
marked_elsewhere (b ∷ bs) (suc k) zero other = refl
marked_elsewhere (b ∷ bs) (suc k) (suc i) other = marked_elsewhere bs k i (λ e. other (ap suc e))

-- what marks leave with one position more
mark_kept : (marks : List Bool) (k i : ℕ) → k < length marks → IsMarked marks i → IsMarked (set marks k true) i
mark_kept marks k i lt h = elim (cases_order i k) [
  | inl same ↦ subst (IsMarked (set marks k true)) (sym same) (marked_here marks k lt)
  | inr other ↦ marked_elsewhere marks k i (λ e. elim other [ inl below ↦ omega (arith, e, below) | inr above ↦ omega (arith, e, above) ]) ∙ h
]

mark_only : (marks : List Bool) (k i : ℕ) → IsMarked (set marks k true) i → IsMarked marks i ⊎ (i ≡ k)
mark_only marks k i h = elim (cases_order i k) [
  | inl same ↦ inr same
  | inr other ↦ inl (sym (marked_elsewhere marks k i (λ e. elim other [ inl below ↦ omega (arith, e, below) | inr above ↦ omega (arith, e, above) ])) ∙ h)
]

abbrev weight : Bool → ℕ
weight b = cond (not b) 1 0

count_less : (marks : List Bool) (k : ℕ) → k < length marks → get_or marks k false ≡ false → count_by not (set marks k true) + 1 ≡ count_by not marks
count_less marks k lt unmarked =
    let sums = sum_by-set weight marks k true false lt in
    let one = ap (λ (b : Bool). weight b) unmarked in
    omega (arith, sums, one)

pub newly : (m n : Marks) (k : ℕ) → k < length m.marked.items → get_or m.marked.items k false ≡ false → n.marked.items ≡ set m.marked.items k true
    → n.waiting.items ≡ m.waiting.items ++ k ∷ [] → Marked (λ i. i ≡ k) m n
newly m n k lt unmarked marks waiting = record {
  size = ap length marks ∙ length-set m.marked.items k true;
  kept = λ i h. rw marks (mark_kept m.marked.items k i lt h);
  each = λ i e. rw (marks, e) (marked_here m.marked.items k lt);
  only = λ i h. mark_only m.marked.items k i (rw marks at h);
  still = λ i h. rw waiting (Contains-append_left m.waiting.items (k ∷ []) i h);
  waits = λ i h. elim (mark_only m.marked.items k i (rw marks at h)) [
    | inl old ↦ inl old
    | inr new ↦ inr (rw (waiting, new) (Contains-push m.waiting.items k))
  ];
  known = λ i h. elim (Contains-push_cases m.waiting.items k i (rw waiting at h)) [
    | inl old ↦ inl old
    | inr new ↦ inr (rw (marks, ← new) (marked_here m.marked.items k lt))
  ];
  left = (
      let less = count_less m.marked.items k lt unmarked in
      let long = length_push m.waiting.items k in
      rw (marks, waiting) (omega (arith, less, long)));
}

-- ---- each of some addresses
any_nil : {X : Type 0} (P : X → Type 0) (k : ℕ) → Any P [] → ⊥
any_nil P k (i, x, lt, at, p) = omega (arith, lt)

any_append_left : {X : Type 0} (P : X → Type 0) (xs ys : List X) → Any P xs → Any P (xs ++ ys)
any_append_left P xs ys (i, x, lt, at, p) = (let c = Contains-append_left xs ys x (i, lt, at) in (c.0, x, c.1, c.2, p))

any_append_right : {X : Type 0} (P : X → Type 0) (xs ys : List X) → Any P ys → Any P (xs ++ ys)
any_append_right P xs ys (i, x, lt, at, p) = (let c = Contains-append_right xs ys x (i, lt, at) in (c.0, x, c.1, c.2, p))

any_append_cases : {X : Type 0} (P : X → Type 0) (xs ys : List X) → Any P (xs ++ ys) → Any P xs ⊎ Any P ys
any_append_cases P xs ys (i, x, lt, at, p) = elim (Contains-append_cases xs ys x (i, lt, at)) [
  | inl (k, within, is) ↦ inl (k, x, within, is, p)
  | inr (k, within, is) ↦ inr (k, x, within, is, p)
]

any_one : (lives : List Laid) (a k : ℕ) → PointInto lives (a ∷ []) k → LiesIn lives a k
any_one lives a k (zero, x, lt, at, p) = subst (λ (b : ℕ). LiesIn lives b k) (sym at) p
any_one lives a k (suc i, x, lt, at, p) = absurd (omega arith)

pub holders_none : (lives : List Laid) (m : Marks) → Marked (PointInto lives []) m m
holders_none lives m = unchanged (PointInto lives []) m (λ k h. absurd (any_nil (λ a. LiesIn lives a k) k h))

pub holders_joined : (lives : List Laid) (xs ys : List ℕ) (l m n : Marks) → Marked (PointInto lives xs) l m → Marked (PointInto lives ys) m n → Marked (PointInto lives (xs ++ ys)) l n
holders_joined lives xs ys l m n before now =
    renamed (λ k. PointInto lives xs k ⊎ PointInto lives ys k) (PointInto lives (xs ++ ys)) l n
    (λ k h. elim h [ inl p ↦ any_append_left (λ a. LiesIn lives a k) xs ys p | inr q ↦ any_append_right (λ a. LiesIn lives a k) xs ys q ])
    (λ k h. any_append_cases (λ a. LiesIn lives a k) xs ys h)
    (joined (PointInto lives xs) (PointInto lives ys) l m n before now)

pub holders_more : (lives : List Laid) (addresses : List ℕ) (i d : ℕ) (l m n : Marks) → i < length addresses
    → Marked (PointInto lives (take i addresses)) l m → Marked (LiesIn lives (get_or addresses i d)) m n → Marked (PointInto lives (take (i + 1) addresses)) l n
holders_more lives addresses i d l m n lt before now =
    let a = get_or addresses i d in
    rw (take_more addresses i d lt) (holders_joined lives (take i addresses) (a ∷ []) l m n before
    (renamed (LiesIn lives a) (PointInto lives (a ∷ [])) m n (λ k h. (0, a, omega arith, refl, h)) (any_one lives a) now))

-- ---- the layout that holds an address
pub holder_within : (lives : List Laid) (at k : ℕ) (marks : List Bool) → length marks ≡ length lives → LiesIn lives at k → k < length marks
holder_within lives at k marks size h =
    let l = there lives k (Covers at) h in
    omega (arith, size, slice_get_within lives k l.0 l.1)

pub holder_marked : (lives : List Laid) (at k : ℕ) (m n : Marks) → ((i : ℕ) → (Some k ≡ Some i) ↔ LiesIn lives at i) → Marked (λ i. i ≡ k) m n → Marked (LiesIn lives at) m n
holder_marked lives at k m n holds h =
    renamed (λ i. i ≡ k) (LiesIn lives at) m n (λ i e. (holds i).0 (ap (λ (j : ℕ). Some j) (sym e))) (λ i l. (let e = (holds i).1 l in cc)) h

pub unheld : (lives : List Laid) (at : ℕ) (m : Marks) → ((i : ℕ) → (None ≡ Some i) ↔ LiesIn lives at i) → Marked (LiesIn lives at) m m
unheld lives at m none = unchanged (LiesIn lives at) m (λ i l. absurd (let e = (none i).1 l in cc))
