-- An executable and a region have one image.
use Rattle.std.proofs.Common.{◌≡◌, ℕ, List, [], ◌∷◌, Option, map, refl, sym, ap, subst, ◌∙◌}
use Rattle.std.proofs.lemmas.List.Sorted.{Contains-permutation, IsPermutation-sym}
use Rattle.finite.specs.Lists.{Lists}
use Rattle.finite.proofs.OneList.{one_rising, one_list}
use Rattle.oc_base.specs.declared.range.Range.{Range}
use Rattle.elf_read.specs.declared.elf.Elf.{Elf}
use Rattle.image.specs.declared.ranges.Func.{Func}
use Rattle.image.specs.declared.ranges.Aim.{Aim}
use Rattle.image.specs.Texts.{text_start}
use Rattle.image.specs.Aims.{part_start, site_at, pair_at, slot_at}
use Rattle.image.specs.Picture.{Picture}
use Rattle.relocs.specs.Functions.{end_at, func_entry}
use Rattle.relocs.specs.Named.{aim_at, aim_entry, is_call, is_far, is_stored}
use Rattle.relocs.specs.Built.{IsInOrder, IsImage, texts_of, parts_of}

-- a list has one order
one_order : {X : Type 0} (key : X → ℕ) (xs ys zs : List X) → IsInOrder key xs ys → IsInOrder key xs zs → ys ≡ zs
one_order key xs ys zs a b = one_rising key ys zs a.rise b.rise
    (λ e c. Contains-permutation xs zs e b.same (Contains-permutation ys xs e (IsPermutation-sym xs ys a.same) c))
    (λ e c. Contains-permutation xs ys e a.same (Contains-permutation zs xs e (IsPermutation-sym xs zs b.same) c))

-- lists are known by what a one-to-one function makes of them
same_by : {X Y : Type 0} (f : X → Y) → ((a b : X) → f a ≡ f b → a ≡ b) → (xs ys : List X) → map f xs ≡ map f ys → xs ≡ ys
same_by f inj [] [] e = refl
same_by f inj [] (y ∷ ys) e = cc
same_by f inj (x ∷ xs) [] e = cc
same_by f inj (x ∷ xs) (y ∷ ys) e =
    let head : f x ≡ f y = cc in
    let tail : map f xs ≡ map f ys = cc in
    ap (λ z. z ∷ xs) (inj x y head) ∙ ap (λ zs. y ∷ zs) (same_by f inj xs ys tail)

func_known : (f g : Func) → func_entry f ≡ func_entry g → f ≡ g
func_known f g e =
    let from = ap (λ (x : ℕ × ℕ). x.0) e in
    let to = ap (λ (x : ℕ × ℕ). x.1) e in
    λ i. record { from = from i; to = to i }

aim_known : (s t : Aim) → aim_entry s ≡ aim_entry t → s ≡ t
aim_known s t e =
    let at = ap (λ (x : ℕ × ℕ). x.0) e in
    let func = ap (λ (x : ℕ × ℕ). x.1) e in
    λ i. record { at = at i; func = func i }

one_aims : (f : ℕ → Option ℕ) (xs ys : List Aim) → Lists f (map aim_entry xs) → Lists f (map aim_entry ys) → xs ≡ ys
one_aims f xs ys l m = same_by aim_entry aim_known xs ys (one_list f (map aim_entry xs) (map aim_entry ys) l m)

pub one_image : (elf : Elf) (region : Range) (p q : Picture) → IsImage elf region p → IsImage elf region q → p ≡ q
one_image elf region p q a b =
    let texts : p.texts ≡ q.texts = one_order text_start (texts_of elf) p.texts q.texts a.texts b.texts in
    let parts : p.parts ≡ q.parts = one_order part_start (parts_of elf q.texts) p.parts q.parts (subst (λ ts. IsInOrder part_start (parts_of elf ts) p.parts) texts a.parts) b.parts in
    let entry : p.entry ≡ q.entry = a.entry ∙ sym b.entry in
    let regions : p.region ≡ q.region = a.region ∙ sym b.region in
    let funcs : p.funcs ≡ q.funcs = same_by func_entry func_known p.funcs q.funcs (one_list (end_at q.texts elf.symbols) (map func_entry p.funcs) (map func_entry q.funcs) (subst (λ ts. Lists (end_at ts elf.symbols) (map func_entry p.funcs)) texts a.funcs) b.funcs) in
    let sites : p.sites ≡ q.sites = one_aims (aim_at is_call (site_at q.texts q.funcs) elf.relocs) p.sites q.sites
    (subst (λ fs. Lists (aim_at is_call (site_at q.texts fs) elf.relocs) (map aim_entry p.sites)) funcs (subst (λ ts. Lists (aim_at is_call (site_at ts p.funcs) elf.relocs) (map aim_entry p.sites)) texts a.sites)) b.sites in
    let pairs : p.pairs ≡ q.pairs = one_aims (aim_at is_far (pair_at q.texts q.funcs q.entry) elf.relocs) p.pairs q.pairs
    (subst (λ at. Lists (aim_at is_far (pair_at q.texts q.funcs at) elf.relocs) (map aim_entry p.pairs)) entry
    (subst (λ fs. Lists (aim_at is_far (pair_at q.texts fs p.entry) elf.relocs) (map aim_entry p.pairs)) funcs (subst (λ ts. Lists (aim_at is_far (pair_at ts p.funcs p.entry) elf.relocs) (map aim_entry p.pairs)) texts a.pairs))) b.pairs in
    let slots : p.slots ≡ q.slots = one_aims (aim_at (is_stored elf.symbols q.parts) (slot_at q.parts q.funcs) elf.relocs) p.slots q.slots
    (subst (λ fs. Lists (aim_at (is_stored elf.symbols q.parts) (slot_at q.parts fs) elf.relocs) (map aim_entry p.slots)) funcs
    (subst (λ ps. Lists (aim_at (is_stored elf.symbols ps) (slot_at ps p.funcs) elf.relocs) (map aim_entry p.slots)) parts a.slots)) b.slots in
    let headers : p.headers ≡ q.headers = a.headers ∙ sym b.headers in
    λ i. record { texts = texts i; parts = parts i; entry = entry i; region = regions i; funcs = funcs i; sites = sites i; pairs = pairs i; slots = slots i; headers = headers i }
