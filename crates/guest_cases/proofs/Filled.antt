-- What is told of files is told of them with those that are missing as empty ones.
use Rattle.std.proofs.Common.{◌≡◌, ℕ, List, [], Some, Result, Ok, Err, refl, ap, subst, ◌∙◌}
use Rattle.std.specs.Option.{unwrap_or, ForSome}
use Rattle.std.specs.Result.{OnOk}
use Rattle.oc_base.specs.Outside.{Disk, HasNow, SameElsewhere, IsLonger}
use Rattle.guest_cases.specs.Sure.{filled}

-- what is told is one thing
same_disk : (a b : Disk) → Some a ≡ Some b → a ≡ b
same_disk a b is = cc

-- so a fact of it is one of what is told
tells : (P : Disk → Type 0) (disk : Disk) → P disk → ForSome (Some disk) P
tells P disk fact = λ other is. subst P (same_disk disk other is) fact

-- a file that is too long is so still
pub longer_filled : (disk : Disk) (name : List ℕ) (limit : ℕ) → IsLonger (Some disk) name limit → IsLonger (Some (filled disk)) name limit
longer_filled disk name limit longer =
    let has = longer disk refl in
    tells _ (filled disk) (has.0, ap (λ file. Some (unwrap_or file [])) has.1, has.2)

-- a file that was put is there still
has_filled : (old new : Disk) (name bytes : List ℕ) → HasNow (Some old) (Some new) name bytes → HasNow (Some (filled old)) (Some (filled new)) name bytes
has_filled old new name bytes has =
    let now = has old refl in
    let same : new name ≡ now.0 name = ap (λ told. unwrap_or told old name) now.1 in
    tells _ (filled old) (filled new, refl, ap (λ file. Some (unwrap_or file [])) (same ∙ now.2))

-- and so after a call that may have failed
pub put_filled : {E : Type 0} (put : Result Unit E) (old new : Disk) (name bytes : List ℕ) → OnOk put (HasNow (Some old) (Some new) name bytes) → OnOk put (HasNow (Some (filled old)) (Some (filled new)) name bytes)
put_filled (Ok u) old new name bytes has = has_filled old new name bytes has
put_filled (Err e) old new name bytes has = has

-- other files stay as they were
pub same_filled : (old new : Disk) (name : List ℕ) → SameElsewhere (Some old) (Some new) name → SameElsewhere (Some (filled old)) (Some (filled new)) name
same_filled old new name is =
    let now = is old refl in
    let same : (other : List ℕ) → new other ≡ now.0 other = λ other. ap (λ told. unwrap_or told old other) now.1 in
    tells _ (filled old) (filled new, refl, λ other differs. ap (λ file. Some (unwrap_or file [])) (same other ∙ now.2 other differs))
