-- What a call does to the world outside: bytes that come and go, names that files are asked for, faults.
--
-- A device may tell its meaning or not: an `Option`, whose `Some` is what it tells.
-- Each word below says one thing of what is told, and nothing where nothing is told.
use Rattle.std.specs.Prelude.{◌≡◌, ℕ, ◌+◌, ◌^◌, ◌-◌, ◌<◌, ◌⊎◌, List, [], ◌∷◌, ◌++◌, length, take, drop, Option, Some, None, Result, OnOk, OnErr, IsErr, IsErrOf, min}
use Rattle.std.specs.Option.{option_map, ForSome}

-- the number after n; a count of 64 bits that has come to its end stands still
abbrev pub next : ℕ → ℕ
next n = min (n + 1) (2 ^ 64 - 1)

-- A device counts its faults, and one that can't fail has no count. One fault came, and so the device is one that can fail.
abbrev pub Rose : (before now : Option ℕ) → Type 0
Rose None now = ⊥
Rose (Some count) now = now ≡ Some (next count)

-- At most one fault came. A device that can't fail is one still.
abbrev pub RoseAtMost : (before now : Option ℕ) → Type 0
RoseAtMost before now = (now ≡ before) ⊎ Rose before now

-- An error means that the device failed, and any other answer that it didn't.
pub record HasCause {T E : Type 0} (before now : Option ℕ) (result : Result T E) : Type 0 where
  pub kept : OnOk result (now ≡ before)
  pub failed : OnErr result (Rose before now)

-- The same for a call with several errors, of which one means that the device failed.
pub record HasCauseAt {T E : Type 0} (fault : E) (before now : Option ℕ) (result : Result T E) : Type 0 where
  pub kept : (IsErrOf result fault → ⊥) → now ≡ before
  pub failed : IsErrOf result fault → Rose before now

-- what is told, with these at its end
abbrev pub gained : {A : Type 0} → Option (List A) → List A → Option (List A)
gained told more = option_map (λ xs. xs ++ more) told

-- what is told, without its first n
abbrev pub dropped : {A : Type 0} → ℕ → Option (List A) → Option (List A)
dropped n told = option_map (drop n) told

-- A first part of these came to its end: all of them, some or none.
pub record GainedPart {A : Type 0} (before now : Option (List A)) (more : List A) : Type 0 where
  pub count : ℕ
  pub part : now ≡ gained before (take count more)

-- All of these came to its end, or the device failed, and a first part did.
abbrev pub Gains : {A : Type 0} → (before now : Option (List A)) → (fault : Type 0) → List A → Type 0
Gains before now fault more = (now ≡ gained before more) ⊎ (fault × GainedPart before now more)

-- A first part of it is gone: all of it, some or none.
pub record LostPart {A : Type 0} (before now : Option (List A)) : Type 0 where
  pub count : ℕ
  pub part : now ≡ dropped count before

-- the bytes of each file by its name, or no file
abbrev pub Disk : Type 0
Disk = List ℕ → Option (List ℕ)

-- The file of this name has these bytes.
abbrev pub HasFile : Option Disk → List ℕ → List ℕ → Type 0
HasFile told name bytes = ForSome told (λ disk. disk name ≡ Some bytes)

-- The file of this name has more bytes than the limit.
abbrev pub IsLonger : Option Disk → List ℕ → ℕ → Type 0
IsLonger told name limit = ForSome told (λ disk. (bytes : List ℕ) × (disk name ≡ Some bytes) × (limit < length bytes))

-- The files tell that no file has this name.
abbrev pub LacksFile : Option Disk → List ℕ → Type 0
LacksFile None name = ⊥
LacksFile (Some disk) name = disk name ≡ None

-- The name came to the end of those that were asked for. Where there was no room for it, nothing did, and the error says so.
abbrev pub Asks : {T E : Type 0} → E → Option (List (List ℕ)) → Option (List (List ℕ)) → List ℕ → Result T E → Type 0
Asks no_room before now name result = (now ≡ gained before (name ∷ [])) ⊎ ((now ≡ before) × IsErrOf result no_room)

-- The same for a call whose every error may mean that there was no room.
abbrev pub AsksOrFails : {T E : Type 0} → Option (List (List ℕ)) → Option (List (List ℕ)) → List ℕ → Result T E → Type 0
AsksOrFails before now name result = (now ≡ gained before (name ∷ [])) ⊎ ((now ≡ before) × IsErr result)

-- Files that told before tell now that this file has these bytes.
abbrev pub HasNow : Option Disk → Option Disk → List ℕ → List ℕ → Type 0
HasNow before now name bytes = ForSome before (λ _. (new : Disk) × (now ≡ Some new) × (new name ≡ Some bytes))

-- Files that told before tell now that every other file has what it had.
abbrev pub SameElsewhere : Option Disk → Option Disk → List ℕ → Type 0
SameElsewhere before now name = ForSome before (λ old. (new : Disk) × (now ≡ Some new) × ((other : List ℕ) → (other ≡ name → ⊥) → new other ≡ old other))

-- The files failed, and this name was the last that they were asked for.
pub record TakeFailed (name : List ℕ) (asked : Option (List (List ℕ))) (before now : Option ℕ) : Type 0 where
  pub rose : Rose before now
  pub last : ForSome asked (λ names. (earlier : List (List ℕ)) × (names ≡ earlier ++ name ∷ []))
