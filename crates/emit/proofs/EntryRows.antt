-- Each word of a layout that isn't placed renders the word that it stands for.
use Rattle.std.proofs.Common.{◌≡◌, ◌≢◌, ℕ, ◌+◌, ◌==◌, Bool, true, false, List, [], ◌∷◌, ◌++◌, append_assoc, refl, sym, subst}
use Rattle.std.specs.Prelude.{Option, Some, None, ℤ, if◌then◌else◌}
use Rattle.std.proofs.lemmas.Bool.{eqb-true, eqb-false}
use Rattle.rv_isa.specs.Conditions.{opposite}
use Rattle.rv_isa.specs.declared.instr.Cond.{Cond}
use Rattle.rv_isa.specs.declared.instr.Instr.{Instr}
use Rattle.rv_isa.specs.declared.instr.Instr.TheVariants as instr
use Rattle.rv_isa.specs.Decoded.{decoded}
use Rattle.layout.specs.declared.point.Point.{Point}
use Rattle.layout.specs.declared.point.Point.TheVariants.{Start, Hop, Mid}
use Rattle.image.specs.declared.ranges.Func.{Func}
use Rattle.image.specs.Aims.{is_inside}
use Rattle.image.specs.Targets.{target, made_by}
use Rattle.layout.specs.Points.{read}
use Rattle.layout.specs.Rows.{IsKept}
use Rattle.layout.proofs.TextRows.{read_is}
use Rattle.emit.specs.declared.entry.To.{To}
use Rattle.emit.specs.declared.entry.To.TheVariants.{Here, There, Over}
use Rattle.emit.specs.declared.entry.Made.TheVariants.{Same, Jump, Branch, High, Low}
use Rattle.emit.specs.declared.entry.Entry.{Entry}
use Rattle.emit.proofs.Branches.{branch_cases}
use Rattle.emit.proofs.Leading.{Leads, SiteAims, Aims}
use Rattle.emit.specs.Entries.{Calls, called, called_by, second_word, second_by, aimed, start, mid, hop, is_next, branch_of, rendered}

abbrev pub StandsAs : Point → ℕ → Type 0
StandsAs (Start x) y = x ≡ y
StandsAs (Hop x) y = x ≡ y
StandsAs (Mid x) y = ⊥

-- the first of these words goes on as the original program does at y
abbrev pub Ahead : List Entry → ℕ → Type 0
Ahead [] y = ⊥
Ahead (e ∷ es) y = StandsAs e.point y

-- the second of them does
abbrev pub AheadTwo : List Entry → ℕ → Type 0
AheadTwo [] y = ⊥
AheadTwo (e ∷ es) y = Ahead es y

module _ (text second : ℕ → Option ℕ) (known outside : ℕ → Type 0) where
  -- a jump leads to a Start of y
  abbrev pub LeadsToStart : To → ℕ → Type 0
  LeadsToStart (Here z) y = (z ≡ y) × known y
  LeadsToStart (There z) y = (z ≡ y) × outside y
  LeadsToStart Over y = ⊥

  -- a jump before these words leads to a Start or Hop of y
  abbrev pub LeadsTo : List Entry → To → ℕ → Type 0
  LeadsTo rest (Here z) y = (z ≡ y) × known y
  LeadsTo rest (There z) y = (z ≡ y) × outside y
  LeadsTo rest Over y = AheadTwo rest y

  -- what a word is, before the words of rest
  pub data EntryRow (e : Entry) (rest : List Entry) : Type 0 where
    kept : (x w : ℕ) (i : Instr) → e ≡ start x (Same w) → text x ≡ Some w → decoded w ≡ Some i → IsKept i → Ahead rest (x + 4) → EntryRow e rest
    address : (x rd imm : ℕ) (more : List Entry) → e ≡ start x (High rd (made_by x imm)) → rest ≡ mid x (Low rd (made_by x imm)) ∷ more
        → read text x ≡ Some (instr.Auipc rd imm) → rd ≢ 0 → Ahead more (x + 4) → EntryRow e rest
    middle : (x rd v : ℕ) → e ≡ mid x (Low rd v) → EntryRow e rest
    jump : (x rd : ℕ) (off : ℤ) (to : To) → e ≡ start x (Jump rd to) → read text x ≡ Some (instr.Jal rd off) → LeadsToStart to (target x off)
        → (rd ≢ 0 → Ahead rest (x + 4)) → EntryRow e rest
    jump_register : (x w rd rs : ℕ) (off : ℤ) → e ≡ start x (Same w) → text x ≡ Some w → decoded w ≡ Some (instr.Jalr rd rs off)
        → (rd ≢ 0 → Ahead rest (x + 4)) → EntryRow e rest
    call_second : (x rd rs g : ℕ) (off : ℤ) → e ≡ start x (Jump rd (Here g)) → read text x ≡ Some (instr.Jalr rd rs off) → second x ≡ Some g → known g
        → (rd ≢ 0 → Ahead rest (x + 4)) → EntryRow e rest
    branch : (x : ℕ) (c : Cond) (rs1 rs2 : ℕ) (off : ℤ) (to : To) → e ≡ start x (Branch c rs1 rs2 to) → read text x ≡ Some (instr.Branch c rs1 rs2 off)
        → LeadsTo rest to (target x off) → Ahead rest (x + 4) → EntryRow e rest
    branch_inverted : (x : ℕ) (c : Cond) (rs1 rs2 : ℕ) (off : ℤ) (to : To) → e ≡ start x (Branch (opposite c) rs1 rs2 to) → read text x ≡ Some (instr.Branch c rs1 rs2 off)
        → LeadsTo rest to (x + 4) → Ahead rest (target x off) → EntryRow e rest
    hops : (x : ℕ) (to : To) → e ≡ record { point = Hop x; made = Jump 0 to } → LeadsToStart to x → EntryRow e rest

  abbrev pub Rows : List Entry → List Entry → Type 0
  Rows [] rest = Unit {0}
  Rows (e ∷ es) rest = EntryRow e (es ++ rest) × Rows es rest

  pub rows_append : (xs ys rest : List Entry) → Rows xs (ys ++ rest) → Rows ys rest → Rows (xs ++ ys) rest
  rows_append [] ys rest p q = q
  rows_append (x ∷ xs) ys rest p q = (subst (EntryRow x) (sym (append_assoc xs ys rest)) p.0, rows_append xs ys rest p.1 q)

  within_start : (f : Func) (y : ℕ) → Leads known outside f y → LeadsToStart (aimed f y) y
  within_start f y l = by_test (is_inside y f) l.here l.there
    where
      by_test : (b : Bool) → (b ≡ true → known y) → (b ≡ false → outside y) → LeadsToStart (if b then Here y else There y) y
      by_test true h t = (refl, h refl)
      by_test false h t = (refl, t refl)

  pub start_leads : (rest : List Entry) (to : To) (y : ℕ) → LeadsToStart to y → LeadsTo rest to y
  start_leads rest (Here z) y l = l
  start_leads rest (There z) y l = l
  start_leads rest Over y l = absurd l

  aimed_leads : (f : Func) (y : ℕ) (rest : List Entry) → Leads known outside f y → LeadsTo rest (aimed f y) y
  aimed_leads f y rest l = start_leads rest (aimed f y) y (within_start f y l)

  -- the words of rest begin with the block that comes next
  abbrev pub NextIs : List Entry → Option ℕ → Type 0
  NextIs rest next = (y : ℕ) → is_next next y ≡ true → Ahead rest y

  pub hop_row : (f : Func) (y : ℕ) (rest : List Entry) → Leads known outside f y → EntryRow (hop f y) rest
  hop_row f y rest l = hops y (aimed f y) refl (within_start f y l)

  branch_rows : (f : Func) (next : Option ℕ) (far : ℕ → Bool) (x : ℕ) (c : Cond) (rs1 rs2 : ℕ) (off : ℤ) (rest : List Entry)
      → read text x ≡ Some (instr.Branch c rs1 rs2 off) → Leads known outside f (target x off) → Leads known outside f (x + 4) → NextIs rest next
      → Rows (branch_of f next far x c rs1 rs2 (target x off) (x + 4)) rest
  branch_rows f next far x c rs1 rs2 off rest r t y n =
      branch_cases (λ es. Rows es rest) f next far x c rs1 rs2 (target x off) (x + 4)
      (λ e. (branch_inverted x c rs1 rs2 off Over refl r (n (x + 4) e) refl, (hop_row f (target x off) rest t, tt)))
      (λ e g. (branch x c rs1 rs2 off (aimed f (target x off)) refl r (aimed_leads f (target x off) rest t) (n (x + 4) e), tt))
      (λ e. (branch x c rs1 rs2 off Over refl r (n (target x off) e) refl, (hop_row f (x + 4) rest y, tt)))
      (λ e g. (branch_inverted x c rs1 rs2 off (aimed f (x + 4)) refl r (aimed_leads f (x + 4) rest y) (n (target x off) e), tt))
      (branch_inverted x c rs1 rs2 off Over refl r refl refl, (hop_row f (target x off) (hop f (x + 4) ∷ rest) t, (hop_row f (x + 4) rest y, tt)))
      (λ g. (branch x c rs1 rs2 off (aimed f (target x off)) refl r (aimed_leads f (target x off) (hop f (x + 4) ∷ rest) t) refl, (hop_row f (x + 4) rest y, tt)))

  -- what comes after the words of i, where the next block is next
  abbrev pub Continues : List Entry → Option ℕ → ℕ → Instr → Type 0
  Continues rest next x (instr.Jal rd off) = rd ≢ 0 → Ahead rest (x + 4)
  Continues rest next x (instr.Jalr rd rs off) = rd ≢ 0 → Ahead rest (x + 4)
  Continues rest next x (instr.Branch k rs1 rs2 off) = NextIs rest next
  Continues rest next x _ = Ahead rest (x + 4)

  address_rows : (f : Func) (next : Option ℕ) (x w rd imm : ℕ) (rest : List Entry) → text x ≡ Some w → decoded w ≡ Some (instr.Auipc rd imm) → Ahead rest (x + 4)
      → Rows (if rd == 0 then start x (Same w) ∷ [] else start x (High rd (made_by x imm)) ∷ mid x (Low rd (made_by x imm)) ∷ []) rest
  address_rows f next x w rd imm rest t r a = by_test (rd == 0) (λ e. eqb-true rd 0 e) (λ e. eqb-false rd 0 e)
    where
      by_test : (b : Bool) → (b ≡ true → rd ≡ 0) → (b ≡ false → rd ≢ 0)
          → Rows (if b then start x (Same w) ∷ [] else start x (High rd (made_by x imm)) ∷ mid x (Low rd (made_by x imm)) ∷ []) rest
      by_test true h k = (kept x w (instr.Auipc rd imm) refl t r (h refl) a, tt)
      by_test false h k = (address x rd imm rest refl refl (read_is text x w _ t r) (k refl) a, (middle x rd (made_by x imm) refl, tt))

  called_leads : (c : Calls) (f : Func) (x y : ℕ) → Leads known outside f y → SiteAims known outside c x y → LeadsToStart (called c x (aimed f y)) y
  called_leads c f x y l a = by_site (c.site x) a.is a.moved a.stays
    where
      by_moved : (g : ℕ) (b : Bool) → y ≡ g → (b ≡ true → known g) → outside g → LeadsToStart (if b then Here g else There g) y
      by_moved g true e k o = (sym e, subst known (sym e) (k refl))
      by_moved g false e k o = (sym e, subst outside (sym e) o)

      by_site : (s : Option ℕ) → ((g : ℕ) → s ≡ Some g → y ≡ g) → ((g : ℕ) → s ≡ Some g → c.moved g ≡ true → known g) → ((g : ℕ) → s ≡ Some g → outside g)
          → LeadsToStart (called_by c s (aimed f y)) y
      by_site None e k o = within_start f y l
      by_site (Some g) e k o = by_moved g (c.moved g) (e g refl) (k g refl) (o g refl)

  second_rows : (c : Calls) (x w rd rs : ℕ) (off : ℤ) (rest : List Entry) → text x ≡ Some w → decoded w ≡ Some (instr.Jalr rd rs off)
      → ((g : ℕ) → c.second x ≡ Some g → (second x ≡ Some g) × (c.moved g ≡ true → known g)) → (rd ≢ 0 → Ahead rest (x + 4))
      → EntryRow (start x (second_word c x rd w)) rest
  second_rows c x w rd rs off rest t r a n = by_second (c.second x) a
    where
      by_moved : (g : ℕ) (b : Bool) → second x ≡ Some g → (b ≡ true → known g) → EntryRow (start x (if b then Jump rd (Here g) else Same w)) rest
      by_moved g true e k = call_second x rd rs g off refl (read_is text x w _ t r) e (k refl) n
      by_moved g false e k = jump_register x w rd rs off refl t r n

      by_second : (s : Option ℕ) → ((g : ℕ) → s ≡ Some g → (second x ≡ Some g) × (c.moved g ≡ true → known g)) → EntryRow (start x (second_by c s rd w)) rest
      by_second None a = jump_register x w rd rs off refl t r n
      by_second (Some g) a = by_moved g (c.moved g) (a g refl).0 (a g refl).1

  pub word_rows : (c : Calls) (f : Func) (next : Option ℕ) (far : ℕ → Bool) (x w : ℕ) (i : Instr) (rest : List Entry) → text x ≡ Some w → decoded w ≡ Some i → Aims text second known outside c f x i
      → Continues rest next x i → Rows (rendered c f next far x w i) rest
  word_rows c f next far x w (instr.Auipc rd imm) rest t r a k = address_rows f next x w rd imm rest t r k
  word_rows c f next far x w (instr.Jal rd off) rest t r a k =
      (jump x rd off (called c x (aimed f (target x off))) refl (read_is text x w _ t r) (called_leads c f x (target x off) a.0 a.1) k, tt)
  word_rows c f next far x w (instr.Jalr rd rs off) rest t r a k = (second_rows c x w rd rs off rest t r a k, tt)
  word_rows c f next far x w (instr.Branch o rs1 rs2 off) rest t r a k =
      branch_rows f next far x o rs1 rs2 off rest (read_is text x w _ t r) a.0 a.1 k
  word_rows c f next far x w (instr.Alu op rd rs1 rs2) rest t r a k = (kept x w _ refl t r tt k, tt)
  word_rows c f next far x w i rest t r a k = (kept x w i refl t r tt k, tt)
