use Rattle.std.proofs.Common.{[], ◌∷◌, sym, append_assoc}
use Rattle.std.proofs.lemmas.List.{append-nil}
use Rattle.elf_read.specs.Relocs.{entries_from}
use Rattle.elf_read.proofs.RelocLemmas.{entries_none, entries_kept, entries_passed}
use Rattle.elf_read.proofs.relocs.push_entries.Goals as goal
use Rattle.elf_read.proofs.relocs.push_entries.Goals.{then-r-symbols+in_ok-push, else-r-symbols}

pub loop-i-init : goal.loop-i-init
loop-i-init c = rw (entries_none c.args.bytes.now c.args.symbols c.args.from) (sym (append-nil c.args.out.now.items))

pub loop-i-preserved : goal.loop-i-preserved
loop-i-preserved c =
    let bytes = c.args.bytes.now in
    let n = c.args.symbols in
    let from = c.args.from in
    let i = c.loop-i.i in
    let r = c.read-r.result in
    elim c.if-r-symbols.branch [
      | then-r-symbols+in_ok-push w ↦ rw (w.out-is, w.in_ok-push.ensures.items, c.loop-i.invariant, entries_kept bytes n from i r c.read-r.ensures w.if-r-symbols.true) (append_assoc c.args.out.now.items (entries_from bytes n from i) (r ∷ []))
      | else-r-symbols w ↦ rw (w.out-is, entries_passed bytes n from i r c.read-r.ensures w.if-r-symbols.false) c.loop-i.invariant
    ]
