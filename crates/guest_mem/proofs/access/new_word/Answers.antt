use Rattle.std.proofs.Common.{◌%◌, sym, subst}
use Rattle.guest_mem.specs.declared.words.Word.{Word}
use Rattle.guest_mem.specs.Memory.{bytes_of}
use Rattle.guest_mem.specs.Access.{size_of}
use Rattle.guest_mem.specs.Words.{IsSpliced, plain_bytes_of}
use Rattle.link_tags.specs.Values.{original}
use Rattle.guest_mem.proofs.Laws.{narrow_store}
use Rattle.guest_mem.proofs.access.new_word.Goals as goal

pub returns : goal.returns
returns g c m e =
    let origin = g.O.Origins.origin c.args.origins.now in
    let h = rw (c.plain_bytes-into.ensures, c.bytes-from.ensures, c.original.ensures, c.size.ensures) at c.spliced.ensures in
    narrow_store origin m c.args.at c.args.width c.args.v _ c.in_default.not-D c.requires.aligned
    (subst (λ (x : Word). IsSpliced (plain_bytes_of origin x) (c.args.at % 8) (size_of c.args.width) (bytes_of (original origin c.args.v)) c.spliced.result) (sym e) h)
