use Rattle.std.proofs.Common.{◌≡◌, subst, ◌<◌, ◌≤◌, length, get_or}
use Rattle.c_syntax.specs.Plain.{program_tree}
use Rattle.c_printer.specs.Notes.{notes_seen}
use Rattle.c_printer.specs.Printing.{noted_struct_bytes}
use Rattle.c_printer.proofs.lemmas.ItemTexts.{numbered-put, numbered-done}
use Rattle.c_printer.proofs.printing.put_structs.Goals as goal

pub loop-k-preserved : goal.loop-k-preserved
loop-k-preserved c =
    let p = c.args.program.now in
    let d = c.def-item.result in
    let k = c.loop-k.k in
    let same = c.deref-def-items.ensures.value in
    numbered-put (noted_struct_bytes (program_tree p) (notes_seen c.args.notes.now)) p.structs.items k d c.args.out.now.items
    c.loop-k.out.items c.put_struct.new.out.items (subst (λ xs. k < length xs) same c.loop-k-test.true)
    (subst (λ xs. d ≡ get_or xs k d) same c.def-item.is) c.loop-k.invariant c.in_ok-put_struct.ensures

pub returns : goal.returns
returns c =
    let p = c.args.program.now in
    let k = c.loop-k.k in
    numbered-done (noted_struct_bytes (program_tree p) (notes_seen c.args.notes.now)) p.structs.items k c.args.out.now.items
    c.loop-k.out.items (subst (λ xs. length xs ≤ k) c.deref-def-items.ensures.value c.loop-k-test.false) c.loop-k.invariant
