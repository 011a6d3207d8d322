use Rattle.std.proofs.Common.{◌≡◌, sym, subst, ◌<◌, ◌≤◌, length, get_or, map}
use Rattle.std.proofs.lemmas.List.{length-map}
use Rattle.c_syntax.specs.Plain.{procedure_tree, program_tree}
use Rattle.c_printer.specs.Notes.{notes_seen}
use Rattle.c_printer.specs.Printing.{noted_procedure_bytes}
use Rattle.c_printer.proofs.lemmas.ItemTexts.{numbered-put, numbered-done}
use Rattle.c_printer.proofs.lemmas.Lookups.{map_at}
use Rattle.c_printer.proofs.printing.put_procedures.Goals as goal

pub loop-k-preserved : goal.loop-k-preserved
loop-k-preserved c =
    let p = c.args.program.now in
    let qs = p.procedures.items in
    let q = c.procedure-item.result in
    let k = c.loop-k.k in
    let same = c.deref-procedure-items.ensures.value in
    let within = subst (λ xs. k < length xs) same c.loop-k-test.true in
    numbered-put (noted_procedure_bytes (program_tree p) (notes_seen c.args.notes.now)) (map procedure_tree qs) k (procedure_tree q)
    c.args.out.now.items c.loop-k.out.items c.put_procedure.new.out.items
    (subst (λ n. k < n) (sym (length-map qs procedure_tree)) within)
    (sym (map_at procedure_tree qs k q (procedure_tree q) within (subst (λ xs. q ≡ get_or xs k q) same c.procedure-item.is)))
    c.loop-k.invariant c.in_ok-put_procedure.ensures

pub returns : goal.returns
returns c =
    let p = c.args.program.now in
    let qs = p.procedures.items in
    let k = c.loop-k.k in
    let end = subst (λ xs. length xs ≤ k) c.deref-procedure-items.ensures.value c.loop-k-test.false in
    numbered-done (noted_procedure_bytes (program_tree p) (notes_seen c.args.notes.now)) (map procedure_tree qs) k
    c.args.out.now.items c.loop-k.out.items (subst (λ n. n ≤ k) (sym (length-map qs procedure_tree)) end) c.loop-k.invariant
