use Rattle.std.proofs.Common.{sym, ◌∙◌, ap, ℕ, ◌+◌, List, [], ◌++◌, drop, map, Vec, Global}
use Rattle.std.proofs.lemmas.List.{map_push}
use Rattle.c_syntax.specs.Tree.{ProcedureTree}
use Rattle.c_syntax.specs.Plain.{procedure_tree}
use Rattle.emit_notes.specs.FunctionNotes.{procedure_outports, procedure_notes}
use Rattle.emit_notes.proofs.ListLemmas.{drop-next}
use Rattle.emit_notes.proofs.ProcedureLemmas.{more-procedures}
use Rattle.emit_notes.proofs.procedures.procedure_notes.Goals as goal

pub loop-procedure-preserved : goal.loop-procedure-preserved
loop-procedure-preserved c =
    let labels = c.args.labels.now in
    let structs = c.args.structs.now in
    let qs = c.args.procedures.now in
    let i = c.loop-procedure.procedure-index in
    let q = procedure_tree c.procedure-item.result in
    let held : Vec ℕ Global → List ℕ = λ v. v.items in
    let notes = map held c.loop-procedure.notes.items in
    let earlier = map held c.loop-procedure.earlier.items in
    let made = c.in_ok-note.field-0 in
    more-procedures labels structs notes (map held c.push.new.self.items) earlier (map held c.push-in-loop-procedure.new.self.items)
    q (map procedure_tree (drop (i + 1) qs)) (procedure_notes labels structs [] (map procedure_tree qs)) made.note.items made.outports.items
    c.in_ok-note.ensures.note
    (c.in_ok-note.ensures.outports ∙ ap (λ vs. procedure_outports labels structs (map held vs) q) c.as_slice.ensures.value)
    (ap (map held) c.in_ok-push.ensures.items ∙ map_push held c.loop-procedure.notes.items made.note)
    (ap (map held) c.in_ok-push-2.ensures.items ∙ map_push held c.loop-procedure.earlier.items made.outports)
    (ap (λ (rest : List ProcedureTree). notes ++ procedure_notes labels structs earlier rest)
    (sym (drop-next procedure_tree qs i c.procedure-item.result c.loop-procedure-test.true c.procedure-item.is))
    ∙ c.loop-procedure.invariant)
