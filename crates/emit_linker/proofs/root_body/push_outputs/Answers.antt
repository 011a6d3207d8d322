use Rattle.std.proofs.Common.{List, ◌++◌, ◌∷◌, [], map, take, get_or, append_assoc, sym, ap, ◌∙◌}
use Rattle.std.specs.List.{enumerate_from}
use Rattle.std.proofs.lemmas.List.{map-append}
use Rattle.c_syntax.specs.Tree.{StmtTree}
use Rattle.c_syntax.specs.Plain.{stmt_tree}
use Rattle.emit_row_facts.proofs.lemmas.Steps.{map-enumerate-more}
use Rattle.emit_linker.specs.Roots.{output_store}
use Rattle.emit_linker.proofs.root_body.push_outputs.Goals as goal

pub loop-place-preserved : goal.loop-place-preserved
loop-place-preserved c =
    let store = output_store c.args.count in
    let fields = c.args.fields.now in
    let i = c.loop-place.place in
    let first = map stmt_tree c.args.list.now.items in
    ap (map stmt_tree) c.in_ok-push.ensures.items ∙ map-append stmt_tree c.loop-place.list.items (c.in_ok-store_output.field-0 ∷ [])
    ∙ (λ j. c.loop-place.invariant j ++ c.in_ok-store_output.ensures j ∷ [])
    ∙ append_assoc first (map store (enumerate_from 0 (take i fields))) (store (i, get_or fields i 0) ∷ [])
    ∙ ap (λ (l : List StmtTree). first ++ l) (sym (map-enumerate-more store fields i 0 c.loop-place-test.true))
