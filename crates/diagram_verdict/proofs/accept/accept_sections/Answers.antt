use Rattle.std.proofs.Common.{◌≡◌, None}
use Rattle.mdl_tree.specs.Values.{section_tree}
use Rattle.mdl_rows.specs.Refusals.{tree_refusal}
use Rattle.diagram_meaning.specs.ResolvedTree.{ResolvedTree}
use Rattle.diagram_meaning.specs.ResolvedTable.{table_of_tree}
use Rattle.diagram_verdict.specs.Faults.{IsFaultOf}
use Rattle.diagram_verdict.specs.Files.{OfTexts}
use Rattle.diagram_verdict.specs.Verdict.{Accepted, HasVerdict}
use Rattle.diagram_verdict.specs.TreeVerdict.{HasTreeVerdict, IsTreeFaultOf}
use Rattle.diagram_verdict.proofs.Results.{ok-later, ok-on, error-later}
use Rattle.diagram_verdict.proofs.TreeVerdicts.{is_of_file, is_fault_of_file}
use Rattle.diagram_verdict.proofs.accept.accept_sections.Goals as goal

pub returns-clause-sound : goal.returns-clause-sound
returns-clause-sound c =
    let items = (section_tree c.args.file.now).items in
    ok-on (λ (r : ResolvedTree). HasTreeVerdict items (Accepted (table_of_tree r))) (tree_refusal items ≡ None)
    (λ r accepted. accepted.model.table.unrefused) c.accept_tree.result c.accept_tree.ensures.accepted

pub returns-clause-accepted : goal.returns-clause-accepted
returns-clause-accepted c =
    let items = (section_tree c.args.file.now).items in
    ok-later (λ (r : ResolvedTree). HasTreeVerdict items (Accepted (table_of_tree r)))
    (λ r. OfTexts items (λ bytes. HasVerdict bytes (Accepted (table_of_tree r))))
    (λ r accepted bytes is. is_of_file bytes items (Accepted (table_of_tree r)) is accepted) c.accept_tree.result
    c.accept_tree.ensures.accepted

pub returns-clause-refused : goal.returns-clause-refused
returns-clause-refused c =
    let items = (section_tree c.args.file.now).items in
    error-later (IsTreeFaultOf items) (λ fault. OfTexts items (λ bytes. IsFaultOf bytes fault)) (is_fault_of_file items)
    c.accept_tree.result c.accept_tree.ensures.refused
