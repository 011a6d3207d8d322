use Rattle.std.proofs.Common.{◌≡◌, length, vec_len, sym, subst, ◌∙◌, rules}
use Rattle.std.proofs.lemmas.List.{length-map}
use Rattle.diagram_meaning.specs.ResolvedTree.{diagram_of}
use Rattle.lustre_syntax.specs.Plain.{file_tree, node_tree}
use Rattle.lustre_syntax.specs.Tree.{FileTree}
use Rattle.lustre_syntax.specs.Lawful.{IsLawful}
use Rattle.lustre_right.specs.Right.{IsLustreOf}
use Rattle.lustre_text.proofs.Texts.{right-text, counted-nodes}
use Rattle.lustre_text.proofs.text.lustre_text.Goals as goal

pub print_lustre-requires : goal.print_lustre-requires
print_lustre-requires c =
    let r = c.args.r.now in
    subst IsLawful (sym c.in_ok-file.ensures.file)
    (c.files_are_right.ensures r c.is_resolved.ensures c.requires c.in_ok-file.ensures.short).lawful

pub returns-clause-right : goal.returns-clause-right
returns-clause-right c =
    let r = c.args.r.now in
    right-text c.in_ok-text.text.items (file_tree c.in_ok-file.file) c.in_ok-text.ensures (diagram_of r) c.readings_are_lawful.ensures
    c.lines_mean_nothing.ensures
    (subst (λ (f : FileTree). IsLustreOf f (diagram_of r)) (sym c.in_ok-file.ensures.file)
    (c.files_are_right.ensures r c.is_resolved.ensures c.requires c.in_ok-file.ensures.short))

pub returns-clause-nodes : goal.returns-clause-nodes
returns-clause-nodes c =
    let nodes = c.in_ok-file.file.nodes in
    let items : vec_len nodes ≡ length nodes.items = search rules in
    counted-nodes c.in_ok-text.text.items (file_tree c.in_ok-file.file) c.in_ok-text.ensures c.len-count.result
    (c.len-count.ensures ∙ items ∙ sym (length-map nodes.items node_tree))
