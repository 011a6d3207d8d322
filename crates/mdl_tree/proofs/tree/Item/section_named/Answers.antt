use Rattle.std.proofs.Common.{sym, ap, ◌∙◌}
use Rattle.std.specs.Prelude.{bytes_eq}
use Rattle.mdl_tree.specs.Spelling.{End}
use Rattle.mdl_tree.specs.Values.{items_of, item_alone}
use Rattle.mdl_tree.specs.Walks.{sections_named}
use Rattle.mdl_tree.proofs.lemmas.Rows.{section_in}
use Rattle.mdl_tree.proofs.lemmas.Sections.{sections_named-yes}
use Rattle.mdl_tree.proofs.tree.Item.section_named.Goals as goal

pub returns-then-eq : goal.returns-then-eq
returns-then-eq c =
    let name = c.args.name.now in
    let inside = c.in-Section.inside in
    let same = ap (λ n. bytes_eq n name) (sym c.bytes.ensures) ∙ sym c.eq.ensures ∙ c.if-eq.true in
    sym (ap (λ x. sections_named name (item_alone x)) c.in-Section.is ∙ ap (sections_named name) (section_in inside End)
    ∙ sections_named-yes name inside.name inside.line (items_of inside.items.items) End same)
