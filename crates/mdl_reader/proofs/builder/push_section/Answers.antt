use Rattle.std.proofs.Common.{◌≡◌, OnOk, subst}
use Rattle.mdl_tree.specs.Spelling.{Items, End}
use Rattle.mdl_tree.specs.Values.{section_tree}
use Rattle.mdl_tree.proofs.lemmas.Rows.{section_in}
use Rattle.mdl_reader.specs.Building.{with_items}
use Rattle.mdl_reader.proofs.builder.push_section.Goals as goal

pub returns : goal.returns
returns c =
    let Grows : Items → Type 0 =
    λ items. OnOk c.push_item.result (section_tree c.push_item.new.section
    ≡ with_items (section_tree c.args.outer.now) items) in
    subst Grows (section_in c.args.section End) c.push_item.ensures
