use Rattle.std.proofs.Common.{ap, ◌∙◌}
use Rattle.mdl_tree.specs.Spelling.{Items}
use Rattle.mdl_tree.specs.Values.{items_of}
use Rattle.mdl_tree.specs.Walks.{SectionTree}
use Rattle.mdl_reader.proofs.SectionLemmas.{items_of-push}
use Rattle.mdl_reader.proofs.builder.push_item.Goals as goal

pub returns : goal.returns
returns c =
    let section = c.args.section.now in
    let with_these : Items → SectionTree = λ items. record { name = section.name; line = section.line; items = items } in
    ap (λ items. with_these (items_of items)) c.in_ok-push.ensures.items ∙ ap with_these (items_of-push section.items.items c.args.item)
