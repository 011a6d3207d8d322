use Rattle.std.proofs.Common.{sym, ap, ◌∙◌}
use Rattle.mdl_tree.specs.Spelling.{append_items}
use Rattle.mdl_tree.specs.Values.{items_of}
use Rattle.mdl_tree.proofs.lemmas.OneTree.{append_items-End}
use Rattle.mdl_library.specs.Written.{inside_on}
use Rattle.mdl_library.specs.HeldItems.{items_left}
use Rattle.mdl_library.proofs.ItemLemmas.{items_of-push}
use Rattle.mdl_library.proofs.writing.push_system.Goals as goal

pub returns-in_ok-push-in-Some : goal.returns-in_ok-push-in-Some
returns-in_ok-push-in-Some c =
    let olds = c.args.items.now.items in
    ap items_of c.in_ok-push-in-Some.ensures.items ∙ items_of-push olds c.in_ok-section_of-in-Some.field-0
    ∙ ap (append_items (items_of olds)) (c.in_ok-section_of-in-Some.ensures
    ∙ ap (λ o. inside_on c.args.line (items_left o)) (sym c.in-Some.is))

pub returns-in-None : goal.returns-in-None
returns-in-None c =
    let olds = items_of c.args.items.now.items in
    sym (append_items-End olds) ∙ ap (λ o. append_items olds (inside_on c.args.line (items_left o))) (sym c.in-None.is)
