use Rattle.std.proofs.Common.{sym, ap, ◌∙◌, option_copied}
use Rattle.mdl_tree.specs.Spelling.{append_items, End}
use Rattle.mdl_tree.specs.Values.{items_of}
use Rattle.mdl_tree.proofs.lemmas.OneTree.{append_items-End}
use Rattle.mdl_library.specs.Items.{set_on, titled}
use Rattle.mdl_library.proofs.ItemLemmas.{items_of-push}
use Rattle.mdl_library.proofs.items.push_titled.Goals as goal

pub returns-in_ok-push-in-Some : goal.returns-in_ok-push-in-Some
returns-in_ok-push-in-Some c =
    let olds = c.args.items.now.items in
    ap items_of c.in_ok-push-in-Some.ensures.items ∙ items_of-push olds c.in_ok-param_of-in-Some.field-0
    ∙ ap (append_items (items_of olds)) (c.in_ok-param_of-in-Some.ensures
    ∙ ap (λ o. set_on c.args.line (titled c.args.name.now (option_copied o)) End) (sym c.in-Some.is))

pub returns-in-None : goal.returns-in-None
returns-in-None c =
    let olds = items_of c.args.items.now.items in
    sym (append_items-End olds)
    ∙ ap (λ o. append_items olds (set_on c.args.line (titled c.args.name.now (option_copied o)) End)) (sym c.in-None.is)
