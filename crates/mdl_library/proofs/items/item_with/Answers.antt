use Rattle.std.proofs.Common.{◌≡◌, None, ap, ◌∙◌}
use Rattle.mdl_tree.specs.Spelling as spelling
use Rattle.mdl_tree.specs.Spelling.{Items, append_items}
use Rattle.mdl_tree.specs.Values.{items_of, item_alone, section_tree}
use Rattle.mdl_library.specs.Items.{moved}
use Rattle.mdl_library.specs.HeldItems.{items_left, with_left}
use Rattle.mdl_library.proofs.ItemLemmas.{if_ok, with_here, with_other, with_nothing}
use Rattle.mdl_library.proofs.items.item_with.Goals as goal

pub returns-in_default : goal.returns-in_default
returns-in_default c =
    let name = c.args.name.now in
    let left = items_left c.args.left.now in
    let item = c.args.item.now in
    if_ok (λ new. item_alone new ≡ moved None (item_alone item))
    (λ new. (rest : Items) → append_items (item_alone new) (with_left name left rest) ≡ with_left name left (append_items (item_alone item) rest))
    c.moved_item.result (λ new is. with_other name left item c.in_default.ensures new is) c.moved_item.ensures

pub returns-in-Some-take : goal.returns-in-Some-take
returns-in-Some-take c =
    let name = c.args.name.now in
    let item = c.args.item.now in
    let inside = items_of c.in-Some-take.inside.items in
    let section = section_tree c.in-Some.section.now in
    if_ok (λ new. item_alone new ≡ spelling.Section c.bytes.result.now section.line inside spelling.End)
    (λ new. (rest : Items) → append_items (item_alone new) (with_left name (items_left c.take.new.self) rest)
    ≡ with_left name (items_left c.args.left.now) (append_items (item_alone item) rest))
    c.section_of.result (λ new is rest.
    ap (λ o. append_items (item_alone new) (with_left name (items_left o) rest)) c.take.ensures.after
    ∙ with_here name inside item section c.in-Some.ensures new
    (is ∙ ap (λ n. spelling.Section n section.line inside spelling.End) c.bytes.ensures) rest
    ∙ ap (λ o. with_left name (items_left o) (append_items (item_alone item) rest)) c.in-Some-take.ensures.value) c.section_of.ensures

pub returns-in-None : goal.returns-in-None
returns-in-None c =
    let name = c.args.name.now in
    let item = c.args.item.now in
    if_ok (λ new. item_alone new ≡ moved None (item_alone item))
    (λ new. (rest : Items) → append_items (item_alone new) (with_left name (items_left c.take.new.self) rest)
    ≡ with_left name (items_left c.args.left.now) (append_items (item_alone item) rest))
    c.moved_item-in-None.result (λ new is rest.
    ap (λ o. append_items (item_alone new) (with_left name (items_left o) rest)) c.take.ensures.after
    ∙ with_nothing item new is rest
    ∙ ap (λ o. with_left name (items_left o) (append_items (item_alone item) rest)) c.in-None.ensures.value) c.moved_item-in-None.ensures
