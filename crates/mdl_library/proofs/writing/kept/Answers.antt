use Rattle.std.proofs.Common.{◌≡◌, None, sym, ap, ◌∙◌}
use Rattle.std.specs.Prelude.{Vec}
use Rattle.std.specs.declared.alloc.Global.{Global}
use Rattle.mdl_tree.specs.declared.tree.Item.{Item}
use Rattle.mdl_tree.specs.Values.{items_of, section_tree}
use Rattle.mdl_library.specs.Items.{moved}
use Rattle.mdl_library.specs.Written.{kept}
use Rattle.mdl_library.specs.HeldItems.{items_left}
use Rattle.mdl_library.proofs.ItemLemmas.{if_ok, moved_none}
use Rattle.mdl_library.proofs.writing.kept.Goals as goal

pub returns-in-None : goal.returns-in-None
returns-in-None c =
    let block = (section_tree c.args.block.now).items in
    if_ok (λ (new : Vec Item Global). items_of new.items ≡ moved None block)
    (λ (new : Vec Item Global). items_of new.items ≡ kept block (items_left c.args.system)) c.moved_items.result (λ new is. is
    ∙ moved_none block ∙ ap (λ o. kept block (items_left o)) (sym c.in-None.is)) c.moved_items.ensures
