use Rattle.std.proofs.Common.{◌≡◌, None, ap, ap₂, ◌∙◌, codes}
use Rattle.std.specs.Prelude.{Vec}
use Rattle.std.specs.declared.alloc.Global.{Global}
use Rattle.mdl_tree.specs.declared.tree.Item.{Item}
use Rattle.mdl_tree.specs.Values.{items_of, section_tree}
use Rattle.mdl_library.specs.Items.{moved, with_inside, inside_first}
use Rattle.mdl_library.specs.Given.{given_by}
use Rattle.mdl_library.specs.Written.{model_written, most_inside, source_written, system_written}
use Rattle.mdl_library.specs.Held.{library_seen}
use Rattle.mdl_library.proofs.ItemLemmas.{if_ok, moved_none, with_absent, inside_some}
use Rattle.mdl_library.proofs.library.Library.model_written.Goals as goal

pub returns-in_default : goal.returns-in_default
returns-in_default c =
    let library = library_seen c.args.self.now in
    let model = (section_tree c.args.model.now).items in
    if_ok (λ (new : Vec Item Global). items_of new.items ≡ moved None model)
    (λ (new : Vec Item Global). items_of new.items ≡ model_written most_inside library model) c.moved_items.result (λ new is. is
    ∙ moved_none model
    ∙ with_absent (codes "System")
    (system_written library (given_by model) (source_written library most_inside) None (inside_first (codes "System") model)) model
    c.in_default.ensures) c.moved_items.ensures

pub returns : goal.returns
returns c =
    let library = library_seen c.args.self.now in
    let model = (section_tree c.args.model.now).items in
    if_ok (λ (new : Vec Item Global). items_of new.items ≡ with_inside (codes "System") (items_of c.in_ok-system.system.items) model)
    (λ (new : Vec Item Global). items_of new.items ≡ model_written most_inside library model) c.with_inside.result (λ new is. is
    ∙ ap (λ x. with_inside (codes "System") x model) (c.in_ok-system.ensures
    ∙ ap₂ (λ g x. system_written library g (source_written library most_inside) None x) c.requires
    (inside_some (codes "System") model (section_tree c.in-Some.system.now) c.in-Some.ensures))) c.with_inside.ensures
