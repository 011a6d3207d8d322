use Rattle.std.proofs.Common.{ap, ◌∙◌, option_copied, codes}
use Rattle.mdl_tree.specs.Spelling.{append_items, End}
use Rattle.mdl_tree.specs.Values.{items_of, section_tree}
use Rattle.mdl_library.specs.Items.{set_on, titled}
use Rattle.mdl_library.specs.Written.{inside_on}
use Rattle.mdl_library.specs.Held.{given_seen}
use Rattle.mdl_library.specs.HeldItems.{items_left}
use Rattle.mdl_library.proofs.HeadingLemmas.{block_built}
use Rattle.mdl_library.proofs.writing.Heading.block.Goals as goal

pub returns : goal.returns
returns c =
    let line = c.args.self.now.line in
    let kind = option_copied c.args.self.now.kind in
    block_built line kind (option_copied c.args.self.now.name) (given_seen c.args.given.now) (section_tree c.args.block.now).items
    (inside_on line (items_left c.args.system)) (items_of c.push_titled.new.items.items) (items_of c.push_titled-2.new.items.items)
    (items_of c.settle.new.items.items) (items_of c.push_system.new.items.items)
    (c.in_ok-push_titled.ensures
    ∙ ap (λ xs. append_items (items_of xs) (set_on line (titled (codes "BlockType") kind) End)) c.new-items.ensures.items)
    c.in_ok-push_titled-2.ensures c.in_ok-settle.ensures c.in_ok-push_system.ensures
