use Rattle.std.proofs.Common.{ap, ◌∙◌}
use Rattle.mdl_tree.specs.Spelling as spelling
use Rattle.mdl_tree.specs.Values.{items_of}
use Rattle.mdl_tree.proofs.lemmas.Rows.{section_in}
use Rattle.mdl_library.proofs.items.section_of.Goals as goal

pub returns : goal.returns
returns c =
    section_in (record { name = c.in_ok-copy_of.field-0; line = c.args.line; items = c.args.items }) spelling.End
    ∙ ap (λ n. spelling.Section n c.args.line (items_of c.args.items.items) spelling.End) c.in_ok-copy_of.ensures
