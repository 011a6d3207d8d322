use Rattle.std.proofs.Common.{ap, ◌∙◌, codes}
use Rattle.mdl_tree.specs.Values.{section_tree}
use Rattle.mdl_library.specs.Items.{with_inside}
use Rattle.mdl_library.specs.Written.{model_written, most_inside}
use Rattle.mdl_library.specs.Held.{library_seen}
use Rattle.mdl_library.proofs.library.Library.expand.Goals as goal

pub returns-clause-written : goal.returns-clause-written
returns-clause-written c =
    c.in_ok-items.ensures
    ∙ ap (λ x. with_inside (codes "Model") x (section_tree c.args.file.now).items)
    (c.in_ok-inside.ensures ∙ ap (model_written most_inside (library_seen c.args.self.now)) c.requires)
