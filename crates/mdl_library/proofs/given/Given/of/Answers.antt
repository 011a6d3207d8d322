use Rattle.std.proofs.Common.{option_copied}
use Rattle.mdl_tree.specs.Values.{section_tree}
use Rattle.mdl_library.proofs.GivenLemmas.{given_same}
use Rattle.mdl_library.proofs.given.Given.of.Goals as goal

pub returns : goal.returns
returns c =
    given_same c.in_ok-defaults.defaults (section_tree c.args.file.now).items (option_copied c.in_ok-source.source) c.in_ok-defaults.ensures
    c.in_ok-source.ensures
