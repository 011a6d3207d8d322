use Rattle.std.proofs.Common.{◌≡◌, drop}
use Rattle.mdl_tree.specs.Values.{items_of, section_tree}
use Rattle.mdl_params.specs.Language.{plain_parameters}
use Rattle.mdl_library.specs.Held.{given_seen}
use Rattle.mdl_library.proofs.HeadingLemmas.{settle_all}
use Rattle.mdl_library.proofs.given.Given.settle.Given as goal

abbrev pub invariant-loop-parameter : goal.invariant-loop-parameter
invariant-loop-parameter l =
    settle_all (given_seen l.self) (section_tree l.block).items l.kind l.line (items_of l.items.items)
    (plain_parameters (drop l.parameter-index l.parameter-items))
    ≡ settle_all (given_seen l.self) (section_tree l.block).items l.kind l.line (items_of l.fn.items.items)
    (plain_parameters l.parameter-items)
