use Rattle.std.proofs.Common.{◌≡◌, ℕ, List, drop, codes}
use Rattle.std.specs.Option.{option_or}
use Rattle.mdl_tree.specs.Values.{items_of}
use Rattle.mdl_tree.specs.Walks.{sections_named}
use Rattle.mdl_params.specs.BlockTypes.{beside}
use Rattle.mdl_params.specs.Defaults.{kinds_of}
use Rattle.mdl_params.specs.Texts.{plain_kinds}
use Rattle.mdl_params.proofs.defaults.read_kinds.Given as goal

abbrev pub invariant-loop-item : goal.invariant-loop-item
invariant-loop-item l = (kind : List ℕ) →
    option_or (beside kind (plain_kinds l.kinds.entries))
    (beside kind (kinds_of (sections_named (codes "Block") (items_of (drop l.item-index l.item-items)))))
    ≡ beside kind (kinds_of (sections_named (codes "Block") (items_of l.item-items)))
