use Rattle.std.proofs.Common.{◌≡◌, ◌++◌, drop}
use Rattle.mdl_tree.specs.Values.{items_of}
use Rattle.mdl_params.specs.Defaults.{values_of}
use Rattle.mdl_params.specs.Texts.{plain_texts}
use Rattle.mdl_params.proofs.texts.texts_of.Given as goal

abbrev pub invariant-loop-item : goal.invariant-loop-item
invariant-loop-item l = plain_texts l.texts.items ++ values_of (items_of (drop l.item-index l.item-items))
    ≡ values_of (items_of l.fn.section.items.items)
