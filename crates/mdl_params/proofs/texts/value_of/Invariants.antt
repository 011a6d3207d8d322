use Rattle.std.proofs.Common.{◌≡◌, drop}
use Rattle.mdl_params.specs.BlockTypes.{beside}
use Rattle.mdl_params.specs.Texts.{plain_texts}
use Rattle.mdl_params.proofs.texts.value_of.Given as goal

abbrev pub invariant-loop-text : goal.invariant-loop-text
invariant-loop-text l = beside l.name (plain_texts (drop l.text-index l.texts)) ≡ beside l.name (plain_texts l.fn.texts)
