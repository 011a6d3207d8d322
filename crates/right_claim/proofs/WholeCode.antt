-- The sample of whole right code has all its parts.
use Rattle.std.specs.Prelude.{refl, [], ◌∷◌}
use Rattle.base_core.specs.Interface.{NeedsAreLeast}
use Rattle.diagram_meaning.specs.Laws.{LoopFreeHasOneRun}
use Rattle.modules_profile.specs.NodeFacts.{ProfilesAreOne}
use Rattle.right_claim.specs.Right.{IsCodeFor, IsFunctionCount}
use Rattle.right_claim.specs.WholeSamples.{later_five, whole_program}
use Rattle.right_claim.proofs.WholeRuns.{whole-runs}
use Rattle.right_claim.proofs.WholeFaces.{child_needs, top_needs, child_least, top_least}
use Rattle.right_claim.proofs.WholeShape.{whole_shape}
use Rattle.right_claim.proofs.WholeScripts.{child_answers, top_answers}
use Rattle.right_claim.proofs.WholeRenewals.{child_renews, top_renews, whole_restarts}

pub whole_code : LoopFreeHasOneRun → NeedsAreLeast → ProfilesAreOne → IsCodeFor whole_program later_five [] 1
whole_code runs needs profiles = record {
  runs = whole-runs runs;
  least = (top_least needs, (child_least needs, tt));
  shape = whole_shape;
  any_order = (top_answers runs profiles, (child_answers runs profiles, tt));
  renewed = (top_renews runs profiles, (child_renews runs profiles, tt));
  restarted = whole_restarts runs profiles;
}

-- the root and the child have one function each
two_functions : IsFunctionCount later_five 2
two_functions = record { needs = (0 ∷ []) ∷ (0 ∷ []) ∷ []; are_needs = (top_needs, (child_needs, tt)); count = refl }
