-- A profile has a function for each different need, and no exact interface has fewer.
use Rattle.std.proofs.Common.{◌≡◌, ℕ, ◌∙◌, List, length, ap, arith}
use Rattle.std.proofs.lemmas.List.{length-map}
use Rattle.base_core.specs.Interface.{different, NeedsAreLeast}
use Rattle.diagram_meaning.specs.Rows.{outports_of}
use Rattle.modules_profile.specs.Functions.{function_for}
use Rattle.modules_profile.specs.NodeFacts.{ProfilesAreLeast}
use Rattle.modules_profile.proofs.OneProfile.{one_needs}

pub profiles_are_least : NeedsAreLeast → ProfilesAreLeast
profiles_are_least law d s profile needs interface is are lawful exact =
    let same = one_needs d s (outports_of d.rows s) is.needs needs is.are_needs are in
    let count : length profile.functions ≡ length (different is.needs) =
    ap length is.functions ∙ length-map (different is.needs) (function_for is.needs) in
    let fewer = law interface needs lawful exact in
    omega (arith, ap (λ (xs : List ℕ). length (different xs)) same)
