-- What the children of a system offer is where the names say.
use Rattle.std.specs.Prelude.{ℕ, List, map, flat_map, slice_index}
use Rattle.std.proofs.Common.{ap, ◌∙◌}
use Rattle.std.proofs.lemmas.Option.{get_or_from_slice_get}
use Rattle.modules_profile.specs.declared.ChildUse.{ChildUse}
use Rattle.modules_profile.specs.NodeFacts.{LocalsAreLawful}
use Rattle.modules_profile.proofs.lemmas.Members.{at-map}
use Rattle.emit_shape.specs.Heads.{Head, public_heads}
use Rattle.emit_shape.specs.Programs.{procedure_place}
use Rattle.right_linking.specs.Parts.{program_of}
use Rattle.right_linking.specs.Places.{SystemsHavePlaces}
use Rattle.right_linking.proofs.lemmas.AssembledPlaces.{positions}
use Rattle.right_program_rules.specs.Keeping.{OfferedStandByName}

pub offered_stand_by_name : LocalsAreLawful → SystemsHavePlaces → OfferedStandByName
offered_stand_by_name locals places a v place s i head stands at =
    let heads : List Head = flat_map (λ (u : ChildUse). public_heads u.header) (v.at s).local.children in
    let place_of : Head → ℕ = λ (z : Head). procedure_place (program_of a) z.name in
    ap (λ ns. slice_index ns i) (positions a v place s stands locals places)
    ∙ get_or_from_slice_get (map place_of heads) i (place_of head) 0 (at-map place_of heads i head at)
