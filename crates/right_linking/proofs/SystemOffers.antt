-- Each system offers in a program what its code does: what its procedures call and read is found alike in both.
use Rattle.std.specs.Prelude.{◌≡◌, ◌⊎◌, ℕ, ◌-◌, ◌<◌, ◌≤◌, length, slice_get, Option, Some}
use Rattle.std.proofs.Common.{sym, subst}
use Rattle.modules_profile.specs.NodeFacts.{LocalsAreLawful}
use Rattle.right_linking.specs.Parts.{Parts, all_systems, Views}
use Rattle.right_linking.specs.Places.{SystemsHavePlaces, FieldsAreFound}
use Rattle.right_linking.specs.Offers.{NamesAgree, SystemsOfferTheirs, ProceduresFollow}
use Rattle.right_linking.proofs.CalledNames.{called}
use Rattle.right_linking.proofs.OfferedPlaces.{routines-long, offered}
use Rattle.right_linking.proofs.OutputPlaces.{outputs}

names-agree : LocalsAreLawful → SystemsHavePlaces → FieldsAreFound → (a : Parts) (v : Views a) (place : ℕ) (s : Option ℕ) →
    slice_get (all_systems a) place ≡ Some s → NamesAgree a v place s
names-agree locals places fields a v place s stands = record {
  called = λ j q at k has.
      subst (λ n. (k < j) ⊎ ((length (v.at s).code.procedures ≤ k) × (k - length (v.at s).code.procedures < n)))
      (sym (routines-long a v place s stands))
      (called a v place s stands j q at k has);
  offered = offered a v place s stands locals places;
  outputs = outputs fields a v place s stands;
}

pub systems_offer_theirs : LocalsAreLawful → SystemsHavePlaces → FieldsAreFound → ProceduresFollow → SystemsOfferTheirs
systems_offer_theirs locals places fields follow a v place s stands =
    follow a v place s stands (names-agree locals places fields a v place s stands)
