pub mod lemmas
mod PrunedPlaces
mod PrunedBodies
mod PrunedRules
mod PrunedShape
mod PrunedCode
mod PrunedTexts
