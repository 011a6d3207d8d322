mod Agreed
mod OwnSteps
mod WireLaws
mod Steps
mod NameSteps
mod NodeParts
mod ChildLaws
mod StateLaws
