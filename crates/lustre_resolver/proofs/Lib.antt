mod Walks
mod EquationLaws
mod Views
mod GivenLaws
