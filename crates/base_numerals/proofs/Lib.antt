pub mod lemmas
pub mod LiteralLaws
