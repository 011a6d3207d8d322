pub mod lemmas
pub mod NumberLaws
pub mod CallLaws
