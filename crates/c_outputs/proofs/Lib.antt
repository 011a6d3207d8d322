pub mod NameLists
pub mod OutputLaws
pub mod NumberNames
pub mod RootLaws
