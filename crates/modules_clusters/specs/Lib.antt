pub mod Classes
pub mod ClassBits
pub mod Clusters
pub mod NodeGroups
pub mod Grouping
pub mod GroupExamples
