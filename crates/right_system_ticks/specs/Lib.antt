pub mod Holding
pub mod CodeAccounts
pub mod OwnAccounts
pub mod OwnInstances
pub mod KeptTicks
pub mod ActLaws
pub mod ScheduleLaws
pub mod PlaceLaws
