pub mod ChildProfiles
