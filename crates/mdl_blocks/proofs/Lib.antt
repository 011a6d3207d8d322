pub mod lemmas
pub mod PeerLemmas
pub mod SameType
pub mod FirstFaultLemmas
