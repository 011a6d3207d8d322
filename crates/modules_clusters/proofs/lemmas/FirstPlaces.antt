-- Where things first are in a list.
pub use Rattle.modules_clusters.proofs.Members.{is_some-position, found-at, has-head, has-tail}
