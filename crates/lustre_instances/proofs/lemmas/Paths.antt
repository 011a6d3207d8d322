-- The node at the end of a path of calls to a system is that of the system; and the names of nodes are different.
pub use Rattle.lustre_instances.proofs.Texts.{nodes-apart}
pub use Rattle.lustre_instances.proofs.FileNodes.{IsNodeAt, IsFileOf, file-of}
pub use Rattle.lustre_instances.proofs.SystemPaths.{path-to-top, path-to-child}
pub use Rattle.lustre_instances.proofs.PathNodes.{node_along, node-at-path}
