pub mod InputTree
