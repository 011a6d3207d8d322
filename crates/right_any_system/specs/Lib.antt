pub mod AnySystem
