pub mod Ported
