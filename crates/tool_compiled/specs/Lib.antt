pub mod Compilation
