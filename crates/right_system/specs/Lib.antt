pub mod EmittedOk
