pub mod AnyModel
