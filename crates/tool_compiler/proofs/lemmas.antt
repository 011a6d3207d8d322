pub mod PortTypes
