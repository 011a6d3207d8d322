mod CallCounts
mod ChildBases
mod PortTypes
