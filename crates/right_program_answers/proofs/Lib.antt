mod InstancePaths
mod ActsSoFar
mod GivenArguments
mod FoundOutputs
mod StepRoom
mod Drives
mod AnyOrder
