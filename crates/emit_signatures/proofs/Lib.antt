mod TakenPorts
mod OutParams
mod FieldSteps
