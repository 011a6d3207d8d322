mod Steps
mod OutNames
mod CodePlaces
mod ChildNames
mod MovedRows
mod Programs
mod RootCode
