mod RowOps
mod Renaming
mod SystemNames
mod Samples
