mod Nodes
mod Passes
mod Looks
mod Flows
mod RightFiles
