mod Placed
mod Pieces
mod CodeGroups
mod Agreed
mod GroupCalls
mod WholeCode
