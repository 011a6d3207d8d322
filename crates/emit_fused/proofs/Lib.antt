pub mod lemmas
mod SameReads
mod KeptFields
mod FusedParts
mod FusedRefines
mod FusedLawful
mod FusedLines
mod Rows
mod TurnedLists
mod StraightBodies
