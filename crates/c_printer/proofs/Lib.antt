pub mod lemmas
pub mod TokenLaws
pub mod PrintedLists
pub mod Lexing
pub mod TextReading
pub mod CommentLaws
pub mod PlainComments
pub mod HarmlessComments
pub mod Utf8Test
pub mod EndedLines
pub mod NotedLines
pub mod PrintedTrees
pub mod PrintedBodies
pub mod PrintedHeads
pub mod FieldPlaces
pub mod Params
pub mod PrintedResolving
pub mod PrintedScopes
pub mod PrintedProgram
pub mod AlikeBytes
pub mod AlikeNotes
mod SilentNotes
mod Utf8Comments
mod AlikeText
mod PrintedReading
pub mod PrintedProcedures
