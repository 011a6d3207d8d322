pub mod AlikePrograms
pub mod OwnMasks
