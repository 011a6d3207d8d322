pub mod PlainCertificate
pub mod Sound
pub mod SoundExamples
