pub mod lemmas
pub mod Starts
pub mod RunLaws
pub mod ScriptLaws
pub mod LongFiles
pub mod ExecLaws
pub mod Drivers
