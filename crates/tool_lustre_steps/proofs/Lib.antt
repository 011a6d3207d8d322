pub mod LustreLaws
