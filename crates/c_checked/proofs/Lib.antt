pub mod PlaceLaws
