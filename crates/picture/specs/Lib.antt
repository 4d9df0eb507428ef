pub mod Scale
pub mod Elements
pub mod Lanes
pub mod Bands
pub mod Heading
pub mod Picture
