pub mod Spreads
pub mod Spots
pub mod Changes
pub mod Rests
