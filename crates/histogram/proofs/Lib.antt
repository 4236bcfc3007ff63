pub mod Counts
pub mod Same
