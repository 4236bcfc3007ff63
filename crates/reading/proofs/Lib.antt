pub mod Behind
pub mod Packing
pub mod Runs
pub mod Agree
pub mod Joins
pub mod Places
pub mod Sources
