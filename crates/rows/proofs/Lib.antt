pub mod Dremel
pub mod Examples
