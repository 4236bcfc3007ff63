pub mod Rows
pub mod Dremel
