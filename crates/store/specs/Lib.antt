pub mod Codes
pub mod Filled
pub mod Growing
pub mod Reads
pub mod Stores
