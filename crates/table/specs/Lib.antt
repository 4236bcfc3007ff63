pub mod Kinds
pub mod Table
pub mod Buffers
pub mod Paths
pub mod Unread
pub mod Upward
