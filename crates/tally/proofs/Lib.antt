pub mod Traces
pub mod Adding
pub mod Nodes
pub mod Holds
pub mod Offsets
pub mod Ranges
pub mod Following
