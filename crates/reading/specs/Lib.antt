pub mod Bits
pub mod Packed
pub mod Slots
pub mod Reading
pub mod Trace
pub mod Sound
pub mod Single
pub mod Along
