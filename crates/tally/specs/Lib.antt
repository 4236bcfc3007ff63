pub mod Sizes
pub mod Reaching
pub mod Answer
