pub mod Spans
pub mod Growths
