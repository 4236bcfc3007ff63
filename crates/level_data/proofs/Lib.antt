pub mod Materials
