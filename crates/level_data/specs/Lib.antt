pub mod Forms
pub mod Data
