pub mod Parts
pub mod Plain
pub mod Words
pub mod Examples
