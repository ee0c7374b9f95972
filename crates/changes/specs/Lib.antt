pub mod Values
pub mod Fields
pub mod Changes
pub mod Words
