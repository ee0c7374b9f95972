pub mod Parts
pub mod Table
pub mod Fields
pub mod Values
pub mod Pokes
pub mod Words
pub mod Poked
