pub mod Words
pub mod Limits
pub mod Record
pub mod Places
pub mod Sound
pub mod Facts
pub mod Fresh
pub mod Check
