pub mod Lengths
pub mod Below
pub mod Same
pub mod Exact
