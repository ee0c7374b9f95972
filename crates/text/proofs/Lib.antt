pub mod Decimals
pub mod Records
pub mod Scan
pub mod Whole
pub mod Padded
pub mod Put
