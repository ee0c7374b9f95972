pub mod Ascii
pub mod Records
pub mod Decimals
pub mod Scan
pub mod Put
