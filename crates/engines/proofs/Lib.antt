pub mod Shares
pub mod Filling
