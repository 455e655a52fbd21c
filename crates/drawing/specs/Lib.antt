pub mod Streams
pub mod Grain
pub mod Digits
pub mod Drawing
pub mod Places
