pub mod Lanes
pub mod Batches
