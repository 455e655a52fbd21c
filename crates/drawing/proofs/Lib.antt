pub mod Register
pub mod Taking
pub mod Pieces
pub mod Keeping
pub mod Sets
pub mod Standing
