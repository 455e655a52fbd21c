pub mod Gf2
pub mod Gauss
pub mod Refusals
pub mod Matrices
