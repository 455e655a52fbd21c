pub mod Packing
pub mod Boxes
pub mod Turns
pub mod Admitted
