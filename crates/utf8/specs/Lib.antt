pub mod Table
pub mod WellFormed
pub mod Scalar
pub mod Machine
pub mod Ascii
