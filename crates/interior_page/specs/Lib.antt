pub mod InteriorCells
pub mod Paper
pub mod View
pub mod Plain
