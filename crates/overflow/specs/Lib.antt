pub mod Reference
pub mod Paged
pub mod Paper
pub mod View
pub mod Plain
