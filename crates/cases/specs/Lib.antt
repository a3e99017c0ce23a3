pub mod Question
pub mod Rows
