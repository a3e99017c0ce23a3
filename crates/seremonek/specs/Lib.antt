pub mod Interface
pub mod Keyed
