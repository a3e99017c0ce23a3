pub mod PagedEntries
pub mod References
pub mod RefWriting
pub mod LeafView
pub mod RefBack
pub mod Exact
