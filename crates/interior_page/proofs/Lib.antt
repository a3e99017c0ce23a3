pub mod Dividers
pub mod DividerWriting
pub mod DividerView
pub mod DividerBack
pub mod Exact
