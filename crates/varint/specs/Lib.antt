pub mod Leb
pub mod Standard
pub mod Zigzag
pub mod Number
pub mod Scan
pub mod Word
