pub mod Examples
pub mod Checksums
