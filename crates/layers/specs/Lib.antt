pub mod Caching
pub mod Mirroring
