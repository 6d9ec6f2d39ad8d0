pub mod Bytes
pub mod Places
pub mod Named
pub mod Changes
pub mod Lent
