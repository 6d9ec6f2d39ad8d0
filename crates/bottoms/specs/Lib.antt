pub mod Formats
pub mod Images
pub mod Named
pub mod Opening
