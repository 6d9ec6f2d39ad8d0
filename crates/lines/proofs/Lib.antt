pub mod Lines
pub mod WritingBack
