pub mod Answers
pub mod Operations
pub mod Forgetting
pub mod Steps
