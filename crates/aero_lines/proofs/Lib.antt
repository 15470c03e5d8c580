pub mod Bytewise
pub mod Capped
pub mod Steps
pub mod Runs
pub mod Vectors
