pub mod CallSteps
pub mod InOrder
pub mod Places
pub mod Steps
pub mod Vectors
