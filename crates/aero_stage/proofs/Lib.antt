pub mod Places
pub mod Parts
pub mod Rules
pub mod Steps
