pub mod Hands
pub mod Rising
