pub mod Appended
mod Cuts
pub mod Names
pub mod Numbers
pub mod Readable
pub mod Tokens
pub mod Vectors
pub mod Written
