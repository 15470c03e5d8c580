pub mod Spreading
pub mod AfterEnds
pub mod Answering
