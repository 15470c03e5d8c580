pub mod Pushed
pub mod Traces
pub mod Rounds
pub mod Told
pub mod Changes
pub mod Stands
pub mod Accesses
pub mod Vectors
