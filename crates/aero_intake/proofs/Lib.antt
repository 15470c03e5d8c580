mod AloneSteps
pub mod AsFar
pub mod Begins
pub mod Decided
pub mod Decisive
mod Filled
pub mod Judged
mod Joining
pub mod Surveyed
pub mod Taken
pub mod Tracked
pub mod Values
pub mod Given
