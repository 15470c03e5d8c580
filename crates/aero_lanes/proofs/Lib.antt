pub mod Backs
pub mod Seated
pub mod Sending
pub mod Tellings
