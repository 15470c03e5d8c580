pub mod Lists
pub mod Merges
