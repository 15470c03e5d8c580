pub mod Ends
pub mod SameVerdict
pub mod Texts
