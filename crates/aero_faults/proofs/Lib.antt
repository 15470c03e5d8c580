mod Counts
mod Explains
mod Holders
mod Looking
mod Parts
