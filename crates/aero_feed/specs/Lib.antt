-- To be believed: Feeding (what a caller sees of a text that is fed, and when its verdict is certain).
-- For proofs alone: Reads (what is kept of a text that is judged as it comes).
pub mod Feeding
pub mod Reads
