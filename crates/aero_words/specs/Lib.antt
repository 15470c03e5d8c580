-- To be believed: Line (the options, and what a command line asks for) and Labels (what a label is).
-- For proofs alone: Words (what clap's matches hold of each option).
pub mod Labels
pub mod Line
pub mod Words
