-- To be believed: Statuses (the numbers that a call answers), Labels (labels as a text), Flags (the flags of a call), Numbers (a verdict as numbers), Answers (what a
-- call did to the trace).
-- For proofs alone: Held (what a pointer owns).
pub mod Answers
pub mod Flags
pub mod Held
pub mod Labels
pub mod Numbers
pub mod Statuses
