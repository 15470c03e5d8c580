-- To be believed: Admission (what an event is that is admitted) and Standing (for which list of events a shape stands).
-- For proofs alone: Told, and States but for the words in which Standing speaks of the code's tables.
pub mod States
pub mod Told
pub mod Admission
pub mod Standing
