-- To be believed: Founds (what was found of the first sources, and what was written), which is the headline of a run,
-- Notables (what is noted of a source beside its line) and Labels (which listed labels begin a block).
-- For proofs alone: Telling, by which runs and lanes tell the next source.
pub mod Founds
pub mod Labels
pub mod Notables
pub mod Telling
