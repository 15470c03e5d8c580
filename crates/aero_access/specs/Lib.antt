-- To be believed: Standing (for which trace Clocks stands), States (what that asks of what is kept) and Led (how slots
-- are listed). What has a clock, by which rules, and what is to be told stands in aero_engine.
-- For proofs alone: Heeds, Indexed, Table, Threads, StateWords, and what Standing and States don't name of LastClocks, Led
-- and TableWords.
pub mod Led
pub mod LastClocks
pub mod Threads
pub mod Table
pub mod TableWords
pub mod States
pub mod Heeds
pub mod Indexed
pub mod StateWords
pub mod Standing
