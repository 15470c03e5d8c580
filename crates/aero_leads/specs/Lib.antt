-- To be believed: Standing (for which trace Leads stands), with States and Leads (what that asks of what is kept), Leasts
-- (the least place of a row) and Laws (what it tells). What is to be told is said by Judgement of aero_engine.
-- For proofs alone: Marks and Steps (what an event takes and changes), Indexed, Listed, Seen, Lows, Highs, Passed, Single, Gaining, Handing, and
-- what Standing and States don't name of Kept.
pub mod Leads
pub mod Leasts
pub mod Laws
pub mod Marks
pub mod Steps
pub mod Kept
pub mod Indexed
pub mod Listed
pub mod Seen
pub mod Lows
pub mod Highs
pub mod Passed
pub mod Single
pub mod Gaining
pub mod Handing
pub mod States
pub mod Standing
