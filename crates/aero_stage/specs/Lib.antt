-- To be believed: Rule (what was posted, and where it is), Ends (what a poster and a taker know) and Steps (each change
-- is a step of the schedule). Also Lists (a part of a list in order, and a beginning), which Rule and Ends use. Nothing
-- here serves proofs alone.
pub mod Ends
pub mod Lists
pub mod Rule
pub mod Steps
