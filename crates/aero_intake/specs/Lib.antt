-- To be believed: Source (what was read of a source), Intake (which pieces came, are held, and were cut or passed
-- over), Plans and PlanTerms (what a plan may say, and its terms) and Laws. Also Held and Lives (on what terms a source
-- is judged, what is kept of it, or judged as it comes, and when that decides), Begun (which listed labels begin a block),
-- Surveys (what is noted of chunks beside the verdict) and Tracks (how far it is).
-- For proofs alone: Stories (what a run knows of a source meanwhile), which proofs of aero_batch use.
pub mod Alone
pub mod Begun
pub mod Held
pub mod Intake
pub mod Laws
pub mod Lives
pub mod PlanTerms
pub mod Plans
pub mod Source
pub mod Stories
pub mod Surveys
pub mod Tracks
