-- To be believed: Crews (what was posted, and how many workers there are) and Laws.
-- For proofs alone: Shifts. Of it number_of tells how the view of Crew reads the jobs.
pub mod Crews
pub mod Laws
pub mod Shifts
