-- To be believed: Telling (telling cycles, and the shortest), Parts (transactions by their first places) and Trail
-- (what is recorded of a trace).
-- For proofs alone: Following, MarkWords, Marks, Kinds, Buckets, Left, Basis, Reached, Chosen, Levels, Search
-- and WayBack.
pub mod Parts
pub mod Telling
pub mod Following
pub mod MarkWords
pub mod Kinds
pub mod Buckets
pub mod Left
pub mod Marks
pub mod Basis
pub mod Reached
pub mod Chosen
pub mod Levels
pub mod Search
pub mod WayBack
pub mod Trail
pub mod Led
pub mod Thinned
