-- To be believed: Courses (what is told of a run), Gains (what a read or a write adds) and Texts (the line and what clears it). Nothing here serves proofs alone.
pub mod Courses
pub mod Gains
pub mod Texts
