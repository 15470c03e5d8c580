-- To be believed: Gathered (the open questions, and what each call does), Given (what is given of one) and Laws.
-- Nothing here serves proofs alone.
pub mod Gathered
pub mod Given
pub mod Laws
