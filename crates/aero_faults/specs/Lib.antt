-- To be believed: Hindrances (what stands in the way of an event with a fault), with Before, Holders and Firsts, and
-- Sentences (what is told), with Texts. Also Searches and Opened (what a search has seen, and tells).
-- Looks: what a second reading of a source saw of its faulty line.
-- For proofs alone: Holding.
pub mod Before
pub mod Firsts
pub mod Hindrances
pub mod Holders
pub mod Looks
pub mod Opened
pub mod Searches
pub mod Sentences
pub mod Texts
pub mod Holding
