-- To be believed: Listing (different names, no more than a limit, and what numbering one says) and Laws (when an event has too many names).
-- For proofs alone: Additions (what one more name or event adds, also for private functions of other crates), Hash,
-- Indexed, Keys. Ends tells how the view of NameList reads its one text.
pub mod Ends
pub mod Hash
pub mod Indexed
pub mod Keys
pub mod Listing
pub mod Additions
pub mod Laws
