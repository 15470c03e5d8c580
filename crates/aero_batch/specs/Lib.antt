-- To be believed: Founds (what was found of the first sources, and what was written), which is the headline, and Notables
-- (what is noted of a source beside its line).
-- For proofs alone: Holding, Inquiries, Lending, Replies, Runs, Steps and Telling, which only private functions cite.
-- Inquiries and Replies say which questions are open, and which answers are of use.
pub mod Holding
pub mod Inquiries
pub mod Lending
pub mod Replies
pub mod Runs
pub mod Steps
pub mod Telling
