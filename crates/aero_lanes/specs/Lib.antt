-- To be believed: nothing but what aero_telling has (Founds).
-- For proofs alone: Ends, Seats and Tellings, which only private functions cite.
pub mod Ends
pub mod Judged
pub mod Seats
pub mod Tellings
