-- To be believed: Numbers (a clock is its number at each thread, and what the calls do to it).
-- For proofs alone: Pairs, but for number_in, by which Numbers reads the list of pairs.
pub mod Pairs
pub mod Numbers
