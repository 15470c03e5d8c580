-- To be believed: Values (what the value of a question is), Schedule (what may happen to questions, answers and jobs),
-- Invariants (what every schedule keeps) and Laws. Nothing here serves proofs alone.
pub mod Invariants
pub mod Laws
pub mod Schedule
pub mod Values
