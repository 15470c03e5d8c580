-- To be believed: Ending (for which trace EndingClocks stands). The contract of end cites Standing of aero_access, Events
-- of aero_engine, and aero_model.
-- For proofs alone: Ends (what the private function spread does to the clocks).
pub mod Ends
pub mod Ending
