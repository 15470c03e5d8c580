-- To be believed: Opened (the blocks that are open) and Finding (what is found of a source). Also Judging (what a judge was fed, and when its verdict
-- is certain). The verdict, the order and the cycle stand in aero_verdict.
-- For proofs alone: Recorded, Swept, InFull, Records, Shown and Spans.
pub mod Opened
pub mod Recorded
pub mod Swept
pub mod InFull
pub mod Shown
pub mod Finding
pub mod Judging
pub mod Records
pub mod Spans
