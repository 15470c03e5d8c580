-- To be believed: Verdict (the verdict on parts under rules), Ordered (the order by lines and steps), Explained (the cycle
-- that shows a violation) and Laws. Also Fed (what a monitor was fed, and when its verdict is certain) and Actors. What an engine is given and
-- answers stands in aero_engine, and what is found of a source in aero_judge.
-- For proofs alone: Naming, Limited, Begun, Known, Standing, Ending, InOrder, Spots and Parts. Monitored tells how the view of Monitor reads its state, and
-- what is told of its engine.
pub mod Naming
pub mod Limited
pub mod Begun
pub mod Known
pub mod Standing
pub mod Verdict
pub mod Ordered
pub mod Explained
pub mod InOrder
pub mod Actors
pub mod Spots
pub mod Parts
pub mod Ending
pub mod Fed
pub mod Monitored
pub mod Laws
