-- To be believed: Near (near events), TransactionNumbers (transactions by numbers, and edges), Order (each time the least that may
-- come), Came (events by line and thread) and Laws. Also Standing (for which trace Transactions stands, and what it
-- keeps of the events that came), with LastNumbers (what is kept of last events).
-- For proofs alone: Held, Numbering, Starts, TargetWords, Waiting, and MarkWords, by which Standing reads the code's tables.
pub mod Near
pub mod Order
pub mod Waiting
pub mod TransactionNumbers
pub mod Came
pub mod Laws
pub mod Held
pub mod LastNumbers
pub mod MarkWords
pub mod Numbering
pub mod Standing
pub mod Starts
pub mod TargetWords
