-- To be believed: Lines, Names, Named and Numbering say what texts, names and their numbers are. Blocks, Exempt,
-- BlockCounts, Graph and Cycle speak of transactions, exempt blocks, conflicts and telling cycles. Shape has the rules
-- of well-formed traces, Serial the serial order, Ended the events where blocks end without an end in the trace, and
-- Excused traces in which more begins are exempt. CallCounts speaks of readers and writers. Verdicts speaks of the
-- faults of verdicts, the verdicts of findings and their counts, Terms of what is asked for, and Words has faults in words.
-- Excepts and LimitNumbers have the greatest numbers of labels and of limits. Laws says what they imply.
-- For proofs alone: Deciding, which a private function of aero_witness cites.
pub mod BlockCounts
pub mod Blocks
pub mod CallCounts
pub mod Cycle
pub mod Deciding
pub mod Ended
pub mod Excused
pub mod Excepts
pub mod Exempt
pub mod Graph
pub mod Laws
pub mod LimitNumbers
pub mod Lines
pub mod Named
pub mod Names
pub mod Numbering
pub mod Serial
pub mod Shape
pub mod Terms
pub mod Verdicts
pub mod Words
