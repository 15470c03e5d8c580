-- To be believed: Executed (what goes out, and the exit status), with Failure, Status, Streams, Faults, Notes and Looks. Also
-- Command (the limits and the line on progress), Crews (how many workers there are), Inputs (files and standard input), Labels (what an input notes of labels), LabelFiles (labels in files), Led (what it has noted since it was made), Laws (what is told of files whose bytes are known), Sightings and Listing (the names of
-- the sources), Arguments (the words), Retries and Calls (calls that were interrupted), Starts, Reasons and Sizes. Nothing here serves proofs alone.
pub mod Executed
pub mod Arguments
pub mod Calls
pub mod Command
pub mod Crews
pub mod Failure
pub mod Faults
pub mod Inputs
pub mod LabelFiles
pub mod Labels
pub mod Laws
pub mod Led
pub mod Listing
pub mod Looks
pub mod Notes
pub mod Reasons
pub mod Retries
pub mod Sightings
pub mod Sizes
pub mod Starts
pub mod Status
pub mod Streams
pub mod Traces
