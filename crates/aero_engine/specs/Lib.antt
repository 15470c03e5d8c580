-- To be believed: Slots (what has a last event), Takes (whose clocks an event takes), Clocks (their rules), Judgement
-- (what is to be told), Events (an event, and which one no rule speaks of) and Laws.
pub mod Slots
pub mod Takes
pub mod Clocks
pub mod Judgement
pub mod Laws
pub mod Events
pub mod Given
pub mod Protocol
pub mod Judging
