-- To be believed: Cutting (what is kept between pieces, and the block that a piece gives) and Laws (the blocks joined
-- are the text). What a line is stands in Lines of aero_model.
-- For proofs alone: none.
pub mod Cutting
pub mod Laws
