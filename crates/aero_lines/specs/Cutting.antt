-- The cutting of a text that comes in pieces into blocks of whole lines.
use Rattle.std.specs.Prelude.{◌≡◌, ◌≤◌, ℕ, ◌==◌, Bool, true, false, if◌then◌else◌, List, [], ◌∷◌, ◌++◌, length, Option, None, Some, option_to_list}
use Rattle.std.specs.List.{list_any}
use Rattle.aero_model.specs.Lines.{is_line_end, most_line_bytes, lines_of, is_too_long, cap, whole_lines, rest_of_text}

-- the bytes since the last cut, and whether nothing more is taken
pub record Cutting : Type 0 where
  pub rest : List ℕ
  pub shut : Bool

-- before the first piece
abbrev pub nothing_yet : Cutting
nothing_yet = record { rest = []; shut = false }

abbrev pub has_too_long : List ℕ → Bool
has_too_long bytes = list_any is_too_long (lines_of bytes)

-- the front of a line that may go on
pub record IsOpenLine (line : List ℕ) : Type 0 where
  pub no_end : list_any is_line_end line ≡ false
  pub short : length line ≤ most_line_bytes

-- the bytes, if there are any
abbrev pub unless_empty : List ℕ → Option (List ℕ)
unless_empty bytes = if length bytes == 0 then None else Some bytes

-- what a cutting becomes with one more piece: it is shut where a line is too long, else the line that is not whole yet is kept
unfoldable pub fed : Cutting → List ℕ → Cutting
fed c piece =
    if c.shut then c else
    if has_too_long (c.rest ++ piece) then record { rest = []; shut = true } else
    record { rest = rest_of_text (c.rest ++ piece); shut = false }

-- the block that the piece gives: all lines that are whole now, or the text up to where a line is too long
unfoldable pub block_of : Cutting → List ℕ → Option (List ℕ)
block_of c piece =
    if c.shut then None else
    if has_too_long (c.rest ++ piece) then Some (cap (c.rest ++ piece)) else
    unless_empty (whole_lines (c.rest ++ piece))

-- the block that the end of the text gives: the last line, where no byte 10 ends it
unfoldable pub last_block : Cutting → Option (List ℕ)
last_block c = if c.shut then None else unless_empty c.rest

-- the blocks of a run: the pieces are fed one after the other, and then the text ends
abbrev pub blocks_from : Cutting → List (List ℕ) → List (List ℕ)
blocks_from c [] = option_to_list (last_block c)
blocks_from c (piece ∷ pieces) = option_to_list (block_of c piece) ++ blocks_from (fed c piece) pieces
