-- The laws of texts that come in parts.
use Rattle.std.specs.Prelude.{◌≡◌, ℕ, List, map}
use Rattle.std.specs.List.{concat}
use Rattle.aero_model.specs.Lines.{AreBlocks, cap}
use Rattle.aero_grammar.specs.Reading.{reading_of, whole_reading}

-- texts of whole lines read, one after the other, as the text that they make up
abbrev pub BlocksReadAsTheirJoin : Type 0
BlocksReadAsTheirJoin = (blocks : List (List ℕ)) → AreBlocks blocks → whole_reading (map reading_of blocks) ≡ reading_of (concat blocks)

-- what follows the first 4,097 bytes of a line that is too long changes nothing
abbrev pub CappedTextReadsAsTheText : Type 0
CappedTextReadsAsTheText = (bytes : List ℕ) → reading_of (cap bytes) ≡ reading_of bytes
