-- What holds of whole runs.
use Rattle.std.specs.Prelude.{◌≡◌, ℕ, List}
use Rattle.std.specs.List.{concat}
use Rattle.aero_model.specs.Lines.{cap, AreBlocks}
use Rattle.aero_lines.specs.Cutting.{nothing_yet, blocks_from}

-- However a text was cut into pieces, the blocks joined are the capped text, and each block but the last ends a line.
abbrev pub BlocksAreTheText : Type 0
BlocksAreTheText =
    (pieces : List (List ℕ)) →
    (concat (blocks_from nothing_yet pieces) ≡ cap (concat pieces)) × AreBlocks (blocks_from nothing_yet pieces)
