-- Events that come one by one, as lines that were never written.
use Rattle.std.specs.Prelude.{ℕ, ◌*◌, ◌-◌, ◌≤◌, Bool, List, None}
use Rattle.aero_model.specs.declared.numbered.Numbered.{Numbered}
use Rattle.aero_grammar.specs.Lists.{lists_in, labels_in, HasRoom}
use Rattle.aero_grammar.specs.Reading.{Reading}
use Rattle.aero_grammar.specs.Tabled.{lines_in, IsBlock}
use Rattle.aero_grammar.specs.declared.tables.Tables.{Tables as Kept}

-- What a caller sees of them: what the lines say, and whether one was refused
pub record Batched : Type 0 where
  pub reading : Reading
  pub is_spent : Bool

-- how many lines there may be
abbrev pub most_lines : ℕ
most_lines = 2147483647

-- what so many lines with these events say
abbrev pub said_by : Kept → List (ℕ × Numbered) → ℕ → Reading
said_by tables events lines = record { events = lines_in (lists_in tables) (labels_in tables) events; lines = lines; fault = None }

-- they are as those of a block that was read, and there is room for the names of each line that may come
pub record IsBatch (tables : Kept) (events : List (ℕ × Numbered)) (lines : ℕ) : Type 0 where
  pub block : IsBlock (lists_in tables) (labels_in tables) events lines None
  pub room : HasRoom tables (2 * (most_lines - lines))
  pub few : lines ≤ most_lines
